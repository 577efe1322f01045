-- What an archive has under way: a job, and files that wait for their removal.
use Rattle.std.specs.Prelude.{◌≡◌, ◌≢◌, ℕ, ◌+◌, ◌-◌, ◌<◌, ◌≤◌, ◌^◌, Bool, true, false, IsTrue, List, [], ◌∷◌, ◌++◌}
use Rattle.std.specs.Prelude.{take, map, replicate, Option, Some, None, IfSome}
use Rattle.std.specs.List.{AllByRecursion}
use Rattle.flow_disk.specs.Disk.{Held, Marks, IsImage}
use Rattle.flow_manifest.specs.declared.following.JobKind.{JobKind}
use Rattle.flow_manifest.specs.Following.{count_of, source_of}
use Rattle.flow_measure.specs.Sums.{Table, empty_table}
use Rattle.flow_rolled.specs.Rollup.{IsRollup}
use Rattle.flow_model.specs.State.{Job, StagedFile, State}
use Rattle.flow_model.specs.Jobs.{source_parts, width_made, IsJobSum, IsStagedAt}
use Rattle.flow_archive.specs.declared.job.JobStatus.{JobStatus}
use Rattle.flow_archive.specs.Frozen.{Frozen, IsAlone}
use Rattle.flow_archive.specs.Sources.{IsJobTime}

-- so many of these octets, followed by zeros where they are fewer
abbrev pub sized : ℕ → List ℕ → List ℕ
sized count octets = take count (octets ++ replicate count 0)

-- A file that a job has made: its number, whether it is on an honest disk, which reads as it is, and its octets. On a
-- disk that isn't honest only their count is sure.
pub record FrozenStaged : Type 0 where
  pub file : ℕ
  pub honest : Bool
  pub octets : List ℕ

-- the file that a frozen one is, by its number, its size, whether it is honest, and its octets
abbrev pub frozen_staged : {S : Type 0} → (S → ℕ) → (S → ℕ) → (S → Bool) → (S → List ℕ) → S → FrozenStaged
frozen_staged number size honest octets file =
    record { file = number file; honest = honest file; octets = sized (size file) (octets file) }

abbrev pub frozen_staged_in : {S : Type 0} → (S → ℕ) → (S → ℕ) → (S → Bool) → (S → List ℕ) → Option S
    → Option FrozenStaged
frozen_staged_in number size honest octets None = None
frozen_staged_in number size honest octets (Some file) = Some (frozen_staged number size honest octets file)

-- A job sums so many sources, the oldest of their kind: how many of them it has read, their sums, the greatest Export
-- Time in them, and the file that it has made of them.
pub record RunningJob : Type 0 where
  pub kind : JobKind
  pub sources : ℕ
  pub read : ℕ
  pub rows : Table
  pub time : ℕ
  pub staged : Option FrozenStaged

-- a job that has read nothing, and sums by this width
abbrev pub fresh : JobKind → ℕ → ℕ → RunningJob
fresh kind sources width =
    record { kind = kind; sources = sources; read = 0; rows = empty_table width; time = 0; staged = None }

-- The number of the next new file, the job, and the files that wait for their removal, the oldest first.
pub record UnderWay : Type 0 where
  pub next : ℕ
  pub job : Option RunningJob
  pub waiting : List Frozen

-- what an archive keeps of it
abbrev pub under_way_in : ℕ → Option RunningJob → List Frozen → UnderWay
under_way_in next job waiting = record { next = next; job = job; waiting = waiting }

-- nothing is under way
abbrev pub none_under_way : ℕ → UnderWay
none_under_way next = record { next = next; job = None; waiting = [] }

-- ---- in the state

abbrev pub staged_file : FrozenStaged → StagedFile
staged_file f = record { file = f.file; octets = f.octets }

abbrev pub staged_in : Option FrozenStaged → Option StagedFile
staged_in None = None
staged_in (Some f) = Some (staged_file f)

abbrev pub job_in : Option RunningJob → Option Job
job_in None = None
job_in (Some r) =
    Some (record { kind = r.kind; sources = r.sources; read = r.read; staged = staged_in r.staged })

abbrev pub numbers_of : List Frozen → List ℕ
numbers_of files = map (λ f. f.entry.file) files

-- the files that no manifest names: the one that a job has made, and those that wait for their removal
abbrev pub number_in : Option StagedFile → List ℕ
number_in None = []
number_in (Some staged) = staged.file ∷ []

abbrev pub job_numbers : Option Job → List ℕ
job_numbers None = []
job_numbers (Some job) = number_in job.staged

abbrev pub unnamed_in : UnderWay → List ℕ
unnamed_in work = job_numbers (job_in work.job) ++ numbers_of work.waiting

-- the status of a job, as it is answered
abbrev pub staged_number : Option StagedFile → Option ℕ
staged_number None = None
staged_number (Some staged) = Some staged.file

abbrev pub status_of : Option Job → Option JobStatus
status_of None = None
status_of (Some job) = Some (record {
  kind = job.kind;
  sources = job.sources;
  left = job.sources - job.read;
  staged = staged_number job.staged;
})

-- ---- what holds of it

-- a file that no entry names, with the number of one that was made before
pub record IsUnnamed (s : State) (file : ℕ) : Type 0 where
  pub from : 3 ≤ file
  pub below : file < s.next
  pub apart : AllByRecursion (λ e. e.file ≢ file) s.manifest.entries

-- The file that a job has made: all sources are read, a generation is left for the manifest that will name it, and on
-- an honest disk it is the rolled file of the sums, with the job's Export Time.
pub record IsStaged (honest : Bool) (s : State) (r : RunningJob) (f : FrozenStaged) : Type 0 where
  pub all : r.read ≡ r.sources
  pub generation : s.manifest.generation + 1 < 2 ^ 64
  pub unnamed : IsUnnamed s f.file
  pub honest_is : f.honest ≡ honest
  pub made : IsTrue honest
      → (rollup : IsRollup (width_made r.kind s.manifest) f.octets r.rows) × (rollup.time ≡ r.time)

-- A job, whatever the disk; and on an honest one its sums and its Export Time are those of what it has read.
pub record IsRunningJob (honest : Bool) (s : State) (r : RunningJob) : Type 0 where
  pub some : 1 ≤ r.sources
  pub few : r.sources ≤ count_of (source_of r.kind) s.manifest.entries
  pub read : r.read ≤ r.sources
  pub width : r.rows.width ≡ width_made r.kind s.manifest
  pub sums : IsTrue honest → IsJobSum r.kind s.manifest (take r.read (source_parts r.kind r.sources s)) r.rows
  pub time : IsTrue honest → IsJobTime r.kind (take r.read (source_parts r.kind r.sources s)) r.time
  pub staged : IfSome r.staged (IsStaged honest s r)

-- The staged file is on the disk, and is frozen.
pub record IsOnDisk {D : Type 0} (honest : D → Bool) (marks : D → ℕ → Marks) (held : D → ℕ → Held) (disk : D)
    (f : FrozenStaged) : Type 0 where
  pub frozen : (marks disk f.file).frozen ≡ true
  pub octets : IsTrue (honest disk) → (image : List ℕ) → IsImage (held disk f.file) image
      → IsStagedAt image (staged_file f)

-- A file waits for its removal: no entry names it. While the archive is open it is frozen.
pub record IsWaiting (marks : ℕ → Marks) (s : State) (closed : Bool) (f : Frozen) : Type 0 where
  pub unnamed : IsUnnamed s f.entry.file
  pub frozen : closed ≡ false → (marks f.entry.file).frozen ≡ true

-- no two of these numbers are the same
abbrev pub AllDiffer : List ℕ → Type 0
AllDiffer [] = Unit {0}
AllDiffer (n ∷ others) = AllByRecursion (λ o. o ≢ n) others × AllDiffer others

-- While an archive isn't shared, it alone has its files; and the files that no manifest names have numbers of their
-- own.
pub record HasOwnFiles (shared : Bool) (files : List Frozen) (work : UnderWay) : Type 0 where
  pub alone : shared ≡ false → AllByRecursion IsAlone files
  pub waiting : shared ≡ false → AllByRecursion IsAlone work.waiting
  pub differ : AllDiffer (unnamed_in work)

-- all that is under way
pub record IsUnderWay {D : Type 0} (honest : D → Bool) (marks : D → ℕ → Marks) (held : D → ℕ → Held) (disk : D)
    (s : State) (work : UnderWay) (closed : Bool) : Type 0 where
  pub job : IfSome work.job (IsRunningJob (honest disk) s)
  pub on_disk : closed ≡ false
      → IfSome work.job (λ r. IfSome r.staged (IsOnDisk honest marks held disk))
  pub waiting : AllByRecursion (IsWaiting (marks disk) s closed) work.waiting
