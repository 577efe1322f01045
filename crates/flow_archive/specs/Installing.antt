-- The install of a file that a job has made.
use Rattle.std.specs.Prelude.{◌≡◌, ◌≢◌, ℕ, ◌+◌, ◌<◌, ◌≤◌, ◌^◌, IsTrue, List, length, Option, Some, None}
use Rattle.std.specs.List.{AllByRecursion}
use Rattle.flow_disk.specs.Disk.{Held, AllImages}
use Rattle.flow_manifest.specs.declared.following.JobKind.{JobKind}
use Rattle.flow_manifest.specs.declared.following.JobKind.TheVariants.{Merge, Roll}
use Rattle.flow_manifest.specs.declared.manifest.Entry.{Entry}
use Rattle.flow_manifest.specs.declared.manifest.Manifest.{Manifest}
use Rattle.flow_manifest.specs.declared.slots.Slots.{Slots}
use Rattle.flow_manifest.specs.Following.{count_before, count_of, installed_manifest, made_entry, made_of, source_of}
use Rattle.flow_manifest.specs.Following.{sources_of}
use Rattle.flow_manifest.specs.Manifest.{IsValidManifest, manifest_octets}
use Rattle.flow_measure.specs.Sums.{Table}
use Rattle.flow_rolled.specs.Rollup.{IsRollup}
use Rattle.flow_segment.specs.Carry.{Carry}
use Rattle.flow_model.specs.State.{StagedFile, State}
use Rattle.flow_model.specs.Chain.{HandsOn}
use Rattle.flow_model.specs.Jobs.{IsStagedAt, replaced, staged_of, width_made}
use Rattle.flow_model.specs.Standing.{IsKnown}
use Rattle.flow_archive.specs.declared.event.Answer.{Answer}
use Rattle.flow_archive.specs.declared.event.Answer.TheVariants.{Installed, Merged}
use Rattle.flow_archive.specs.declared.refusal.ArchiveError.{ArchiveError}
use Rattle.flow_archive.specs.declared.refusal.ArchiveError.TheVariants.{OutOfMemory, NoRoll, RollNotDone}
use Rattle.flow_archive.specs.Frozen.{Frozen, IsAlone, IsHeldAs}
use Rattle.flow_archive.specs.UnderWay.{staged_file, FrozenStaged, RunningJob}

-- These numbers are those of an archive in which this file, of sums by the width of its job, is ready to take the place
-- of so many sources, and the body is that of the manifest that says so.
pub record IsInstall (files : ℕ → Held) (slots : Slots) (body : List ℕ) (kind : JobKind) (count : ℕ)
    (file : StagedFile) (s : State) : Type 0 where
  pub few : count ≤ count_of (source_of kind) s.manifest.entries
  pub valid : IsValidManifest (replaced s kind count file).manifest
  pub body_is : body ≡ manifest_octets (replaced s kind count file).manifest
  pub carry : Carry
  pub hands_on : HandsOn s carry
  pub table : Table
  pub sums : IsRollup (width_made kind s.manifest) file.octets table
  pub elsewhere : 3 ≤ file.file
  pub known : AllImages files (IsKnown slots s)
  pub staged : AllImages files (λ image. IsStagedAt (image file.file) file)

-- ---- what is written

-- What is known of the file that a job has made, before it is installed: no entry names it, its number is below the
-- next one, and there is a generation for the manifest that will name it.
pub record MayInstall (m : Manifest) (next : ℕ) (r : RunningJob) (f : FrozenStaged) : Type 0 where
  pub some : 1 ≤ r.sources
  pub few : r.sources ≤ count_of (source_of r.kind) m.entries
  pub generation : m.generation + 1 < 2 ^ 64
  pub from : 3 ≤ f.file
  pub below : f.file < next
  pub unnamed : AllByRecursion (λ e. e.file ≢ f.file) m.entries
  pub later : m.next ≤ next

-- the cut that a job has moved, by the manifest after the install
abbrev pub cut_in : JobKind → Manifest → Answer
cut_in Roll m = Installed m.rolled
cut_in Merge m = Merged m.second

-- The manifest that names the file of a job in place of its sources, its octets, the entry of the file and its place,
-- how many files it replaces, and the cut that it moves.
pub record IsReplacement (m : Manifest) (next : ℕ) (job : Option RunningJob) (now : Manifest) (body : List ℕ)
    (entry : Entry) (place sources : ℕ) (answer : Answer) : Type 0 where
  pub r : RunningJob
  pub f : FrozenStaged
  pub job_is : job ≡ Some r
  pub staged_is : r.staged ≡ Some f
  pub now_is : now ≡ installed_manifest m r.kind r.sources (staged_of (staged_file f)) next
  pub valid : IsValidManifest now
  pub body_is : body ≡ manifest_octets now
  pub entry_is : entry ≡ made_entry r.kind (staged_of (staged_file f)) (sources_of r.kind r.sources m.entries)
  pub place_is : place ≡ count_before (source_of r.kind) m.entries
  pub sources_is : sources ≡ r.sources
  pub answer_is : answer ≡ cut_in r.kind now

-- why there is none: the first of the refusals 44, 46 that holds, or 11
abbrev pub IsNotInstalled : Option RunningJob → ArchiveError → Type 0
IsNotInstalled job NoRoll = job ≡ None
IsNotInstalled job RollNotDone = (r : RunningJob) × (job ≡ Some r) × (r.staged ≡ None)
IsNotInstalled job OutOfMemory = (r : RunningJob) × (f : FrozenStaged) × (job ≡ Some r) × (r.staged ≡ Some f)
IsNotInstalled job e = ⊥

-- ---- the file of a job

-- a job has made the file that this entry names, of sums
abbrev pub IsStagedFor : Option RunningJob → Entry → Type 0
IsStagedFor job entry = (r : RunningJob) × (f : FrozenStaged) × (job ≡ Some r) × (r.staged ≡ Some f)
    × (f.file ≡ entry.file) × (length f.octets ≡ entry.length) × (entry.prefix ≡ 0) × (entry.kind ≡ made_of r.kind)

-- on an honest disk that file is the rolled file of the job's sums
abbrev pub HasMadeSums : Option RunningJob → Type 0
HasMadeSums job = (r : RunningJob) (f : FrozenStaged) → job ≡ Some r → r.staged ≡ Some f → IsTrue f.honest
    → IsRollup r.rows.width f.octets r.rows

-- It is held as that entry says, by the archive alone, and on an honest disk it has the octets that were made.
abbrev pub IsStagedAs : Option RunningJob → Entry → Frozen → Type 0
IsStagedAs job entry file = (r : RunningJob) (f : FrozenStaged) → job ≡ Some r → r.staged ≡ Some f
    → IsHeldAs f.honest entry file × IsAlone file × (IsTrue f.honest → file.octets ≡ f.octets)
