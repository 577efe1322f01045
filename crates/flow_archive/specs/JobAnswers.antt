-- What an archive answers where it rolls, merges and removes files.
use Rattle.std.specs.Prelude.{◌≡◌, ◌≢◌, ◌⊎◌, ℕ, ◌+◌, ◌-◌, ◌<◌, ◌≤◌, ◌^◌, min, Bool, true, false, IsTrue, List, [], ◌∷◌}
use Rattle.std.specs.Prelude.{take, drop, map, Option, Some, None, Result, Ok, Err}
use Rattle.flow_disk.specs.Disk.{Marks}
use Rattle.flow_manifest.specs.declared.following.JobKind.{JobKind}
use Rattle.flow_manifest.specs.declared.following.JobKind.TheVariants.{Roll, Merge}
use Rattle.flow_manifest.specs.Following.{count_of, source_of, sources_of}
use Rattle.flow_measure.specs.Sums.{Table, AllFit}
use Rattle.flow_rolled.specs.Rollup.{IsRollup}
use Rattle.flow_model.specs.State.{Job, StagedFile, State}
use Rattle.flow_model.specs.Jobs.{replaced, replaced_parts, source_parts, width_made, IsJobSum}
use Rattle.flow_archive.specs.declared.event.Answer.{Answer}
use Rattle.flow_archive.specs.declared.event.Answer.TheVariants.{Installed, Merged}
use Rattle.flow_archive.specs.declared.refusal.ArchiveError.{ArchiveError}
use Rattle.flow_archive.specs.declared.refusal.ArchiveError.TheVariants.{OutOfMemory, NumbersSpent, Fault, Closed}
use Rattle.flow_archive.specs.declared.refusal.ArchiveError.TheVariants.{Damaged, SourceFault, RollBusy, NoRoll}
use Rattle.flow_archive.specs.declared.refusal.ArchiveError.TheVariants.{RollCount, RollNotDone, Pinned}
use Rattle.flow_archive.specs.declared.refusal.ArchiveError.TheVariants.{NothingToRetire}
use Rattle.flow_archive.specs.Sources.{IsJobTime}

-- ---- a job begins

abbrev pub begun : State → JobKind → ℕ → State
begun s kind count = record s { job = Some (record { kind = kind; sources = count; read = 0; staged = None }) }

-- There are so many files of the kind that it sums, and at least one is asked for.
abbrev pub HasSources : State → JobKind → ℕ → Type 0
HasSources s kind count = (1 ≤ count) × (count ≤ count_of (source_of kind) s.manifest.entries)

-- A job over so many sources, the oldest of their kind; or the first of the refusals 49, 43, 45 that holds. It takes no
-- memory, and doesn't call the device.
abbrev pub AnswersBegin : {X : Type 0} → Bool → State → JobKind → ℕ → Result X ArchiveError → State → Type 0
AnswersBegin closed s kind count (Ok x) after =
    (closed ≡ false) × (s.job ≡ None) × HasSources s kind count × (after ≡ begun s kind count)
AnswersBegin closed s kind count (Err Closed) after = (closed ≡ true) × (after ≡ s)
AnswersBegin closed s kind count (Err RollBusy) after = (closed ≡ false) × (s.job ≢ None) × (after ≡ s)
AnswersBegin closed s kind count (Err RollCount) after =
    (closed ≡ false) × (s.job ≡ None) × (HasSources s kind count → ⊥) × (after ≡ s)
AnswersBegin closed s kind count other after = ⊥

-- ---- one source more is read

-- so many sources are left to be read
abbrev pub sources_left : Job → ℕ
sources_left job = job.sources - job.read

-- one source more is read, where one is left
abbrev pub stepped : Job → Job
stepped job = record job { read = min (job.read + 1) job.sources }

-- The job of a state, with something that holds of it.
abbrev pub HasJob : State → (Job → Type 0) → Type 0
HasJob s Holds = (job : Job) × (s.job ≡ Some job) × Holds job

-- This is the file of the job's first source.
abbrev pub IsFirstFile : State → Job → ℕ → Type 0
IsFirstFile s job file = (others : List ℕ)
    × (map (λ e. e.file) (sources_of job.kind job.sources s.manifest.entries) ≡ file ∷ others)

-- This is the file of the next source: the first of those that are left.
abbrev pub IsNextFile : State → Job → ℕ → Type 0
IsNextFile s job file = (others : List ℕ)
    × (map (λ e. e.file) (drop job.read (sources_of job.kind job.sources s.manifest.entries)) ≡ file ∷ others)

-- the sums of the sources read so far and of the next one don't fit their types
abbrev pub IsSpent : State → Job → Type 0
IsSpent s job =
    (table : Table) × IsJobSum job.kind s.manifest (take (job.read + 1) (source_parts job.kind job.sources s)) table
    × (AllFit table → ⊥)

-- Damage is that of the next source's file; or, at octet 0, of the first one's, where sums don't fit their types. On an
-- honest disk it is only the second.
abbrev pub IsStepDamage : Bool → State → Job → ℕ → ℕ → Type 0
IsStepDamage honest s job file at =
    (IsNextFile s job file ⊎ (IsFirstFile s job file × (at ≡ 0)))
    × (IsTrue honest → IsFirstFile s job file × (at ≡ 0) × IsSpent s job)

abbrev pub IsStepped : State → State → Type 0
IsStepped s after = HasJob s (λ job. after ≡ record s { job = Some (stepped job) })

-- How many sources are left after this step; or the first of the refusals 49, 44, 20 that holds. In place of the answer
-- where a source is left it may be 11, or 30 where a read failed. Every refusal changes nothing.
abbrev pub AnswersStep : Bool → Bool → State → Result ℕ ArchiveError → State → Type 0
AnswersStep honest closed s (Ok left) after =
    (closed ≡ false)
    × HasJob s (λ job. (left ≡ sources_left (stepped job)) × (after ≡ record s { job = Some (stepped job) }))
AnswersStep honest closed s (Err Closed) after = (closed ≡ true) × (after ≡ s)
AnswersStep honest closed s (Err NoRoll) after = (closed ≡ false) × (s.job ≡ None) × (after ≡ s)
AnswersStep honest closed s (Err (Damaged file at)) after =
    (closed ≡ false)
    × HasJob s (λ job. (1 ≤ sources_left job) × IsStepDamage honest s job file at)
    × (after ≡ s)
AnswersStep honest closed s (Err SourceFault) after =
    (closed ≡ false) × HasJob s (λ job. 1 ≤ sources_left job) × (after ≡ s)
AnswersStep honest closed s (Err OutOfMemory) after =
    (closed ≡ false) × HasJob s (λ job. 1 ≤ sources_left job) × (after ≡ s)
AnswersStep honest closed s other after = ⊥

-- ---- the file is made

-- The file of a job: the rolled file of its sums, with the greatest Export Time of its sources.
abbrev pub IsJobFile : State → Job → List ℕ → Type 0
IsJobFile s job octets =
    (table : Table) × (rollup : IsRollup (width_made job.kind s.manifest) octets table)
    × IsJobSum job.kind s.manifest (source_parts job.kind job.sources s) table
    × IsJobTime job.kind (source_parts job.kind job.sources s) rollup.time

-- There is a number for the file, and one for the manifest that will name it.
abbrev pub HasStagedNumbers : State → Type 0
HasStagedNumbers s = (s.next + 1 < 2 ^ 64) × (s.manifest.generation + 1 < 2 ^ 64)

-- nothing speaks against it: all sources are read, and the file isn't made yet
pub record MayWrite (s : State) (job : Job) : Type 0 where
  pub read : sources_left job ≡ 0
  pub none : job.staged ≡ None
  pub numbers : HasStagedNumbers s

-- The file is beside the others, and no manifest names it yet. On a disk that isn't honest it may hold anything.
abbrev pub with_staged : State → Job → List ℕ → State
with_staged s job octets =
    record s {
      job = Some (record job { staged = Some (record { file = s.next; octets = octets }) });
      next = s.next + 1;
    }

abbrev pub IsStagedIn : Bool → State → Job → Option StagedFile → State → Type 0
IsStagedIn honest s job (Some staged) after = after ≡ s
IsStagedIn honest s job None after =
    HasStagedNumbers s
    × ((octets : List ℕ) × (IsTrue honest → IsJobFile s job octets) × (after ≡ with_staged s job octets))

abbrev pub IsWritten : Bool → State → State → Type 0
IsWritten honest s after = HasJob s (λ job. (sources_left job ≡ 0) × IsStagedIn honest s job job.staged after)

-- The file is made, or was made before, which changes nothing; or the first of the refusals 49, 44, 46, 25 that holds.
-- In place of any but 49 it may be 11 where no file was made before, in place of an Ok 30.
abbrev pub AnswersWrite : {X : Type 0} → Bool → Bool → State → Result X ArchiveError → State → Type 0
AnswersWrite honest closed s (Ok x) after = (closed ≡ false) × IsWritten honest s after
AnswersWrite honest closed s (Err Closed) after = (closed ≡ true) × (after ≡ s)
AnswersWrite honest closed s (Err NoRoll) after = (closed ≡ false) × (s.job ≡ None) × (after ≡ s)
AnswersWrite honest closed s (Err RollNotDone) after =
    (closed ≡ false) × HasJob s (λ job. 1 ≤ sources_left job) × (after ≡ s)
AnswersWrite honest closed s (Err NumbersSpent) after =
    (closed ≡ false) × HasJob s (λ job. (sources_left job ≡ 0) × (job.staged ≡ None)) × (HasStagedNumbers s → ⊥)
    × (after ≡ s)
AnswersWrite honest closed s (Err OutOfMemory) after = (closed ≡ false) × HasJob s (MayWrite s) × (after ≡ s)
AnswersWrite honest closed s (Err Fault) after = (closed ≡ false) × HasJob s (MayWrite s) × (after ≡ s)
AnswersWrite honest closed s other after = ⊥

-- ---- the file takes the place of its sources

-- the cut that a job has moved, as it is answered: the count of messages rolled, or merged
abbrev pub cut_moved : JobKind → State → Answer
cut_moved Roll after = Installed after.manifest.rolled
cut_moved Merge after = Merged after.manifest.second

-- The file takes the place of its sources, and holds their sums. On a disk that isn't honest it may hold anything.
abbrev pub IsInstalled : Bool → State → State → Type 0
IsInstalled honest s after = HasJob s (λ job. (staged : StagedFile) × (octets : List ℕ) × (job.staged ≡ Some staged)
    × HasSources s job.kind job.sources
    × (IsTrue honest → IsJobFile s job staged.octets × (octets ≡ staged.octets))
    × (after ≡ record (replaced s job.kind job.sources staged) {
      parts = replaced_parts job.kind job.sources octets s.manifest.entries s.parts;
    }))

-- The file takes the place of its sources, which wait for their removal; or the first of the refusals 49, 44, 46 that
-- holds: a number for its manifest is kept. In place of an Ok it may be 11, or 30.
abbrev pub AnswersInstall : Bool → Bool → State → Result Answer ArchiveError → State → Type 0
AnswersInstall honest closed s (Ok answer) after =
    (closed ≡ false) × IsInstalled honest s after × HasJob s (λ job. answer ≡ cut_moved job.kind after)
AnswersInstall honest closed s (Err Closed) after = (closed ≡ true) × (after ≡ s)
AnswersInstall honest closed s (Err NoRoll) after = (closed ≡ false) × (s.job ≡ None) × (after ≡ s)
AnswersInstall honest closed s (Err RollNotDone) after =
    (closed ≡ false) × HasJob s (λ job. job.staged ≡ None) × (after ≡ s)
AnswersInstall honest closed s (Err OutOfMemory) after =
    (closed ≡ false) × HasJob s (λ job. job.staged ≢ None) × (after ≡ s)
AnswersInstall honest closed s (Err Fault) after = (closed ≡ false) × HasJob s (λ job. job.staged ≢ None) × (after ≡ s)
AnswersInstall honest closed s other after = ⊥

-- ---- the job is given up

abbrev pub dropped : State → State
dropped s = record s { job = None }

-- of a file that the job has made nothing is left
abbrev pub IsStagedGone : (ℕ → Marks) → State → Type 0
IsStagedGone marks s = (job : Job) (staged : StagedFile) → s.job ≡ Some job → job.staged ≡ Some staged
    → (marks staged.file).listed ≡ false

-- No job, and a file that it made is removed; or the first of the refusals 49, 44 that holds. It takes no memory. In
-- place of an Ok it may be 30, with the job gone too.
abbrev pub AnswersDrop : {X : Type 0} → Bool → State → Result X ArchiveError → State → Type 0
AnswersDrop closed s (Ok x) after = (closed ≡ false) × (s.job ≢ None) × (after ≡ dropped s)
AnswersDrop closed s (Err Closed) after = (closed ≡ true) × (after ≡ s)
AnswersDrop closed s (Err NoRoll) after = (closed ≡ false) × (s.job ≡ None) × (after ≡ s)
AnswersDrop closed s (Err Fault) after =
    (closed ≡ false) × HasJob s (λ job. job.staged ≢ None) × (after ≡ dropped s)
AnswersDrop closed s other after = ⊥

-- ---- a removal

abbrev pub IsRetired : State → ℕ → State → Type 0
IsRetired s file after = (others : List ℕ) × (s.waiting ≡ file ∷ others) × (after ≡ record s { waiting = others })

-- The number of the oldest file that waited for its removal, and is removed; or the first of the refusals 49, 48 that
-- holds; or 47, which comes only of an archive that is shared. It takes no memory. In place of an Ok it may be 30, with
-- the file gone from the list too.
abbrev pub AnswersRetire : Bool → State → Result ℕ ArchiveError → State → Type 0
AnswersRetire closed s (Ok file) after = (closed ≡ false) × IsRetired s file after
AnswersRetire closed s (Err Closed) after = (closed ≡ true) × (after ≡ s)
AnswersRetire closed s (Err NothingToRetire) after = (closed ≡ false) × (s.waiting ≡ []) × (after ≡ s)
AnswersRetire closed s (Err Pinned) after = (closed ≡ false) × (s.waiting ≢ []) × (s.shared ≡ true) × (after ≡ s)
AnswersRetire closed s (Err Fault) after = (closed ≡ false) × ((file : ℕ) × IsRetired s file after)
AnswersRetire closed s other after = ⊥
