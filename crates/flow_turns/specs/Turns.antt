-- Turns of rolling, and whole jobs.
use Rattle.std.specs.Prelude.{◌≡◌, ◌⊎◌, ℕ, zero, suc, ◌-◌, Bool, true, false, List, [], ◌∷◌, ◌++◌, min, replicate, ◌==◌}
use Rattle.std.specs.Prelude.{if◌then◌else◌}
use Rattle.std.specs.Prelude.{Option, Some, None, Result, Ok, Err, OnOk, IsErrOf, ◌≤◌}
use Rattle.flow_disk.specs.declared.disk.Disk.{Ghosts}
use Rattle.flow_disk.specs.Cause.{HasRisen}
use Rattle.flow_manifest.specs.Limits.{most_entries}
use Rattle.flow_manifest.specs.declared.following.JobKind.{JobKind}
use Rattle.flow_manifest.specs.declared.following.JobKind.TheVariants.{Roll, Merge}
use Rattle.flow_manifest.specs.Following.{count_of, source_of}
use Rattle.flow_model.specs.State.{State}
use Rattle.flow_archive.specs.declared.event.Answer.{Answer}
use Rattle.flow_archive.specs.declared.event.Answer.TheVariants as told
use Rattle.flow_archive.specs.declared.event.Event.{Event}
use Rattle.flow_archive.specs.declared.event.Event.TheVariants.{Append, AppendBatch, Seal, RollBegin, MergeBegin}
use Rattle.flow_archive.specs.declared.event.Event.TheVariants.{RollStep, RollWrite, RollInstall, RollDrop, Retire}
use Rattle.flow_archive.specs.declared.refusal.ArchiveError.{ArchiveError}
use Rattle.flow_archive.specs.declared.refusal.ArchiveError.TheVariants.{Message, OutOfMemory, NumbersSpent, NotEmpty}
use Rattle.flow_archive.specs.declared.refusal.ArchiveError.TheVariants.{Fault, NoRoom, ManifestFull, NothingToSeal}
use Rattle.flow_archive.specs.declared.refusal.ArchiveError.TheVariants.{Closed}
use Rattle.flow_archive.specs.declared.refusal.ArchiveError.TheVariants.{Damaged, SourceFault, RollBusy, NoRoll}
use Rattle.flow_archive.specs.declared.refusal.ArchiveError.TheVariants.{RollCount, RollNotDone, Pinned}
use Rattle.flow_archive.specs.declared.refusal.ArchiveError.TheVariants.{NothingToRetire}
use Rattle.flow_archive.specs.declared.job.JobStatus.{JobStatus}
use Rattle.flow_archive.specs.Answers.{Answers, Takes}
use Rattle.flow_archive.specs.Runs.{IsRun}
use Rattle.flow_archive.specs.Seen.{Seen, IsStep}
use Rattle.flow_archive.specs.UnderWay.{status_of}
use Rattle.flow_turns.specs.declared.turn.Turn.{Turn}
use Rattle.flow_turns.specs.declared.turn.Turn.TheVariants as turn

-- How many files a job of this kind may be begun over, where the newest `keep` are left as they are. No manifest names
-- more than 4,096.
abbrev pub files_over : JobKind → ℕ → State → ℕ
files_over kind keep s = min (count_of (source_of kind) s.manifest.entries - keep) most_entries

abbrev pub begun_by : JobKind → ℕ → Event
begun_by Roll count = RollBegin count
begun_by Merge count = MergeBegin count

-- the next step of a job: to read a source, to make its file, to install it
abbrev pub made_or_installed : Option ℕ → Event
made_or_installed None = RollWrite
made_or_installed (Some file) = RollInstall

abbrev pub step_by : ℕ → Option ℕ → Event
step_by zero staged = made_or_installed staged
step_by (suc left) staged = RollStep

abbrev pub next_step : JobStatus → Event
next_step job = step_by job.left job.staged

-- without a job: one begins, or a roller removes a file
abbrev pub removal_by : JobKind → Option Event
removal_by Roll = Some Retire
removal_by Merge = None

abbrev pub begun_or_removal : JobKind → ℕ → Option Event
begun_or_removal kind zero = removal_by kind
begun_or_removal kind (suc n) = Some (begun_by kind (suc n))

abbrev pub due_with : JobKind → ℕ → Option JobStatus → Option Event
due_with kind count (Some job) = Some (next_step job)
due_with kind count None = begun_or_removal kind count

-- The event of a turn, if any.
abbrev pub due : JobKind → ℕ → State → Option Event
due kind keep s = due_with kind (files_over kind keep s) (status_of s.job)

-- ---- what it answers

-- the events of rolling and merging
abbrev pub is_rolling : Event → Bool
is_rolling (Append message) = false
is_rolling (AppendBatch messages) = false
is_rolling Seal = false
is_rolling (RollBegin count) = true
is_rolling (MergeBegin count) = true
is_rolling RollStep = true
is_rolling RollWrite = true
is_rolling RollInstall = true
is_rolling RollDrop = true
is_rolling Retire = true

-- how many files the job has that an event begins
abbrev pub turn_begun : Event → Turn
turn_begun (RollBegin count) = turn.Began count
turn_begun (MergeBegin count) = turn.Began count
turn_begun (Append message) = turn.Idle
turn_begun (AppendBatch messages) = turn.Idle
turn_begun Seal = turn.Idle
turn_begun RollStep = turn.Idle
turn_begun RollWrite = turn.Idle
turn_begun RollInstall = turn.Idle
turn_begun RollDrop = turn.Idle
turn_begun Retire = turn.Idle

abbrev pub turn_done : Event → Answer → Turn
turn_done event told.Began = turn_begun event
turn_done event (told.Left left) = turn.Left left
turn_done event told.Written = turn.Written
turn_done event (told.Installed cut) = turn.Installed cut
turn_done event (told.Merged cut) = turn.Merged cut
turn_done event (told.Retired file) = turn.Retired file
turn_done event (told.Position n) = turn.Idle
turn_done event (told.Sealed file) = turn.Idle
turn_done event told.Dropped = turn.Idle

-- a turn's answer, from the archive's answer to its event; a file that can't be removed now, and none to remove, are no
-- refusals
abbrev pub turn_told : Event → Result Answer ArchiveError → Result Turn ArchiveError
turn_told event (Ok answer) = Ok (turn_done event answer)
turn_told event (Err Pinned) = Ok turn.Idle
turn_told event (Err NothingToRetire) = Ok turn.Idle
turn_told event (Err (Message fault)) = Err (Message fault)
turn_told event (Err OutOfMemory) = Err OutOfMemory
turn_told event (Err NumbersSpent) = Err NumbersSpent
turn_told event (Err NotEmpty) = Err NotEmpty
turn_told event (Err Fault) = Err Fault
turn_told event (Err NoRoom) = Err NoRoom
turn_told event (Err ManifestFull) = Err ManifestFull
turn_told event (Err NothingToSeal) = Err NothingToSeal
turn_told event (Err Closed) = Err Closed
turn_told event (Err (Damaged file at)) = Err (Damaged file at)
turn_told event (Err SourceFault) = Err SourceFault
turn_told event (Err RollBusy) = Err RollBusy
turn_told event (Err NoRoll) = Err NoRoll
turn_told event (Err RollCount) = Err RollCount
turn_told event (Err RollNotDone) = Err RollNotDone

-- without an event: idle, or closed
abbrev pub idle_told : Bool → Result Turn ArchiveError
idle_told false = Ok turn.Idle
idle_told true = Err Closed

-- A turn is the event that is due, as an archive takes it, and reports its answer.
abbrev pub IsTurn : {D S X : Type 0} → Ghosts D S X → Seen D → Seen D → Option Event → Result Turn ArchiveError → Type 0
IsTurn g old new None result = (new ≡ old) × (result ≡ idle_told old.closed)
IsTurn g old new (Some event) result =
    (answer : Result Answer ArchiveError) × Answers (g.honest old.disk) old.closed old.state event answer new.state
    × IsStep g old new (Takes true old.state event) answer × (result ≡ turn_told event answer)

-- ---- whole jobs

-- The events of a job over so many files: it begins, reads each, makes its file, installs it, and its sources are
-- removed.
abbrev pub job_events : JobKind → ℕ → List Event
job_events kind count =
    if count == 0 then []
    else (begun_by kind count ∷ replicate count RollStep ++ RollWrite ∷ RollInstall ∷ replicate count Retire)

-- a file that can't be removed now, and none to remove
abbrev pub is_of_removal : ArchiveError → Bool
is_of_removal Pinned = true
is_of_removal NothingToRetire = true
is_of_removal error = false

-- these are no refusals
abbrev pub refusal_but_removal : ArchiveError → Option ArchiveError
refusal_but_removal error = if is_of_removal error then None else Some error

-- the first refusal of these answers, but for that of a removal
abbrev pub told_or : Option ArchiveError → Result ℕ ArchiveError → Result ℕ ArchiveError
told_or None told = told
told_or (Some error) told = Err error

abbrev pub job_told : ℕ → List (Result Answer ArchiveError) → Result ℕ ArchiveError
job_told count [] = Ok count
job_told count (Ok answer ∷ answers) = job_told count answers
job_told count (Err error ∷ answers) = told_or (refusal_but_removal error) (job_told count answers)

-- a job's answer after one answer more
abbrev pub told_behind : Result ℕ ArchiveError → Result Answer ArchiveError → Result ℕ ArchiveError
told_behind (Err refused) answer = Err refused
told_behind (Ok count) (Ok answer) = Ok count
told_behind (Ok count) (Err error) = told_or (refusal_but_removal error) (Ok count)

-- The archive took the events of a job over so many files, and the result is the job's answer; or there was no memory
-- for the events, and all is as it was.
abbrev pub IsJobRun : {D S X : Type 0} → Ghosts D S X → Seen D → Seen D → JobKind → ℕ → Result ℕ ArchiveError → Type 0
IsJobRun g old new kind count result =
    ((answers : List (Result Answer ArchiveError))
    × IsRun g old (job_events kind count) answers new × (result ≡ job_told count answers))
    ⊎ ((result ≡ Err OutOfMemory) × (new ≡ old))

-- Where the answer is Ok the count of failures is as it was; where it is this refusal, the count has risen. After
-- another refusal the later events of the job are still given, and one of them may have failed.
pub record IsCaused (failed : ArchiveError) (before now : ℕ) (result : Result ℕ ArchiveError) : Type 0 where
  pub later : before ≤ now
  pub done : OnOk result (now ≡ before)
  pub risen : IsErrOf result failed → HasRisen before now
