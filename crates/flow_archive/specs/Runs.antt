-- Lists of events.
use Rattle.std.specs.Prelude.{◌≡◌, ◌⊎◌, ℕ, ◌≤◌, true, false, List, [], ◌∷◌, length, take, drop, Result, Ok, Err}
use Rattle.flow_disk.specs.declared.disk.Disk.{Ghosts}
use Rattle.flow_disk.specs.Cause.{HasRisen}
use Rattle.flow_disk.specs.Calls.{LeavesOnly}
use Rattle.flow_model.specs.State.{State, reopened}
use Rattle.flow_model.specs.Standing.{StandsFor}
use Rattle.flow_archive.specs.declared.event.Answer.{Answer}
use Rattle.flow_archive.specs.declared.event.Event.{Event}
use Rattle.flow_archive.specs.declared.event.Event.TheVariants.{Append, AppendBatch, Seal, RollBegin, MergeBegin}
use Rattle.flow_archive.specs.declared.event.Event.TheVariants.{RollStep, RollWrite, RollInstall, RollDrop, Retire}
use Rattle.flow_archive.specs.declared.refusal.ArchiveError.{ArchiveError}
use Rattle.flow_archive.specs.declared.refusal.ArchiveError.TheVariants.{Message, OutOfMemory, NumbersSpent, NotEmpty}
use Rattle.flow_archive.specs.declared.refusal.ArchiveError.TheVariants.{Fault, NoRoom, ManifestFull, NothingToSeal}
use Rattle.flow_archive.specs.declared.refusal.ArchiveError.TheVariants.{Closed}
use Rattle.flow_archive.specs.declared.refusal.ArchiveError.TheVariants.{Damaged, SourceFault, RollBusy, NoRoll}
use Rattle.flow_archive.specs.declared.refusal.ArchiveError.TheVariants.{RollCount, RollNotDone, Pinned}
use Rattle.flow_archive.specs.declared.refusal.ArchiveError.TheVariants.{NothingToRetire}
use Rattle.flow_archive.specs.Answers.{Answers, Takes}
use Rattle.flow_archive.specs.Seen.{Seen, IsStep}

-- a batch has from 1 to 64 messages
abbrev pub IsEvent : Event → Type 0
IsEvent (Append message) = Unit {0}
IsEvent (AppendBatch messages) = (1 ≤ length messages.items) × (length messages.items ≤ 64)
IsEvent Seal = Unit {0}
IsEvent (RollBegin count) = Unit {0}
IsEvent (MergeBegin count) = Unit {0}
IsEvent RollStep = Unit {0}
IsEvent RollWrite = Unit {0}
IsEvent RollInstall = Unit {0}
IsEvent RollDrop = Unit {0}
IsEvent Retire = Unit {0}

-- What an event with this answer may have made of a state. One that met a fault of the device counts as taken: the disk
-- may have it.
abbrev pub Leads : State → Event → Result Answer ArchiveError → State → Type 0
Leads s event (Ok answer) after = Takes true s event after
Leads s event (Err Fault) after = Takes true s event after
Leads s event (Err (Message fault)) after = after ≡ s
Leads s event (Err OutOfMemory) after = after ≡ s
Leads s event (Err NumbersSpent) after = after ≡ s
Leads s event (Err NotEmpty) after = after ≡ s
Leads s event (Err (Damaged file at)) after = after ≡ s
Leads s event (Err SourceFault) after = after ≡ s
Leads s event (Err RollBusy) after = after ≡ s
Leads s event (Err NoRoll) after = after ≡ s
Leads s event (Err RollCount) after = after ≡ s
Leads s event (Err RollNotDone) after = after ≡ s
Leads s event (Err Pinned) after = after ≡ s
Leads s event (Err NothingToRetire) after = after ≡ s
Leads s event (Err NoRoom) after = after ≡ s
Leads s event (Err ManifestFull) after = after ≡ s
Leads s event (Err NothingToSeal) after = after ≡ s
Leads s event (Err Closed) after = after ≡ s

-- the state after these events
abbrev pub IsAfter : State → List Event → List (Result Answer ArchiveError) → State → Type 0
IsAfter s [] answers after = after ≡ s
IsAfter s (event ∷ events) [] after = after ≡ s
IsAfter s (event ∷ events) (answer ∷ answers) after =
    (next : State) × Leads s event answer next × IsAfter next events answers after

-- these events with these answers, one step each
abbrev pub IsRun : {D S X : Type 0} → Ghosts D S X → Seen D → List Event
    → List (Result Answer ArchiveError) → Seen D → Type 0
IsRun g old [] [] new = new ≡ old
IsRun g old [] (answer ∷ answers) new = ⊥
IsRun g old (event ∷ events) [] new = ⊥
IsRun {D} g old (event ∷ events) (answer ∷ answers) new =
    (mid : Seen D) × Answers (g.honest old.disk) old.closed old.state event answer mid.state
    × IsStep g old mid (Takes true old.state event) answer
    × IsRun g mid events answers new

-- the image represents the state after some prefix of the events
abbrev pub StandsForSome : State → List Event → List (Result Answer ArchiveError) → (ℕ → List ℕ) → Type 0
StandsForSome s events answers image =
    (m : ℕ) × (m ≤ length events) × (after : State) × IsAfter s (take m events) (take m answers) after
    × StandsFor image (reopened after)

-- The archive before event i (from 0), and what a stop leaves from then on. Where it was closed by then, nothing
-- happens any more.
pub record IsSince {D S X : Type 0} (g : Ghosts D S X) (old new : Seen D) (events : List Event)
    (answers : List (Result Answer ArchiveError)) (i : ℕ) : Type 0 where
  pub mid : Seen D
  pub run_before : IsRun g old (take i events) (take i answers) mid
  pub run_after : IsRun g mid (drop i events) (drop i answers) new
  pub closed_too : mid.closed ≡ true → new ≡ mid
  pub reached : mid.closed ≡ false → IsAfter old.state (take i events) (take i answers) mid.state
  pub any_moment : mid.closed ≡ false → LeavesOnly g mid.disk new.disk
      (StandsForSome mid.state (drop i events) (drop i answers))

-- ---- failures

-- One of these answers is this refusal.
abbrev pub HasRefusal : {T : Type 0} → ArchiveError → List (Result T ArchiveError) → Type 0
HasRefusal error [] = ⊥
HasRefusal error (answer ∷ answers) = (answer ≡ Err error) ⊎ HasRefusal error answers

-- The count of failures has risen where one of these answers is this fault; else it is as it was.
pub record AreCaused {T : Type 0} (fault : ArchiveError) (before now : ℕ) (answers : List (Result T ArchiveError))
    : Type 0 where
  pub later : before ≤ now
  pub none : (HasRefusal fault answers → ⊥) → now ≡ before
  pub risen : HasRefusal fault answers → HasRisen before now
