-- What a stop leaves of a list of events.
use Rattle.std.specs.Prelude.{◌≡◌, ◌≢◌, ℕ, ◌<◌, ◌≤◌, List, [], ◌∷◌, ◌++◌, length, take, drop, Result, Ok, Err}
use Rattle.std.specs.Prelude.{IsErr}
use Rattle.std.specs.List.{AllByRecursion}
use Rattle.flow_disk.specs.declared.disk.Disk.{Ghosts}
use Rattle.flow_disk.specs.Calls.{LeavesOnly}
use Rattle.flow_gate.specs.Scan.{texts}
use Rattle.flow_measure.specs.History.{Accepted, History}
use Rattle.flow_measure.specs.Query.{totals_between, totals_in_view}
use Rattle.flow_measure.specs.View.{View}
use Rattle.flow_segment.specs.Carry.{octets_of}
use Rattle.flow_model.specs.Shelf.{cut_of, second_of}
use Rattle.flow_model.specs.Views.{IsViewOf}
use Rattle.flow_model.specs.State.{State, reopened}
use Rattle.flow_model.specs.Shelved.{HasHistory, shelf_of}
use Rattle.flow_model.specs.Standing.{StandsFor}
use Rattle.flow_archive.specs.declared.event.Answer.{Answer}
use Rattle.flow_archive.specs.declared.event.Event.{Event}
use Rattle.flow_archive.specs.declared.event.Event.TheVariants.{Append, AppendBatch, Seal, RollBegin, MergeBegin}
use Rattle.flow_archive.specs.declared.event.Event.TheVariants.{RollStep, RollWrite, RollInstall, RollDrop, Retire}
use Rattle.flow_archive.specs.declared.refusal.ArchiveError.{ArchiveError}
use Rattle.flow_archive.specs.declared.refusal.ArchiveError.TheVariants.{Message, OutOfMemory, NumbersSpent, NotEmpty}
use Rattle.flow_archive.specs.declared.refusal.ArchiveError.TheVariants.{Fault, NoRoom, ManifestFull, NothingToSeal}
use Rattle.flow_archive.specs.declared.refusal.ArchiveError.TheVariants.{Closed}
use Rattle.flow_archive.specs.declared.refusal.ArchiveError.TheVariants.{Damaged, SourceFault, RollBusy, NoRoll}
use Rattle.flow_archive.specs.declared.refusal.ArchiveError.TheVariants.{RollCount, RollNotDone, Pinned}
use Rattle.flow_archive.specs.declared.refusal.ArchiveError.TheVariants.{NothingToRetire}
use Rattle.flow_archive.specs.Runs.{IsAfter, IsRun}
use Rattle.flow_archive.specs.Seen.{Seen}

-- ---- messages

-- the messages of an event
abbrev pub event_messages : Event → List (List ℕ)
event_messages (Append message) = message.items ∷ []
event_messages (AppendBatch messages) = texts messages.items
event_messages Seal = []
event_messages (RollBegin count) = []
event_messages (MergeBegin count) = []
event_messages RollStep = []
event_messages RollWrite = []
event_messages RollInstall = []
event_messages RollDrop = []
event_messages Retire = []

-- What an event with this answer added. One under which a fault closed the archive counts as taken; a source that
-- wasn't read (SourceFault) closes nothing, and adds nothing.
abbrev pub added_by : Event → Result Answer ArchiveError → List (List ℕ)
added_by event (Ok answer) = event_messages event
added_by event (Err Fault) = event_messages event
added_by event (Err (Message fault)) = []
added_by event (Err OutOfMemory) = []
added_by event (Err NumbersSpent) = []
added_by event (Err NotEmpty) = []
added_by event (Err (Damaged file at)) = []
added_by event (Err SourceFault) = []
added_by event (Err RollBusy) = []
added_by event (Err NoRoll) = []
added_by event (Err RollCount) = []
added_by event (Err RollNotDone) = []
added_by event (Err Pinned) = []
added_by event (Err NothingToRetire) = []
added_by event (Err NoRoom) = []
added_by event (Err ManifestFull) = []
added_by event (Err NothingToSeal) = []
added_by event (Err Closed) = []

-- what these events added, in their order
abbrev pub all_added : List Event → List (Result Answer ArchiveError) → List (List ℕ)
all_added [] answers = []
all_added (event ∷ events) [] = []
all_added (event ∷ events) (answer ∷ answers) = added_by event answer ++ all_added events answers

-- a history with messages after it, rolled and merged as far as the files of a state are
abbrev pub grown : History → List Accepted → State → History
grown h more s =
    record h { all = h.all ++ more; second = second_of (shelf_of s); cut = cut_of (shelf_of s) }

-- The archive in this state is one with this history and these messages after it: all of them, each once, in their
-- order, and no other, however many of them are rolled or merged by now. So its totals over any span are those of all
-- these messages.
pub record HasMore (h : History) (messages : List (List ℕ)) (s : State) : Type 0 where
  pub more : List Accepted
  pub octets : octets_of more ≡ messages
  pub history : HasHistory s (grown h more s)
  pub totals : (v : View) (from to : ℕ) → IsViewOf (shelf_of s) v
      → totals_in_view from to v ≡ totals_between from to (grown h more s)

-- ---- prefixes

-- This is what is left of the archive after a prefix of the events. Each event that was acknowledged is in it; a fault
-- closed the archive under the last event of it at most; and its history is the one before with the prefix's messages.
pub record IsFront (s : State) (events : List Event) (answers : List (Result Answer ArchiveError)) (left : State)
    : Type 0 where
  pub taken : ℕ
  pub within : taken ≤ length events
  pub after : State
  pub prefix : IsAfter s (take taken events) (take taken answers) after
  pub left_is : left ≡ reopened after
  pub acknowledged : AllByRecursion IsErr (drop taken answers)
  pub one : (k : ℕ) → k < taken → AllByRecursion (λ answer. answer ≢ Err Fault) (take k answers)
  pub history : (h : History) → HasHistory s h
      → HasMore h (all_added (take taken events) (take taken answers)) left

-- After an event under which a fault closed the archive every event is answered 49.
abbrev pub EndsAtFault : List (Result Answer ArchiveError) → Type 0
EndsAtFault [] = Unit {0}
EndsAtFault (answer ∷ answers) =
    (answer ≡ Err Fault → AllByRecursion (λ later. later ≡ Err Closed) answers) × EndsAtFault answers

-- ---- stops within a run

-- This is left of the archive by a stop within these events, after the first `begun` of them: the archive after a
-- prefix of the events. Each of those `begun` events that was acknowledged is in it; a fault closed the archive under
-- the last event of the prefix at most; and its history is the one before with the prefix's messages.
pub record IsPrefix (s : State) (events : List Event) (answers : List (Result Answer ArchiveError)) (begun : ℕ)
    (left : State) : Type 0 where
  pub taken : ℕ
  pub within : taken ≤ length events
  pub after : State
  pub prefix : IsAfter s (take taken events) (take taken answers) after
  pub left_is : left ≡ reopened after
  pub acknowledged : AllByRecursion IsErr (drop taken (take begun answers))
  pub one : (k : ℕ) → k < taken → AllByRecursion (λ answer. answer ≢ Err Fault) (take k answers)
  pub history : (h : History) → HasHistory s h
      → HasMore h (all_added (take taken events) (take taken answers)) left

-- The archive when event i (from 0) of a run begins, which is when the one before it was answered; for each i from their
-- count on, when the last one was.
pub record AreMoments {D S X : Type 0} (g : Ghosts D S X) (old new : Seen D) (events : List Event)
    (answers : List (Result Answer ArchiveError)) (at : ℕ → Seen D) : Type 0 where
  pub before : (i : ℕ) → IsRun g old (take i events) (take i answers) (at i)
  pub between : (i j : ℕ) → i ≤ j → IsRun g (at i) (drop i (take j events)) (drop i (take j answers)) (at j)
  pub after : (i : ℕ) → IsRun g (at i) (drop i events) (drop i answers) new

-- With the archive of each moment: a stop at any moment from the one on at which event i begins, and before event j
-- does, leaves a prefix of the first j events, with all that were acknowledged of the first i.
pub record StopsBetween {D S X : Type 0} (g : Ghosts D S X) (old new : Seen D) (events : List Event)
    (answers : List (Result Answer ArchiveError)) (at : ℕ → Seen D) : Type 0 where
  pub moments : AreMoments g old new events answers at
  pub leaves : (i j : ℕ) → i ≤ j → LeavesOnly g (at i).disk (at j).disk (λ image. (left : State)
      × IsPrefix old.state (take j events) (take j answers) i left × StandsFor image left)
