-- A machine that is stopped: a run of events on a disk in memory, and what the stop leaves of the disk.
use Rattle.std.specs.Prelude.{◌≡◌, ⊤, ℕ, ◌+◌, true, List, Result}
use Rattle.std.specs.declared.convert.Infallible.{Infallible}
use Rattle.flow_disk.specs.declared.disk.Disk.{Ghosts}
use Rattle.flow_memory_disk.specs.declared.bad_reads.BadRead.{BadRead}
use Rattle.flow_memory_disk.specs.declared.bad_reads.FusedFile.{FusedFile}
use Rattle.flow_memory_disk.specs.declared.choice.Choice.{Choice}
use Rattle.flow_memory_disk.specs.declared.disk.MemoryDisk.{MemoryDisk}
use Rattle.flow_memory_disk.specs.declared.failing.FailingDisk.{FailingDisk}
use Rattle.flow_memory_disk.specs.declared.sealed.MemorySealed.{MemorySealed}
use Rattle.flow_memory_disk.specs.declared.when.Fuse.{Fuse}
use Rattle.flow_memory_disk.specs.Calls.{held_of}
use Rattle.flow_memory_disk.specs.Memory.{story_of, moment_of, left_after_stop}
use Rattle.flow_memory_disk.specs.Stopped.{stopped}
use Rattle.flow_memory_disk.specs.Stopping.{CanCrash}
use Rattle.flow_measure.specs.declared.rows.Row.{Row}
use Rattle.flow_measure.specs.History.{History}
use Rattle.flow_measure.specs.Query.{totals_between}
use Rattle.flow_measure.specs.View.{View}
use Rattle.flow_refusals.specs.declared.read_refusal.ReadRefusal.TheVariants as query
use Rattle.flow_snapshot.specs.Totals.{first_file, IsTotalsRefusal, IsWithinHistoryLimits, SumsFit}
use Rattle.flow_model.specs.Views.{IsViewOf}
use Rattle.flow_model.specs.State.{State}
use Rattle.flow_model.specs.Shelved.{HasHistory, shelf_of}
use Rattle.flow_model.specs.Standing.{StandsFor}
use Rattle.flow_archive.specs.declared.event.Answer.{Answer}
use Rattle.flow_archive.specs.declared.event.Event.{Event}
use Rattle.flow_archive.specs.declared.refusal.ArchiveError.{ArchiveError}
use Rattle.flow_archive.specs.Runs.{IsRun}
use Rattle.flow_archive.specs.Seen.{Seen}
use Rattle.flow_headline.specs.declared.error.NotOpened.TheVariants.{OutOfMemory, NoSuchStop}
use Rattle.flow_headline.specs.declared.error.TotalsRefusal.{TotalsRefusal}
use Rattle.flow_headline.specs.declared.error.TotalsRefusal.TheVariants.{NotOpened, NotAnswered}
use Rattle.flow_headline.specs.Front.{IsFront, grown}

-- What a disk in memory keeps: it is honest.
abbrev pub memory_disk : Ghosts MemoryDisk MemorySealed Infallible
memory_disk = record {
  honest = λ disk. true;
  marks = λ disk. (story_of disk).marks;
  held = λ disk. held_of (story_of disk);
  moment = λ disk. moment_of disk;
  left_since = λ disk. left_after_stop disk;
  faults = λ disk. disk.faults;
}

-- a disk in memory that fails from some call on
abbrev pub Fused : Type 0
Fused = FailingDisk MemoryDisk Fuse MemorySealed Infallible

-- What such a disk keeps: it is honest, and as the disk in it, but for its own failed calls, which are faults too.
abbrev pub fused_disk : Ghosts Fused (FusedFile MemorySealed Infallible) BadRead
fused_disk = record {
  honest = λ disk. true;
  marks = λ disk. (story_of disk.disk).marks;
  held = λ disk. held_of (story_of disk.disk);
  moment = λ disk. moment_of disk.disk;
  left_since = λ disk. left_after_stop disk.disk;
  faults = λ disk. disk.failed + disk.disk.faults;
}

-- these events with these answers, on such a disk
abbrev pub IsFusedRun : Seen Fused → List Event → List (Result Answer ArchiveError) → Seen Fused → Type 0
IsFusedRun = IsRun fused_disk

-- The machine ran the events, with these answers, and was stopped. What the stop left by this choice represents this
-- state.
pub record IsStoppedRun (archive : Seen Fused) (events : List Event) (answers : List (Result Answer ArchiveError))
    (choice : Choice) (left : State) : Type 0 where
  pub last : Seen Fused
  pub run : IsFusedRun archive events answers last
  pub fits : CanCrash last.disk.disk.files.items choice
  pub stands : StandsFor (stopped (story_of last.disk.disk) choice).base left

-- after the events no stop leaves what is chosen
pub record IsNoStop (archive : Seen Fused) (events : List Event) (choice : Choice) : Type 0 where
  pub answers : List (Result Answer ArchiveError)
  pub last : Seen Fused
  pub run : IsFusedRun archive events answers last
  pub unfit : CanCrash last.disk.disk.files.items choice → ⊥

-- ---- totals

-- These rows are the totals over this span of what the stop left of these events, with these answers: of all messages
-- of the archive before, and of those of the events in the prefix, each counted once.
pub record AreTotals (archive : Seen Fused) (events : List Event) (answers : List (Result Answer ArchiveError))
    (choice : Choice) (from to : ℕ) (rows : List Row) : Type 0 where
  pub left : State
  pub stopped : IsStoppedRun archive events answers choice left
  pub front : IsFront archive.state events answers left
  pub totals : (h : History) (has : HasHistory archive.state h)
      → rows ≡ totals_between from to (grown h (front.history h has).more left)

-- A query of what the stop left reports damage. It is in the first file, at its start, and only since sums don't fit
-- their types, which those of a history within the limits do.
pub record IsOverflow (archive : Seen Fused) (events : List Event) (choice : Choice) (file at : ℕ) : Type 0 where
  pub answers : List (Result Answer ArchiveError)
  pub left : State
  pub stopped : IsStoppedRun archive events answers choice left
  pub front : IsFront archive.state events answers left
  pub spent : (v : View) → IsViewOf (shelf_of left) v
      → IsTotalsRefusal (first_file (shelf_of left)) (SumsFit v) (query.Damaged file at)
  pub beyond : (h : History) (has : HasHistory archive.state h)
      → IsWithinHistoryLimits (grown h (front.history h has).more left) → ⊥

-- why there are no totals after these events and this stop
abbrev pub IsRefusal : Seen Fused → List Event → Choice → TotalsRefusal → Type 0
IsRefusal archive events choice (NotOpened OutOfMemory) = ⊤
IsRefusal archive events choice (NotOpened NoSuchStop) = IsNoStop archive events choice
IsRefusal archive events choice (NotAnswered (query.Damaged file at)) = IsOverflow archive events choice file at
IsRefusal archive events choice (NotAnswered query.Fault) = ⊥
IsRefusal archive events choice (NotAnswered query.OutOfMemory) = ⊤

-- ---- one query

-- what an open archive in memory with this shelf refuses a query by
abbrev pub IsUnanswered : State → TotalsRefusal → Type 0
IsUnanswered s (NotOpened OutOfMemory) = ⊤
IsUnanswered s (NotOpened NoSuchStop) = ⊥
IsUnanswered s (NotAnswered (query.Damaged file at)) =
    ((v : View) → IsViewOf (shelf_of s) v
    → IsTotalsRefusal (first_file (shelf_of s)) (SumsFit v) (query.Damaged file at))
    × ((h : History) → HasHistory s h → IsWithinHistoryLimits h → ⊥)
IsUnanswered s (NotAnswered query.Fault) = ⊥
IsUnanswered s (NotAnswered query.OutOfMemory) = ⊤
