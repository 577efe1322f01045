-- Calls of any threads on an archive that they share, and what a stop leaves of them.
use Rattle.std.specs.Prelude.{◌≡◌, ◌⊎◌, ℕ, Bool, true, false, IsTrue, List, [], ◌∷◌, ◌++◌, Some, Result, Err}
use mathlib.Core.List.{IsPrefix}
use Rattle.flow_disk.specs.declared.disk.Disk.{Ghosts}
use Rattle.flow_gate.specs.Gate.{octet_sum}
use Rattle.flow_manifest.specs.declared.following.JobKind.{JobKind}
use Rattle.flow_manifest.specs.Following.{active_of, messages_of, sources_of}
use Rattle.flow_measure.specs.History.{History}
use Rattle.flow_segment.specs.Carry.{prefix_of, Carry}
use Rattle.flow_model.specs.Changes.{Change}
use Rattle.flow_model.specs.Changes.Change.{added, sealed}
use Rattle.flow_model.specs.Shelf.{position_of, Shelf}
use Rattle.flow_model.specs.State.{reopened, StagedFile, State}
use Rattle.flow_model.specs.Chain.{IsSegment}
use Rattle.flow_model.specs.Shelved.{shelf_of, HasHistory}
use Rattle.flow_model.specs.Standing.{StandsFor}
use Rattle.flow_archive.specs.declared.event.Event.TheVariants.{RollInstall}
use Rattle.flow_archive.specs.declared.refusal.ArchiveError.{ArchiveError}
use Rattle.flow_archive.specs.declared.refusal.ArchiveError.TheVariants.{Fault}
use Rattle.flow_archive.specs.Answers.{HasRoom, MayAppend}
use Rattle.flow_archive.specs.JobAnswers.{HasJob}
use Rattle.flow_archive.specs.Marks.{made_change}
use Rattle.flow_turns.specs.declared.turn.Turn.{Turn}
use Rattle.flow_turns.specs.Turns.{due}
use Rattle.flow_shared.specs.Known.{Adds, GoesOn, Refreshes, Seals, Turns}
use Rattle.flow_shared.specs.Meaning.{history_behind, HasView}
use Rattle.flow_shared.specs.Told.{after}
use Rattle.flow_shared.specs.UnderLock.{all_of, IsUnderLock, LockState}

-- ---- calls under the lock

-- A call with its answer: an append of these messages; a seal; a turn of this kind, by one who keeps so many of the
-- newest files; or readers are shown what they don't see yet.
pub data Call : Type 0 where
  append : List (List ℕ) → Result ℕ ArchiveError → Call
  seal : Result ℕ ArchiveError → Call
  turn : JobKind → ℕ → Result Turn ArchiveError → Call
  refresh : Bool → Call

-- what it makes of the value under the lock, and by which steps
abbrev pub Makes : {D S X : Type 0} → Ghosts D S X → Call → LockState D → LockState D → List Change → Type 0
Makes g (append messages result) old new steps = Adds g messages result old new steps
Makes g (seal result) old new steps = Seals g result old new steps
Makes g (turn kind keep result) old new steps = Turns g kind keep result old new steps
Makes g (refresh shown) old new steps = Refreshes shown old new steps

-- These calls were made under the lock, by whatever threads, one after the other.
abbrev pub AreCalls : {D S X : Type 0} → Ghosts D S X → Shelf → LockState D → List Call → LockState D → Type 0
AreCalls g opening old [] new = new ≡ old
AreCalls {D} g opening old (call ∷ calls) new =
    (mid : LockState D) × (steps : List Change) × GoesOn g opening old mid steps × Makes g call old mid steps
    × AreCalls g opening mid calls new

-- ---- the step under which the device failed

-- the active segment is sealed, and the next one has the prefix that it determines
abbrev pub IsSealOf : State → Change → Type 0
IsSealOf s step = (carry : Carry) × IsSegment s.active carry
    × (step ≡ sealed (record {
      file = (active_of s.manifest).file;
      prefix = s.active.front;
      messages = s.active.messages;
    }) (prefix_of carry))

-- the file that the job has made is installed in place of its sources
abbrev pub IsInstallOf : State → Change → Type 0
IsInstallOf s step = HasJob s (λ job. (staged : StagedFile) × (job.staged ≡ Some staged)
    × (step ≡ made_change job.kind (record {
      file = staged.file;
      messages = messages_of (sources_of job.kind job.sources s.manifest.entries);
      octets = staged.octets;
    }) job.sources))

-- The call was answered 30, and this step was under way. It left the archive in this state, without the step: an append
-- failed at its messages, or at the seal before them, where there was no room.
abbrev pub FailedAt : Call → State → Change → Type 0
FailedAt (append messages result) s step = (result ≡ Err Fault)
    × ((MayAppend s messages × (step ≡ added messages)) ⊎ ((HasRoom s (octet_sum messages) → ⊥) × IsSealOf s step))
FailedAt (seal result) s step = (result ≡ Err Fault) × IsSealOf s step
FailedAt (turn kind keep result) s step =
    (result ≡ Err Fault) × (due kind keep s ≡ Some RollInstall) × IsInstallOf s step
FailedAt (refresh shown) s step = ⊥

abbrev pub OneFailedAt : List Call → State → Change → Type 0
OneFailedAt [] s step = ⊥
OneFailedAt (call ∷ calls) s step = FailedAt call s step ⊎ OneFailedAt calls s step

-- Such a step is on the disk or isn't: the archive is closed, and one of these calls failed at this step.
abbrev pub MayBeThere : {D : Type 0} → List Call → LockState D → Change → Type 0
MayBeThere calls now step = (now.core.closed ≡ true) × OneFailedAt calls now.core.state step

-- ---- what a stop leaves

-- This image represents the opening files after these steps: all of `first`, and then some more of `last`, in their
-- order; or all of `last`, and then one that may be there. Whatever history the opening files have, it has that history
-- after the same steps.
pub record IsLeft (opening : Shelf) (first last : List Change) (MayBe : Change → Type 0) (image : ℕ → List ℕ)
    : Type 0 where
  pub left : State
  pub represents : StandsFor image left
  pub steps : List Change
  pub files : shelf_of left ≡ after opening steps
  pub history : (h : History) → HasView opening h → HasHistory left (history_behind h steps)
  pub begins : IsPrefix first steps
  pub ends : IsPrefix steps last ⊎ ((step : Change) × MayBe step × (steps ≡ last ++ step ∷ []))

-- The archive under the lock is open, on an honest disk. So each image represents it, and its files are the opening
-- ones after all steps, with each of their histories (IsUnderLock): at a start, where there are no steps yet, and at
-- each later moment.
pub record IsRepresented {D S X : Type 0} (g : Ghosts D S X) (opening : Shelf) (now : LockState D) : Type 0 where
  pub honest : IsTrue (g.honest now.core.disk)
  pub still_open : now.core.closed ≡ false
  pub under_lock : IsUnderLock g opening now

-- ---- a batch that was reported

-- Of the steps that made the files of this archive from the opening ones one adds these messages, the last of which has
-- this number; and whatever history the opening files have, it has that history after all of the steps.
pub record HasBatch (opening : Shelf) (s : State) (messages : List (List ℕ)) (position : ℕ) : Type 0 where
  pub before : List Change
  pub later : List Change
  pub files : shelf_of s ≡ after opening (before ++ added messages ∷ later)
  pub position_is : position ≡ position_of (after opening (before ++ added messages ∷ []))
  pub history : (h : History) → HasView opening h
      → HasHistory s (history_behind h (before ++ added messages ∷ later))
