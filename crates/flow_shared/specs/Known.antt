-- What a call made of the value under the lock, as the thread that called can say it.
use Rattle.std.specs.Prelude.{◌≡◌, ◌↔◌, ◌<◌, ℕ, Bool, IsTrue, List, [], ◌++◌, Result, IfErr}
use mathlib.Core.List.{IsPrefix}
use Rattle.flow_disk.specs.Cause.{HasCause}
use Rattle.flow_disk.specs.declared.disk.Disk.{Ghosts}
use Rattle.flow_gate.specs.Gate.{octet_sum}
use Rattle.flow_manifest.specs.declared.following.JobKind.{JobKind}
use Rattle.flow_model.specs.Changes.{Change}
use Rattle.flow_model.specs.Shelf.{Shelf}
use Rattle.flow_archive.specs.declared.refusal.ArchiveError.{ArchiveError}
use Rattle.flow_archive.specs.declared.refusal.ArchiveError.TheVariants.{Fault, NoRoom}
use Rattle.flow_turns.specs.declared.turn.Turn.{Turn}
use Rattle.flow_shared.specs.Calls.{Appends, SealsOnce, TurnsOnce}
use Rattle.flow_shared.specs.UnderLock.{all_of, IsAllShown, IsUnderLock, LockState}

-- The value under the lock went on from the one to the other by these steps. What was made stays made.
pub record GoesOn {D S X : Type 0} (g : Ghosts D S X) (opening : Shelf) (old new : LockState D)
    (steps : List Change) : Type 0 where
  pub before : IsUnderLock g opening old
  pub now : IsUnderLock g opening new
  pub steps_are : all_of new ≡ all_of old ++ steps
  pub later : IsPrefix old.made new.made

-- There were two values under the lock, the one before and the other after a call: this holds of them, and of the steps
-- between them.
pub record WasCalled {D S X : Type 0} (g : Ghosts D S X) (opening : Shelf)
    (Call : LockState D → LockState D → List Change → Type 0) : Type 0 where
  pub old : LockState D
  pub new : LockState D
  pub steps : List Change
  pub goes_on : GoesOn g opening old new steps
  pub call : Call old new steps

-- There was a value under the lock of which this holds.
abbrev pub WasSeen : {D S X : Type 0} → Ghosts D S X → Shelf → (LockState D → Type 0) → Type 0
WasSeen {D} g opening Has = (now : LockState D) × IsUnderLock g opening now × Has now

-- ---- calls

-- 30 is answered exactly where the device failed
abbrev pub Fails : {D S X R : Type 0} → Ghosts D S X → Result R ArchiveError → LockState D → LockState D → Type 0
Fails g result old new = HasCause Fault (g.faults old.core.disk) (g.faults new.core.disk) result

-- a seal, answered so
abbrev pub Seals : {D S X : Type 0} → Ghosts D S X → Result ℕ ArchiveError → LockState D → LockState D → List Change
    → Type 0
Seals g result old new steps = SealsOnce g old.core new.core result steps × Fails g result old new

-- a turn of this kind, by one who keeps so many files, answered so
abbrev pub Turns : {D S X : Type 0} → Ghosts D S X → JobKind → ℕ → Result Turn ArchiveError → LockState D
    → LockState D → List Change → Type 0
Turns g kind keep result old new steps =
    TurnsOnce g kind keep old.core new.core result steps × Fails g result old new

-- An append of these messages, answered so. 40 comes only where no segment has room for all of them.
abbrev pub Adds : {D S X : Type 0} → Ghosts D S X → List (List ℕ) → Result ℕ ArchiveError → LockState D → LockState D
    → List Change → Type 0
Adds g messages result old new steps =
    Appends g old.core new.core messages result steps × Fails g result old new
    × IfErr result (λ e. e ≡ NoRoom → old.core.state.manifest.limit < octet_sum messages)

-- what a receipt says: whether its step is made, whether readers see all steps, and which steps they see
abbrev pub Says : {D : Type 0} → LockState D → Bool → Bool → List Change → Type 0
Says now made shown told =
    (IsTrue made ↔ (now.backlog ≡ [])) × (IsTrue shown ↔ IsAllShown now) × (told ≡ now.told)

-- readers are shown what they don't see yet, as far as memory allows; it is answered whether they see all
abbrev pub Refreshes : {D : Type 0} → Bool → LockState D → LockState D → List Change → Type 0
Refreshes shown old new steps = (new.core ≡ old.core) × (steps ≡ []) × (IsTrue shown ↔ IsAllShown new)

-- An append by a caller that has a list of steps: all of them were made before, and it has then what is made.
pub record IsAppendBy {D S X : Type 0} (g : Ghosts D S X) (opening : Shelf) (knew knows : List Change)
    (messages : List (List ℕ)) (result : Result ℕ ArchiveError) (new : LockState D) : Type 0 where
  pub old : LockState D
  pub steps : List Change
  pub adds : Adds g messages result old new steps
  pub goes_on : GoesOn g opening old new steps
  pub known_before : IsPrefix knew old.made
  pub known_after : knows ≡ new.made
