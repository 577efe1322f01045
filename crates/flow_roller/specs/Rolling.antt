-- Turns of rolling and merging, one after the other.
use Rattle.std.specs.Prelude.{◌≡◌, ◌⊎◌, ◌+◌, ◌<◌, ◌≤◌, ℕ, List, ◌∷◌, length, map, Option, None, Some}
use Rattle.std.specs.Prelude.{Result, Ok, Err, IfErr, IfOk, OnOk}
use Rattle.std.specs.List.{AllByRecursion}
use Rattle.flow_disk.specs.declared.disk.Disk.{Ghosts}
use Rattle.flow_manifest.specs.declared.following.JobKind.{JobKind}
use Rattle.flow_manifest.specs.declared.following.JobKind.TheVariants.{Merge, Roll}
use Rattle.flow_manifest.specs.declared.manifest.Kind.TheVariants.{Rolled}
use Rattle.flow_manifest.specs.Following.{count_of}
use Rattle.flow_model.specs.Shelf.{Shelf}
use Rattle.flow_archive.specs.declared.refusal.ArchiveError.{ArchiveError}
use Rattle.flow_turns.specs.declared.turn.Turn.{Turn}
use Rattle.flow_turns.specs.declared.turn.Turn.TheVariants.{Idle}
use Rattle.flow_shared.specs.Known.{Turns, WasCalled, WasSeen}
use Rattle.flow_shared.specs.UnderLock.{LockState}
use Rattle.flow_roller.specs.Asked.{to_keep, to_merge, Asked}

-- A turn of this kind was made by one who keeps so many of the newest files, and answered so.
abbrev pub IsTurned : {D S X : Type 0} → Ghosts D S X → Shelf → JobKind → ℕ → Result Turn ArchiveError → Type 0
IsTurned g opening kind keep answer = WasCalled g opening (Turns g kind keep answer)

-- a turn of rolling, by one who keeps so many of the newest segments
abbrev pub IsRolled : {D S X : Type 0} → Ghosts D S X → Shelf → ℕ → Result Turn ArchiveError → Type 0
IsRolled g opening keep answer = IsTurned g opening Roll keep answer

-- These turns were made, the newest first, by one who keeps so many; a refusal is that of one more.
pub record TurnsOn {D S X R : Type 0} (g : Ghosts D S X) (opening : Shelf) (kind : JobKind) (keep : ℕ)
    (turns : List Turn) (result : Result R ArchiveError) : Type 0 where
  pub made : AllByRecursion (λ turn. IsTurned g opening kind keep (Ok turn)) turns
  pub refused : IfErr result (λ e. IsTurned g opening kind keep (Err e))

-- turns of rolling
abbrev pub RollsOn : {D S X R : Type 0} → Ghosts D S X → Shelf → ℕ → List Turn → Result R ArchiveError → Type 0
RollsOn g opening keep turns result = TurnsOn g opening Roll keep turns result

-- there was nothing to do at the newest turn, or so many were made
abbrev pub IsDone : ℕ → List Turn → Type 0
IsDone most turns = ((before : List Turn) × (turns ≡ Idle ∷ before)) ⊎ (length turns ≡ most)

-- ---- merging

-- under the lock there were as many rolled files as this says
abbrev pub HasRolled : {D S X : Type 0} → Ghosts D S X → Shelf → (ℕ → Type 0) → Type 0
HasRolled {D} g opening Are =
    WasSeen g opening (λ (now : LockState D). Are (count_of Rolled now.core.state.manifest.entries))

-- Turns of merging were made by one who keeps so many rolled files, until one had nothing to do or 1,000,000 were made;
-- a refusal is that of such a turn.
abbrev pub IsMerging : {D S X : Type 0} → Ghosts D S X → Shelf → ℕ → Result (Unit {0}) ArchiveError → Type 0
IsMerging g opening keep result =
    (turns : List Turn) × TurnsOn g opening Merge keep turns result × IfOk result (λ done. IsDone 1000000 turns)

-- What is merged where that was asked for so, and how it ends: nothing, unless there are 1,024 rolled files more than
-- those that are kept.
abbrev pub MergesWhereMany : {D S X : Type 0} → Ghosts D S X → Shelf → Option ℕ → Result (Unit {0}) ArchiveError
    → Type 0
MergesWhereMany g opening None result = result ≡ Ok tt
MergesWhereMany g opening (Some keep) result =
    (HasRolled g opening (λ count. count < keep + 1024) × (result ≡ Ok tt))
    ⊎ (HasRolled g opening (λ count. keep + 1024 ≤ count) × IsMerging g opening keep result)

-- ---- beside those who append

-- A round of turns by one who keeps so many segments, and so many rolled files where any are merged; the last turn was
-- answered so.
pub record Round : Type 0 where
  pub keep : ℕ
  pub merge : Option ℕ
  pub last : Turn

-- It was asked for that so many are kept and merged, and the round's turns were made: sixteen of rolling, those of
-- merging, and the last one.
pub record IsRound {D S X : Type 0} (g : Ghosts D S X) (opening : Shelf) (asked : Asked → Type 0) (round : Round)
    : Type 0 where
  pub is_asked : ∥ asked (to_keep round.keep) ∥₁
  pub is_merge_asked : ∥ asked (to_merge round.merge) ∥₁
  pub turns : List Turn
  pub made : AllByRecursion (λ turn. IsRolled g opening round.keep (Ok turn)) turns
  pub sixteen : length turns ≡ 16
  pub merged : MergesWhereMany g opening round.merge (Ok tt)
  pub last_made : IsRolled g opening round.keep (Ok round.last)

-- A turn of a round by one who keeps and merges so many was refused so: one of rolling, one of merging, or one of one
-- who begins no job, since that one keeps all.
abbrev pub IsRoundRefused : {D S X : Type 0} → Ghosts D S X → Shelf → ℕ → Option ℕ → ArchiveError → Type 0
IsRoundRefused g opening keep merge e =
    IsRolled g opening keep (Err e) ⊎ MergesWhereMany g opening merge (Err e) ⊎ IsRolled g opening 4294967295 (Err e)

-- that of one who keeps and merges as many as was asked for
abbrev pub IsTurnRefused : {D S X : Type 0} → Ghosts D S X → Shelf → (Asked → Type 0) → ArchiveError → Type 0
IsTurnRefused g opening asked e =
    (keep : ℕ) × (merge : Option ℕ) × ∥ asked (to_keep keep) ∥₁ × ∥ asked (to_merge merge) ∥₁
    × IsRoundRefused g opening keep merge e

-- These rounds were made, the newest first, until the last turn of one had nothing to do, 2^64 - 1 were made, or a turn
-- was refused so.
pub record RollsBeside {D S X R : Type 0} (g : Ghosts D S X) (opening : Shelf) (asked : Asked → Type 0)
    (rounds : List Round) (result : Result R ArchiveError) : Type 0 where
  pub made : AllByRecursion (IsRound g opening asked) rounds
  pub done : OnOk result (IsDone 18446744073709551615 (map (λ round. round.last) rounds))
  pub refused : IfErr result (IsTurnRefused g opening asked)
