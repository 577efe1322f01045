-- What a query of a span reads of a shelf.
use Rattle.std.specs.Prelude.{◌≡◌, ◌⊎◌, ℕ, List, [], ◌∷◌, IsTrue}
use Rattle.std.specs.FinMap.{FinMap}
use Rattle.flow_measure.specs.declared.rows.Sums.{Sums}
use Rattle.flow_measure.specs.Span.{HasNoneWithin}
use Rattle.flow_measure.specs.Sums.{key_cmp}
use Rattle.flow_model.specs.Shelf.{Shelf}
use Rattle.flow_snapshot.specs.Shares.{IsFileSum, IsSegmentSum}
use Rattle.flow_snapshot.specs.ShelfSeen.{ShelfSeen}

-- A part has sums, and no interval that starts from one moment on and before another is among theirs.
abbrev pub IsPassedOver : {A : Type 0} → (A → FinMap key_cmp Sums → Type 0) → ℕ → ℕ → A → Type 0
IsPassedOver Has from to part =
    ((sums : FinMap key_cmp Sums) × Has part sums)
    × ((sums : FinMap key_cmp Sums) → Has part sums → HasNoneWithin from to sums)

-- the same parts in their order, but for some that are passed over
abbrev pub LeavesOut : {A : Type 0} → (A → FinMap key_cmp Sums → Type 0) → ℕ → ℕ → List A → List A → Type 0
LeavesOut Has from to [] [] = Unit {0}
LeavesOut Has from to [] (k ∷ kept) = ⊥
LeavesOut {A} Has from to (p ∷ parts) kept =
    (IsPassedOver Has from to p × LeavesOut Has from to parts kept)
    ⊎ ((more : List A) × (kept ≡ p ∷ more) × LeavesOut Has from to parts more)

-- a shelf without some of its parts, each of which has sums and none in the span
pub record IsWithin (from to : ℕ) (whole within : Shelf) : Type 0 where
  pub width : within.width ≡ whole.width
  pub wide : within.wide ≡ whole.wide
  pub merged : LeavesOut (IsFileSum whole.wide) from to whole.merged within.merged
  pub rolled : LeavesOut (IsFileSum whole.width) from to whole.rolled within.rolled
  pub sealed : LeavesOut (IsSegmentSum whole.width) from to whole.sealed within.sealed
  pub prefix : within.prefix ≡ whole.prefix
  pub active : within.active ≡ whole.active

-- of files on honest disks
abbrev pub IsSightWithin : ℕ → ℕ → ShelfSeen → ShelfSeen → Type 0
IsSightWithin from to whole within =
    IsTrue whole.honest → IsTrue within.honest × IsWithin from to whole.shelf within.shelf
