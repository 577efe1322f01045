-- What a stop may have left since a moment, and how it grows as calls run.
use Rattle.std.specs.Prelude.{◌⊎◌, ℕ, ◌≤◌, List}
use Rattle.flow_disk.specs.Disk.{Held, IsDiskImage}

-- Time goes on: a stop since t might have left what it might have left before, or an image of `during`.
pub record Elapses (before now : ℕ) (past since : ℕ → (ℕ → List ℕ) → Type 0) (during : ℕ → Held) : Type 0 where
  pub later : before ≤ now
  pub nothing_else : (t : ℕ) (image : ℕ → List ℕ) → t ≤ before → since t image → past t image ⊎ IsDiskImage during image
  pub keeps : (t : ℕ) (image : ℕ → List ℕ) → t ≤ before → past t image → since t image

-- the same, of a disk before a call and after it
abbrev pub Passes : {D : Type 0} → (D → ℕ) → (D → ℕ → (ℕ → List ℕ) → Type 0) → D → D → (ℕ → Held) → Type 0
Passes moment left_since old new during = Elapses (moment old) (moment new) (left_since old) (left_since new) during

-- A stop inside the call is among the moments: it might have left each image of `during`.
abbrev pub Covers : ℕ → (ℕ → (ℕ → List ℕ) → Type 0) → (ℕ → Held) → Type 0
Covers before since during = (t : ℕ) (image : ℕ → List ℕ) → t ≤ before → IsDiskImage during image → since t image
