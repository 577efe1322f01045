-- What holds of every moment.
use Rattle.std.specs.Prelude.{ℕ, ◌≤◌, List, [], ◌∷◌, length}
use Rattle.std.proofs.Common.{inl, ⊎_elim, arith}
use Rattle.flow_disk.specs.Disk.{IsImage}
use Rattle.flow_memory_directory.specs.declared.deed.Deed.{Deed}
use Rattle.flow_memory_directory.specs.Bound.{bound, LeftSince}

pub now_counts : (deeds : List Deed) (t : ℕ) (image : ℕ → List ℕ) → t ≤ length deeds
    → ((n : ℕ) → IsImage (bound deeds n) (image n)) → LeftSince deeds t image
now_counts [] t image le is = is
now_counts (deed ∷ deeds) t image le is = inl is

pub now_alone : (deeds : List Deed) (image : ℕ → List ℕ) → LeftSince deeds (length deeds) image
    → (n : ℕ) → IsImage (bound deeds n) (image n)
now_alone [] image left = left
now_alone (deed ∷ deeds) image left = ⊎_elim (λ now. now) (λ past. absurd (omega (arith, past.0))) left
