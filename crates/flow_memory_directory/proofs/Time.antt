-- How the moments go on.
use Rattle.std.proofs.Common.{inl, inr, ⊎_elim, ℕ, List, ◌∷◌, length}
use Rattle.std.proofs.Common.{arith}
use Rattle.flow_disk.specs.Disk.{Held, IsImage, IsDiskImage}
use Rattle.flow_disk.specs.Moments.{Elapses, Covers}
use Rattle.flow_memory_directory.specs.declared.deed.Deed.{Deed}
use Rattle.flow_memory_directory.specs.Bound.{bound, LeftSince}

-- nothing that a stop may leave differs
pub elapses_still : (deeds : List Deed) (during : ℕ → Held)
    → Elapses (length deeds) (length deeds) (LeftSince deeds) (LeftSince deeds) during
elapses_still deeds during = record {
  later = omega arith;
  nothing_else = λ t image le left. inl left;
  keeps = λ t image le past. past;
}

-- one call more, inside which a stop leaves these images
pub elapses_more : (deeds : List Deed) (deed : Deed) (during : ℕ → Held)
    → ((image : ℕ → List ℕ) → ((n : ℕ) → IsImage (bound (deed ∷ deeds) n) (image n)) → IsDiskImage during image)
    → Elapses (length deeds) (length (deed ∷ deeds)) (LeftSince deeds) (LeftSince (deed ∷ deeds)) during
elapses_more deeds deed during inside = record {
  later = omega arith;
  nothing_else = λ t image le left. ⊎_elim (λ now. inr (inside image now)) (λ past. inl past.1) left;
  keeps = λ t image le past. inr (le, past);
}

pub covers_more : (deeds : List Deed) (deed : Deed) (during : ℕ → Held)
    → ((image : ℕ → List ℕ) → IsDiskImage during image → (n : ℕ) → IsImage (bound (deed ∷ deeds) n) (image n))
    → Covers (length deeds) (LeftSince (deed ∷ deeds)) during
covers_more deeds deed during each t image le is = inl (each image is)
