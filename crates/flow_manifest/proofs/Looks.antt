-- Calls that only look at a disk.
use Rattle.std.proofs.Common.{◌≡◌, ◌≢◌, ⊎_elim, ℕ, List, refl, sym, ◌∙◌, ap, subst}
use Rattle.std.proofs.lemmas.Bool.{cases_eq}
use Rattle.flow_disk.specs.declared.disk.Disk.{Ghosts}
use Rattle.flow_disk.specs.Disk.{Held, Marks, IsImage, IsDiskImage, Stays}
use Rattle.flow_disk.specs.Moments.{Passes}
use Rattle.flow_disk.specs.Calls.{LeavesOnly}
use Rattle.flow_disk.proofs.Moments.{started, goes_on}

-- a part of the marks that one call keeps of its file, and of every other
pub part_kept : {P : Type 0} (part : Marks → P) (old new : ℕ → Marks) (file : ℕ) → ((n : ℕ) → n ≢ file → new n ≡ old n)
    → part (new file) ≡ part (old file) → (n : ℕ) → part (new n) ≡ part (old n)
part_kept part old new file others here n = ⊎_elim
    (λ same. subst (λ (k : ℕ). part (new k) ≡ part (old k)) (sym same) here)
    (λ differs. ap part (others n differs))
    (cases_eq n file)

module _ {D S X : Type 0} (g : Ghosts D S X) where
  -- a call inside which a stop leaves the images there were
  pub looked : (old new : D)
      → ((image : ℕ → List ℕ) → g.left_since old (g.moment old) image → IsDiskImage (g.held old) image)
      → Passes g.moment g.left_since old new (g.held old) → LeavesOnly g old new (IsDiskImage (g.held old))
  looked old new only_now time =
      goes_on g old old new (IsDiskImage (g.held old)) (g.held old)
      (started g old (IsDiskImage (g.held old)) only_now) time (λ image is. is)

  -- one more after it
  pub looked_again : (old mid new : D) → LeavesOnly g old mid (IsDiskImage (g.held old))
      → Stays (g.held old) (g.held mid) → Passes g.moment g.left_since mid new (g.held mid)
      → LeavesOnly g old new (IsDiskImage (g.held old))
  looked_again old mid new so_far stays time =
      goes_on g old mid new (IsDiskImage (g.held old)) (g.held mid) so_far time
      (λ image is n. subst (λ (f : Held). IsImage f (image n)) (stays n) (is n))
