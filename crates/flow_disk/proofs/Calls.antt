-- A run of device calls on one file.
use Rattle.std.proofs.Common.{◌≡◌, ◌≢◌, ℕ, List, refl, sym, ◌∙◌, subst}
use Rattle.flow_disk.specs.Disk.{Held, IsImage, IsDiskImage, AllImages, ComesOf, InFile, changed}
use Rattle.flow_disk.specs.declared.disk.Disk.{Ghosts}
use Rattle.flow_disk.specs.Calls.{LeavesOnly}
use Rattle.flow_disk.specs.Moments.{Elapses}
use Rattle.flow_disk.proofs.Images.{with_image, image_here, image_there, with_image_is, changed_here, changed_there}
use Rattle.flow_disk.proofs.Moments.{started, goes_on}

-- Each image of the new files is made of one of the old by a step in one file, where that file's images are.
pub comes : (old new : ℕ → Held) (file : ℕ) (Q : List ℕ → List ℕ → Type 0) → ((n : ℕ) → n ≢ file → new n ≡ old n)
    → ((b : List ℕ) → IsImage (new file) b → (a : List ℕ) × IsImage (old file) a × Q a b)
    → AllImages new (ComesOf old (InFile file Q))
comes old new file Q others here image is = (
  before,
  is_before,
  record {
    others = outside;
    here =
        subst (λ l. Q l (image file)) (sym (image_here image file from.0)) from.2;
  },
)
  where
    from : (a : List ℕ) × IsImage (old file) a × Q a (image file)
    from = here (image file) (is file)

    before : ℕ → List ℕ
    before = with_image image file from.0

    is_before : IsDiskImage old before
    is_before = with_image_is old image file from.0 from.1
        (λ n differs. subst (λ (f : Held). IsImage f (image n)) (others n differs) (is n))

    outside : (n : ℕ) → n ≢ file → image n ≡ before n
    outside n differs = sym (image_there image file from.0 n differs)

module _ {D S X : Type 0} (g : Ghosts D S X) where
  -- before the first call
  pub starts : (old : D) (file : ℕ) (Q : List ℕ → List ℕ → Type 0)
      → ((image : ℕ → List ℕ) → g.left_since old (g.moment old) image → IsDiskImage (g.held old) image)
      → ((a : List ℕ) → IsImage (g.held old file) a → Q a a)
      → LeavesOnly g old old (ComesOf (g.held old) (InFile file Q))
  starts old file Q only_now same = started g old (ComesOf (g.held old) (InFile file Q))
      (λ image left. comes (g.held old) (g.held old) file Q (λ n differs. refl) (λ b is. (b, is, same b is)) image
      (only_now image left))

  -- a call on the file, inside which it may be left as one of the images of `to`
  pub changes : (old mid new : D) (file : ℕ) (Q : List ℕ → List ℕ → Type 0) (to : Held)
      → LeavesOnly g old mid (ComesOf (g.held old) (InFile file Q))
      → ((n : ℕ) → n ≢ file → g.held mid n ≡ g.held old n)
      → Elapses (g.moment mid) (g.moment new) (g.left_since mid) (g.left_since new) (changed (g.held mid) file to)
      → ((b : List ℕ) → IsImage to b → (a : List ℕ) × IsImage (g.held old file) a × Q a b)
      → LeavesOnly g old new (ComesOf (g.held old) (InFile file Q))
  changes old mid new file Q to so_far others time here =
      goes_on g old mid new (ComesOf (g.held old) (InFile file Q))
      (changed (g.held mid) file to) so_far time
      (comes (g.held old) (changed (g.held mid) file to) file Q
      (λ n differs. changed_there (g.held mid) file to n differs
      ∙ others n differs)
      (λ b is. here b (subst (λ (f : Held). IsImage f b) (changed_here (g.held mid) file to) is)))

  -- a call inside which nothing changes
  pub stays : (old mid new : D) (file : ℕ) (Q : List ℕ → List ℕ → Type 0)
      → LeavesOnly g old mid (ComesOf (g.held old) (InFile file Q))
      → ((n : ℕ) → n ≢ file → g.held mid n ≡ g.held old n)
      → Elapses (g.moment mid) (g.moment new) (g.left_since mid) (g.left_since new) (g.held mid)
      → ((b : List ℕ) → IsImage (g.held mid file) b → (a : List ℕ) × IsImage (g.held old file) a × Q a b)
      → LeavesOnly g old new (ComesOf (g.held old) (InFile file Q))
  stays old mid new file Q so_far others time here =
      goes_on g old mid new (ComesOf (g.held old) (InFile file Q)) (g.held mid) so_far time
      (comes (g.held old) (g.held mid) file Q others here)
