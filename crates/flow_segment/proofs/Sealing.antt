-- The calls that seal a segment's file, one after the other.
use Rattle.std.proofs.Common.{◌≡◌, ◌≢◌, ℕ, ◌≤◌, List, length, refl, sym, subst, arith}
use Rattle.flow_disk.specs.declared.disk.Disk.{Ghosts}
use Rattle.flow_disk.specs.Disk.{Held, IsImage, IsDiskImage, ComesOf, InFile, changed, loosened_at}
use Rattle.flow_disk.specs.Laws.{IsAlone}
use Rattle.flow_disk.specs.Moments.{Elapses}
use Rattle.flow_disk.specs.Calls.{LeavesOnly}
use Rattle.flow_disk.proofs.Images.{same_front, settled_fast, behind_cut}
use Rattle.flow_disk.proofs.Calls.{starts, changes, stays}
use Rattle.flow_segment.specs.Steps.{KeepsFront}

-- what a stop leaves of a file that is being cut
pub cut_keeps : (file : Held) (count : ℕ) (reads image : List ℕ) → count ≤ file.fast → file.fast ≤ length file.last
    → IsImage (loosened_at file count reads) image
    → (before : List ℕ) × IsImage file before × KeepsFront count before image
cut_keeps file count reads image fast whole is =
    let behind = behind_cut count count file (loosened_at file count reads) (omega arith) fast refl in
    let found = same_front count file (loosened_at file count reads) behind fast whole image is in (
      found.0,
      found.1,
      record { front = sym found.2; long = omega (arith, is.long, behind.fast) },
    )

module _ {D S X : Type 0} (g : Ghosts D S X)
    (start : D) (file count : ℕ) (alone : IsAlone (g.held start file)) (room : count ≤ length (g.held start file).reads)
    (whole : (g.held start file).fast ≤ length (g.held start file).last)
    (only_now : (image : ℕ → List ℕ) → g.left_since start (g.moment start) image → IsDiskImage (g.held start) image)
  where
    abbrev Keeps : D → Type 0
    Keeps now = LeavesOnly g start now (ComesOf (g.held start) (InFile file (KeepsFront count)))

    fast : count ≤ (g.held start file).fast
    fast = omega (arith, settled_fast (g.held start file) alone, room)

    pub inside_cut : (mid : D) → Elapses (g.moment start) (g.moment mid) (g.left_since start) (g.left_since mid)
        (changed (g.held start) file (loosened_at (g.held start file) count (g.held start file).reads)) → Keeps mid
    inside_cut mid time =
        changes g start start mid file (KeepsFront count)
        (loosened_at (g.held start file) count (g.held start file).reads)
        (starts g start file (KeepsFront count) only_now
        (λ octets is. record { front = refl; long = omega arith })) (λ n differs. refl) time
        (λ image is. cut_keeps (g.held start file) count (g.held start file).reads image fast whole is)

    pub inside_sync : (mid new : D) (reads : List ℕ) → Keeps mid
        → g.held mid file ≡ loosened_at (g.held start file) count reads
        → ((n : ℕ) → n ≢ file → g.held mid n ≡ g.held start n)
        → Elapses (g.moment mid) (g.moment new) (g.left_since mid) (g.left_since new) (g.held mid) → Keeps new
    inside_sync mid new reads so_far done others time =
        stays g start mid new file (KeepsFront count) so_far others time
        (λ image is. cut_keeps (g.held start file) count reads image fast whole
        (subst (λ (f : Held). IsImage f image) done is))
