-- The calls that make a segment's file, one after the other.
use Rattle.std.proofs.Common.{◌≡◌, ◌≢◌, ℕ, ◌+◌, IsTrue, List, ◌++◌, length, take, drop, refl, sym, ◌∙◌}
use Rattle.std.proofs.Common.{ap, subst, arith, length-append}
use Rattle.std.proofs.lemmas.List.{take_at}
use Rattle.flow_disk.specs.declared.disk.Disk.{Ghosts}
use Rattle.flow_disk.specs.Disk.{Held, IsImage, IsDiskImage, ComesOf, InFile, changed, put_at}
use Rattle.flow_disk.specs.Moments.{Passes}
use Rattle.flow_disk.specs.Calls.{LeavesOnly}
use Rattle.flow_disk.proofs.Calls.{starts, changes, stays}
use Rattle.flow_segment.specs.Steps.{trailer, IsAnything}

-- So far a stop leaves the other files as they were, and they are.
pub record LeavesOthers {D S X : Type 0} (g : Ghosts D S X) (start : D) (file : ℕ) (now : D) : Type 0 where
  pub honest : IsTrue (g.honest now)
  pub image : IsImage (g.held start file) (g.held start file).reads
  pub run : LeavesOnly g start now (ComesOf (g.held start) (InFile file IsAnything))
  pub others : (n : ℕ) → n ≢ file → g.held now n ≡ g.held start n

module _ {D S X : Type 0} {g : Ghosts D S X} {start : D} {file : ℕ} where
  pub begun : IsTrue (g.honest start) → IsImage (g.held start file) (g.held start file).reads
      → ((image : ℕ → List ℕ) → g.left_since start (g.moment start) image → IsDiskImage (g.held start) image)
      → LeavesOthers g start file start
  begun h image only_now = record {
    honest = h;
    image = image;
    run = starts g start file IsAnything only_now (λ octets is. tt);
    others = λ n differs. refl;
  }

  -- a call that changes the file
  pub changed_by : {mid new : D} (to : Held) → LeavesOthers g start file mid → g.honest new ≡ g.honest mid
      → (IsTrue (g.honest mid) → Passes g.moment g.left_since mid new (changed (g.held mid) file to))
      → (IsTrue (g.honest mid) → (n : ℕ) → n ≢ file → g.held new n ≡ g.held mid n) → LeavesOthers g start file new
  changed_by {mid} {new} to so_far same time others = record {
    honest = subst IsTrue (sym same) so_far.honest;
    image = so_far.image;
    run = changes g start mid new file IsAnything to so_far.run so_far.others (time so_far.honest)
        (λ octets is. ((g.held start file).reads, so_far.image, tt));
    others = λ n differs. others so_far.honest n differs ∙ so_far.others n differs;
  }

  -- a call inside which nothing changes
  pub settled_by : {mid new : D} → LeavesOthers g start file mid → g.honest new ≡ g.honest mid
      → (IsTrue (g.honest mid) → Passes g.moment g.left_since mid new (g.held mid))
      → (IsTrue (g.honest mid) → (n : ℕ) → n ≢ file → g.held new n ≡ g.held mid n) → LeavesOthers g start file new
  settled_by {mid} {new} so_far same time others = record {
    honest = subst IsTrue (sym same) so_far.honest;
    image = so_far.image;
    run = stays g start mid new file IsAnything so_far.run so_far.others (time so_far.honest)
        (λ octets is. ((g.held start file).reads, so_far.image, tt));
    others = λ n differs. others so_far.honest n differs ∙ so_far.others n differs;
  }

-- ---- what is written

two_puts : (old prefix z : List ℕ) (count : ℕ) → count ≡ length prefix + length z
    → take count (put_at (put_at old 0 prefix) (length prefix) z) ≡ prefix ++ z
two_puts old prefix z count is =
    let front : take (length prefix) (put_at old 0 prefix) ≡ prefix =
    take_at prefix (drop (0 + length prefix) old) (length prefix) refl in
    ap (λ (l : List ℕ). take count (l ++ z ++ drop (length prefix + length z) (put_at old 0 prefix))) front
    ∙ take_at (prefix ++ z) (drop (length prefix + length z) (put_at old 0 prefix)) count
    (omega (arith, length-append prefix z, is))

-- a prefix and the trailer after it, whatever the file held
pub prefix_put : (prefix : List ℕ) (start written ended cut : Held) → written.reads ≡ put_at start.reads 0 prefix
    → ended.reads ≡ put_at written.reads (length prefix) trailer → cut.reads ≡ take (length prefix + 2) ended.reads
    → cut.reads ≡ prefix ++ trailer
prefix_put prefix start written ended cut one two three =
    three ∙ ap (take (length prefix + 2)) (two ∙ ap (λ (l : List ℕ). put_at l (length prefix) trailer) one)
    ∙ two_puts start.reads prefix trailer (length prefix + 2) (omega arith)
