-- A disk that is only read.
use Rattle.std.proofs.Common.{◌≡◌, ◌≢◌, ◌∙◌, ℕ, ◌≤◌, ⊎_elim, IsTrue, List, Bool, refl, sym, ap, subst, arith}
use Rattle.std.proofs.lemmas.Bool.{cases_eq}
use Rattle.flow_disk.specs.Calls.{LeavesOnly}
use Rattle.flow_disk.specs.Disk.{Held, Marks, IsDiskImage, IsImage, Stays}
use Rattle.flow_disk.specs.Moments.{Elapses}
use Rattle.flow_disk.specs.declared.disk.Disk.{Ghosts}
use Rattle.flow_disk.proofs.Moments.{by, goes_on, one_run, started}
use Rattle.flow_recover.specs.Reading.{IsOnlyRead}

module _ {D S X : Type 0} (g : Ghosts D S X) where
  -- A stop at this moment leaves what is there.
  abbrev pub LeavesNow : D → Type 0
  LeavesNow d = IsTrue (g.honest d) → (image : ℕ → List ℕ) → g.left_since d (g.moment d) image
      → IsDiskImage (g.held d) image

  pub unread : (d : D) → LeavesNow d → IsOnlyRead g d d
  unread d now = record {
    honest = refl;
    settled = λ n. refl;
    frozen = λ n. refl;
    listed = λ n. refl;
    slots = λ n below. refl;
    held = λ h n. refl;
    any_moment = λ h. started g d (IsDiskImage (g.held d)) (now h);
  }

  images_along : (a b : D) → Stays (g.held a) (g.held b) → (image : ℕ → List ℕ) → IsDiskImage (g.held b) image
      → IsDiskImage (g.held a) image
  images_along a b held image is n = subst (λ (f : Held). IsImage f (image n)) (held n) (is n)

  pub then : (a b c : D) → IsOnlyRead g a b → IsOnlyRead g b c → IsOnlyRead g a c
  then a b c first second = record {
    honest = second.honest ∙ first.honest;
    settled = λ n. second.settled n ∙ first.settled n;
    frozen = λ n. second.frozen n ∙ first.frozen n;
    listed = λ n. second.listed n ∙ first.listed n;
    slots = λ n below. second.slots n below ∙ first.slots n below;
    held = λ h n. second.held (subst IsTrue (sym first.honest) h) n ∙ first.held h n;
    any_moment = λ h. one_run g a b c (IsDiskImage (g.held a)) (first.any_moment h)
        (by g b c (IsDiskImage (g.held b)) (IsDiskImage (g.held a))
        (second.any_moment (subst IsTrue (sym first.honest) h)) (images_along a b (first.held h)));
  }

  stops : (a b : D) → LeavesNow a
      → (IsTrue (g.honest a)
      → Elapses (g.moment a) (g.moment b) (g.left_since a) (g.left_since b) (g.held a))
      → IsTrue (g.honest a) → LeavesOnly g a b (IsDiskImage (g.held a))
  stops a b now time h = goes_on g a a b (IsDiskImage (g.held a)) (g.held a)
      (started g a (IsDiskImage (g.held a)) (now h)) (time h) (λ image is. is)

  -- a call that reads octets of a file
  pub read : (a b : D) → LeavesNow a → g.honest b ≡ g.honest a → Stays (g.marks a) (g.marks b)
      → (IsTrue (g.honest a) → Stays (g.held a) (g.held b))
      → (IsTrue (g.honest a)
      → Elapses (g.moment a) (g.moment b) (g.left_since a) (g.left_since b) (g.held a))
      → IsOnlyRead g a b
  read a b now honest marks held time = record {
    honest = honest;
    settled = λ n. ap (λ (m : Marks). m.settled) (marks n);
    frozen = λ n. ap (λ (m : Marks). m.frozen) (marks n);
    listed = λ n. ap (λ (m : Marks). m.listed) (marks n);
    slots = λ n below. marks n;
    held = held;
    any_moment = stops a b now time;
  }

  -- a call that asks how long a file is, which isn't a slot
  pub measured : (a b : D) (file : ℕ) → 3 ≤ file → LeavesNow a → g.honest b ≡ g.honest a
      → ((n : ℕ) → n ≢ file → g.marks b n ≡ g.marks a n)
      → (g.marks b file).settled ≡ (g.marks a file).settled
      → (g.marks b file).frozen ≡ (g.marks a file).frozen
      → (g.marks b file).listed ≡ (g.marks a file).listed
      → (IsTrue (g.honest a) → Stays (g.held a) (g.held b))
      → (IsTrue (g.honest a)
      → Elapses (g.moment a) (g.moment b) (g.left_since a) (g.left_since b) (g.held a))
      → IsOnlyRead g a b
  measured a b file no_slot now honest others settled frozen listed held time = record {
    honest = honest;
    settled = λ n. each (λ m. m.settled) settled n;
    frozen = λ n. each (λ m. m.frozen) frozen n;
    listed = λ n. each (λ m. m.listed) listed n;
    slots = λ n below. others n (λ same. omega (arith, same, below, no_slot));
    held = held;
    any_moment = stops a b now time;
  }
    where
      each : (of : Marks → Bool) → of (g.marks b file) ≡ of (g.marks a file) → (n : ℕ)
          → of (g.marks b n) ≡ of (g.marks a n)
      each of same n = ⊎_elim
          (λ is. subst (λ (k : ℕ). of (g.marks b k) ≡ of (g.marks a k)) (sym is) same)
          (λ differs. ap of (others n differs)) (cases_eq n file)
