-- How calls on a folder's files follow one another.
use Rattle.std.proofs.Common.{◌≡◌, ◌≢◌, inl, inr, ⊎_elim, ℕ, ◌+◌, ◌≤◌, Bool, true, false, List}
use Rattle.std.proofs.Common.{◌||◌, nat_lt, IsTrue, refl, sym, ◌∙◌, subst, arith}
use Rattle.std.proofs.lemmas.Bool.{cases_eq, false≢true}
use Rattle.flow_disk.specs.Disk.{Held, IsImage, IsDiskImage, IsWithin, changed, touched_at, loosened_at, given_up}
use Rattle.flow_disk.specs.Files.{while_removing}
use Rattle.flow_disk.proofs.Images.{changed_here, changed_there}
use Rattle.flow_disk.specs.Moments.{Elapses, Passes, Covers}
use Rattle.flow_directory.specs.File.{File, held_of}
use Rattle.std.proofs.Common.{Result}
use Rattle.flow_directory.specs.Calls.{KeepsStatus, Opening, ChangingMode}
use Rattle.flow_folder_disk.specs.Known.{IsSeen, IsReached, Leaves}

pub status_same : (file : File) → KeepsStatus file file
status_same file = record { linked = refl; read_only = refl; lent = refl }

pub status_then : (a b c : File) → KeepsStatus a b → KeepsStatus b c → KeepsStatus a c
status_then a b c first second = record {
  linked = second.linked ∙ first.linked;
  read_only = second.read_only ∙ first.read_only;
  lent = second.lent ∙ first.lent;
}

pub seen_same : (was now : File) → now ≡ was → IsSeen was now
seen_same was now same = subst (λ (f : File). IsSeen was f) (sym same)
    (record { held = refl; unsure = λ part is. is; status = status_same was })

pub seen_then : (a b c : File) → IsSeen a b → IsSeen b c → IsSeen a c
seen_then a b c first second = record {
  held = second.held ∙ first.held;
  unsure = λ part is. first.unsure part (second.unsure part is);
  status = status_then a b c first.status second.status;
}

pub held_then : (was mid now : File) → now.held ≡ mid.held → mid.held ≡ was.held → now.held ≡ was.held
held_then was mid now second first = second ∙ first

pub reached_seen : (a b : File) → IsSeen a b → IsReached a b
reached_seen a b seen = record {
  held = seen.held;
  unsure = seen.unsure;
  linked = seen.status.linked;
  lent = seen.status.lent;
}

pub reached_then : (a b c : File) → IsReached a b → IsReached b c → IsReached a c
reached_then a b c first second = record {
  held = second.held ∙ first.held;
  unsure = λ part is. first.unsure part (second.unsure part is);
  linked = second.linked ∙ first.linked;
  lent = second.lent ∙ first.lent;
}

pub opening_seen : (was now : File) → Opening was now → IsSeen was now
opening_seen was now rule = record { held = rule.held; unsure = rule.parts.each; status = rule.status }

pub changing_reached : {T E : Type 0} (was now : File) (read_only : Bool) (r : Result T E)
    → ChangingMode was now read_only r → IsReached was now
changing_reached was now read_only r rule = record {
  held = rule.held;
  unsure = λ part unsure. ⊎_elim
      (λ dirty. ⊎_elim (λ old. inl old) (λ none. absurd none) (rule.parts.dirty part dirty))
      (λ lost. inr (rule.parts.lost part lost)) unsure;
  linked = rule.linked;
  lent = rule.lent;
}

-- a system that keeps its rules goes on doing so
pub honest_then : (a b : Bool) → b ≡ a → IsTrue a → IsTrue b
honest_then a b same is = same ∙ is

-- time goes on twice
pub elapses_then : (a b c : ℕ) (past since later : ℕ → (ℕ → List ℕ) → Type 0) (during after : ℕ → Held)
    → Elapses a b past since during → Elapses b c since later after
    → ((image : ℕ → List ℕ) → IsDiskImage after image → IsDiskImage during image)
    → Elapses a c past later during
elapses_then a b c past since later during after first second within = record {
  later = omega (arith, first.later, second.later);
  nothing_else = λ t image le left. ⊎_elim (λ early. first.nothing_else t image le early)
      (λ late. inr (within image late)) (second.nothing_else t image (omega (arith, le, first.later)) left);
  keeps = λ t image le left. second.keeps t image (omega (arith, le, first.later)) (first.keeps t image le left);
}

-- and may be said to leave more
pub elapses_wider : (a b : ℕ) (past since : ℕ → (ℕ → List ℕ) → Type 0) (during wider : ℕ → Held)
    → Elapses a b past since during
    → ((image : ℕ → List ℕ) → IsDiskImage during image → IsDiskImage wider image) → Elapses a b past since wider
elapses_wider a b past since during wider time within = record {
  later = time.later;
  nothing_else = λ t image le left. ⊎_elim (λ early. inl early) (λ late. inr (within image late))
      (time.nothing_else t image le left);
  keeps = time.keeps;
}

-- one file among all
pub image_all : (held : ℕ → Held) (file : ℕ) (to : Held) (image : ℕ → List ℕ)
    → ((n : ℕ) → n ≢ file → IsImage (held n) (image n)) → IsImage to (image file)
    → IsDiskImage (changed held file to) image
image_all held file to image others here n = ⊎_elim
    (λ same. subst (λ (k : ℕ). IsImage (changed held file to k) (image k)) (sym same)
    (subst (λ (h : Held). IsImage h (image file)) (sym (changed_here held file to)) here))
    (λ differs. subst (λ (h : Held). IsImage h (image n)) (sym (changed_there held file to n differs))
    (others n differs))
    (cases_eq n file)

image_of : (held : ℕ → Held) (file : ℕ) (to : Held) (image : ℕ → List ℕ) → IsDiskImage (changed held file to) image
    → IsImage to (image file)
image_of held file to image is = subst (λ (h : Held). IsImage h (image file)) (changed_here held file to) (is file)

image_off : (held : ℕ → Held) (file : ℕ) (to : Held) (image : ℕ → List ℕ) → IsDiskImage (changed held file to) image
    → (n : ℕ) → n ≢ file → IsImage (held n) (image n)
image_off held file to image is n differs =
    subst (λ (h : Held). IsImage h (image n)) (changed_there held file to n differs) (is n)

-- what may be left inside a write, a cut and a removal is no less than before
pub touched_more : (h : Held) (at count : ℕ) (reads image : List ℕ) → IsImage h image
    → IsImage (touched_at h at count reads) image
touched_more h at count reads image is = record {
  long = is.long;
  end = λ closed. is.end (or_false h.loose (nat_lt h.fast (at + count)) closed);
  same = λ place lt outside. is.same place lt outside.1;
}
  where
    or_false : (b c : Bool) → (b || c) ≡ false → b ≡ false
    or_false true c e = absurd (false≢true (sym e))
    or_false false c e = refl

pub loosened_more : (h : Held) (count : ℕ) (reads image : List ℕ) → IsImage h image
    → IsImage (loosened_at h count reads) image
loosened_more h count reads image is = record {
  long = omega (arith, is.long);
  end = λ closed. absurd (false≢true (sym closed));
  same = λ place lt outside. is.same place (omega (arith, lt)) outside;
}

pub given_all : (h : Held) (reads image : List ℕ) → IsImage (given_up h reads) image
given_all h reads image = record {
  long = omega arith;
  end = λ closed. absurd (false≢true (sym closed));
  same = λ place lt outside. absurd (omega (arith, lt));
}

module _ {D : Type 0} (files : D → ℕ → File) (moment : D → ℕ) (left : D → ℕ → (ℕ → List ℕ) → Type 0) where
  pub leaves_stays : (a b : D) (file : ℕ) → ((n : ℕ) → files b n ≡ files a n)
      → Passes moment left a b (held_of (files a))
      → Leaves files moment left a b file (held_of (files a))
  leaves_stays a b file same time =
      record { others = λ n differs. seen_same (files a n) (files b n) (same n); time = time }

  pub leaves_one : (a b : D) (file : ℕ) (during : ℕ → Held) → ((n : ℕ) → n ≢ file → files b n ≡ files a n)
      → Passes moment left a b during → Leaves files moment left a b file during
  leaves_one a b file during others time =
      record { others = λ n differs. seen_same (files a n) (files b n) (others n differs); time = time }

  pub leaves_all : (a b : D) (file : ℕ) (during : ℕ → Held) → ((n : ℕ) → IsSeen (files a n) (files b n))
      → Passes moment left a b during → Leaves files moment left a b file during
  leaves_all a b file during seen time = record { others = λ n differs. seen n; time = time }

  others_then : (a b c : D) (file : ℕ) → ((n : ℕ) → n ≢ file → IsSeen (files a n) (files b n))
      → ((n : ℕ) → n ≢ file → IsSeen (files b n) (files c n)) → (n : ℕ) → n ≢ file → IsSeen (files a n) (files c n)
  others_then a b c file first second n differs =
      seen_then (files a n) (files b n) (files c n) (first n differs) (second n differs)

  -- no more may be left than before
  fewer : (a b : D) (file : ℕ) → IsWithin (files b file).held (files a file).held
      → ((n : ℕ) → n ≢ file → IsSeen (files a n) (files b n))
      → (image : ℕ → List ℕ) → IsDiskImage (held_of (files b)) image → IsDiskImage (held_of (files a)) image
  fewer a b file within others image is n = ⊎_elim
      (λ same. subst (λ (k : ℕ). IsImage (files a k).held (image k)) (sym same) (within (image file) (is file)))
      (λ differs. subst (λ (h : Held). IsImage h (image n)) (others n differs).held (is n))
      (cases_eq n file)

  pub leaves_then : (a b c : D) (file : ℕ) → Leaves files moment left a b file (held_of (files a))
      → IsWithin (files b file).held (files a file).held → Leaves files moment left b c file (held_of (files b))
      → Leaves files moment left a c file (held_of (files a))
  leaves_then a b c file first within second = record {
    others = others_then a b c file first.others second.others;
    time = elapses_then (moment a) (moment b) (moment c) (left a) (left b) (left c) (held_of (files a))
        (held_of (files b)) first.time second.time (fewer a b file within first.others);
  }

  pub leaves_next : (a b c : D) (file : ℕ) → Leaves files moment left a b file (held_of (files a))
      → (files b file).held ≡ (files a file).held → Leaves files moment left b c file (held_of (files b))
      → Leaves files moment left a c file (held_of (files a))
  leaves_next a b c file first same second =
      leaves_then a b c file first (λ image is. subst (λ (h : Held). IsImage h image) same is) second

  -- a call that leaves this of the file, after one that left the file as it was
  module _ (a b c : D) (file : ℕ) (first : Leaves files moment left a b file (held_of (files a)))
      (same : (files b file).held ≡ (files a file).held) (to : Held → Held)
      (second : Leaves files moment left b c file (changed (held_of (files b)) file (to (files b file).held)))
      (more : (image : List ℕ) → IsImage (files a file).held image → IsImage (to (files a file).held) image) where
    here_too : (image : ℕ → List ℕ) → IsDiskImage (changed (held_of (files b)) file (to (files b file).held)) image
        → IsDiskImage (changed (held_of (files a)) file (to (files a file).held)) image
    here_too image is = image_all (held_of (files a)) file (to (files a file).held) image
        (λ n differs. subst (λ (h : Held). IsImage h (image n)) (first.others n differs).held
        (image_off (held_of (files b)) file (to (files b file).held) image is n differs))
        (subst (λ (h : Held). IsImage (to h) (image file)) same
        (image_of (held_of (files b)) file (to (files b file).held) image is))

    pub leaves_change : Leaves files moment left a c file (changed (held_of (files a)) file (to (files a file).held))
    leaves_change = record {
      others = others_then a b c file first.others second.others;
      time = elapses_then (moment a) (moment b) (moment c) (left a) (left b) (left c)
          (changed (held_of (files a)) file (to (files a file).held))
          (changed (held_of (files b)) file (to (files b file).held))
          (elapses_wider (moment a) (moment b) (left a) (left b) (held_of (files a))
          (changed (held_of (files a)) file (to (files a file).held)) first.time
          (λ image is. image_all (held_of (files a)) file (to (files a file).held) image (λ n differs. is n)
          (more (image file) (is file)))) second.time here_too;
    }

  -- a call inside which a stop leaves more
  pub leaves_wider : (a b : D) (file : ℕ) (to : Held)
      → ((image : List ℕ) → IsImage (files a file).held image → IsImage to image)
      → Leaves files moment left a b file (held_of (files a))
      → Leaves files moment left a b file (changed (held_of (files a)) file to)
  leaves_wider a b file to more first = record {
    others = first.others;
    time = elapses_wider (moment a) (moment b) (left a) (left b) (held_of (files a))
        (changed (held_of (files a)) file to)
        first.time (λ image is. image_all (held_of (files a)) file to image (λ n differs. is n)
        (more (image file) (is file)));
  }

  -- it is covered too
  pub covers_change : (a b c : D) (file : ℕ) → Leaves files moment left a b file (held_of (files a))
      → (files b file).held ≡ (files a file).held → (to : Held → Held)
      → Covers (moment b) (left c) (changed (held_of (files b)) file (to (files b file).held))
      → Covers (moment a) (left c) (changed (held_of (files a)) file (to (files a file).held))
  covers_change a b c file first same to covers t image le is = covers t image (omega (arith, le, first.time.later))
      (image_all (held_of (files b)) file (to (files b file).held) image
      (λ n differs. subst (λ (h : Held). IsImage h (image n)) (sym (first.others n differs).held)
      (image_off (held_of (files a)) file (to (files a file).held) image is n differs))
      (subst (λ (h : Held). IsImage (to h) (image file)) (sym same)
      (image_of (held_of (files a)) file (to (files a file).held) image is)))

  -- a later call takes nothing back
  pub covers_later : (b c : D) (t : ℕ) (during after : ℕ → Held) → t ≤ moment b → Passes moment left b c after
      → Covers t (left b) during → Covers t (left c) during
  covers_later b c t during after le time covers s image less is =
      time.keeps s image (omega (arith, less, le)) (covers s image less is)

  -- calls after a removal began
  pub leaves_removal : (a b c : D) (file : ℕ)
      → Leaves files moment left a b file (while_removing (held_of (files a)) file)
      → Leaves files moment left b c file (held_of (files b))
      → Leaves files moment left a c file (while_removing (held_of (files a)) file)
  leaves_removal a b c file first second = record {
    others = others_then a b c file first.others second.others;
    time = elapses_then (moment a) (moment b) (moment c) (left a) (left b) (left c)
        (while_removing (held_of (files a)) file) (held_of (files b)) first.time second.time
        (λ image is. image_all (held_of (files a)) file (given_up (files a file).held (files a file).held.reads) image
        (λ n differs. subst (λ (h : Held). IsImage h (image n)) (first.others n differs).held (is n))
        (given_all (files a file).held (files a file).held.reads (image file)));
  }

  pub leaves_removal_again : (a b c : D) (file : ℕ)
      → Leaves files moment left a b file (while_removing (held_of (files a)) file)
      → Leaves files moment left b c file (while_removing (held_of (files b)) file)
      → Leaves files moment left a c file (while_removing (held_of (files a)) file)
  leaves_removal_again a b c file first second = record {
    others = others_then a b c file first.others second.others;
    time = elapses_then (moment a) (moment b) (moment c) (left a) (left b) (left c)
        (while_removing (held_of (files a)) file) (while_removing (held_of (files b)) file) first.time second.time
        (λ image is. image_all (held_of (files a)) file (given_up (files a file).held (files a file).held.reads) image
        (λ n differs. subst (λ (h : Held). IsImage h (image n)) (first.others n differs).held
        (image_off (held_of (files b)) file (given_up (files b file).held (files b file).held.reads) image is n
        differs))
        (given_all (files a file).held (files a file).held.reads (image file)));
  }
