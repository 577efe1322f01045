-- What a stop may leave after each call.
use Rattle.std.proofs.Common.{◌≡◌, ⊎_elim, ℕ, ◌+◌, ◌-◌, ◌<◌, ◌≤◌, min, Bool, true, false, List}
use Rattle.std.proofs.Common.{◌++◌, length, take, drop, get_or, refl, sym, ◌∙◌, ap, subst, arith}
use Rattle.std.proofs.Common.{length-append, length-take, length-drop, ◌||◌}
use Rattle.std.specs.Prelude.{nat_lt}
use Rattle.std.proofs.lemmas.List.{get_or-take, get_or-drop, get_or_append_left, get_or-append_right}
use Rattle.std.proofs.lemmas.Bool.{false≢true}
use Rattle.std.proofs.lemmas.Bool.Decides.{nat_tests}
use Rattle.flow_disk.specs.Disk.{Held, IsImage, settled_at, touched_at, loosened_at, given_up, put_at}
use Rattle.flow_memory_directory.specs.Bound.{IsSound, IsBetween, reading}

pub shut : (octets : List ℕ) → IsImage (settled_at octets) octets
shut octets = record { long = omega arith; end = λ is. refl; same = λ place lt outside. refl }

pub settled_sound : (octets device : List ℕ) → device ≡ octets → IsSound (settled_at octets) octets device
settled_sound octets device same = record {
  memory = shut octets;
  left = subst (λ (l : List ℕ). IsImage (settled_at octets) l) (sym same) (shut octets);
  within = omega arith;
  whole = λ is. refl;
}

pub length-put_at : (old : List ℕ) (at : ℕ) (octets : List ℕ)
    → length (put_at old at octets) ≡ min at (length old) + length octets + (length old - (at + length octets))
length-put_at old at octets =
    omega (
      arith,
      length-append (take at old ++ octets) (drop (at + length octets) old),
      length-append (take at old) octets,
      length-take at old,
      length-drop (at + length octets) old,
    )

pub put_before : (old : List ℕ) (at : ℕ) (octets : List ℕ) (place : ℕ) → place < at → place < length old
    → get_or (put_at old at octets) place 0 ≡ get_or old place 0
put_before old at octets place lt within =
    get_or_append_left (take at old ++ octets) (drop (at + length octets) old) 0 place
    (omega (arith, length-append (take at old) octets, length-take at old, lt, within))
    ∙ get_or_append_left (take at old) octets 0 place (omega (arith, length-take at old, lt, within))
    ∙ get_or-take at old place 0 lt

pub put_behind : (old : List ℕ) (at : ℕ) (octets : List ℕ) (place : ℕ) → at + length octets ≤ place → place < length old
    → get_or (put_at old at octets) place 0 ≡ get_or old place 0
put_behind old at octets place le within =
    get_or-append_right (take at old ++ octets) (drop (at + length octets) old) (at + length octets) place 0
    (omega (arith, length-append (take at old) octets, length-take at old, le, within)) le
    ∙ get_or-drop (at + length octets) old (place - (at + length octets)) 0
    ∙ ap (λ (n : ℕ). get_or old n 0) (omega (arith, le))

not_loose : (a b : Bool) → (a || b) ≡ false → (a ≡ false) × (b ≡ false)
not_loose false false is = (refl, refl)
not_loose false true is = absurd (false≢true (sym is))
not_loose true b is = absurd (false≢true (sym is))

not_less : (a b : ℕ) → nat_lt a b ≡ false → b ≤ a
not_less a b is = grind (arith, nat_tests)

module _ (h : Held) (r : List ℕ) where
  -- a write
  put_image : (old : List ℕ) (at : ℕ) (octets : List ℕ) → IsImage h old
      → IsImage (touched_at h at (length octets) r) (put_at old at octets)
  put_image old at octets is = record {
    long = omega (arith, length-put_at old at octets, is.long);
    end = tight;
    same = λ place lt outside. ⊎_elim
        (λ before. put_before old at octets place before (omega (arith, lt, is.long)) ∙ is.same place lt outside.1)
        (λ behind. put_behind old at octets place behind (omega (arith, lt, is.long))
        ∙ is.same place lt outside.1) outside.0;
  }
    where
      tight : (h.loose || nat_lt h.fast (at + length octets)) ≡ false → length (put_at old at octets) ≡ h.fast
      tight closed = let both = not_loose h.loose (nat_lt h.fast (at + length octets)) closed in
          omega (arith, length-put_at old at octets, is.end both.0, not_less h.fast (at + length octets) both.1)

  pub touched_image : (at count : ℕ) (octets : List ℕ) → IsImage h octets → IsImage (touched_at h at count r) octets
  touched_image at count octets is = record {
    long = is.long;
    end = λ closed. is.end (not_loose h.loose (nat_lt h.fast (at + count)) closed).0;
    same = λ place lt outside. is.same place lt outside.1;
  }

  pub put_sound : (old device : List ℕ) (at : ℕ) (octets : List ℕ) → IsSound h old device
      → IsSound (touched_at h at (length octets) r) (put_at old at octets) device
  put_sound old device at octets is = record {
    memory = put_image old at octets is.memory;
    left = touched_image at (length octets) device is.left;
    within = is.within;
    whole = λ closed. is.whole (not_loose h.loose (nat_lt h.fast (at + length octets)) closed).0;
  }

  -- a cut
  cut_image : (old : List ℕ) (count : ℕ) → IsImage h old → IsImage (loosened_at h count r) (take count old)
  cut_image old count is = record {
    long = omega (arith, length-take count old, is.long);
    end = λ closed. absurd (false≢true (sym closed));
    same = λ place lt outside. get_or-take count old place 0 (omega (arith, lt))
        ∙ is.same place (omega (arith, lt)) outside;
  }

  pub loosened_image : (count : ℕ) (octets : List ℕ) → IsImage h octets → IsImage (loosened_at h count r) octets
  loosened_image count octets is = record {
    long = omega (arith, is.long);
    end = λ closed. absurd (false≢true (sym closed));
    same = λ place lt outside. is.same place (omega (arith, lt)) outside;
  }

  pub cut_sound : (old device : List ℕ) (count : ℕ) → IsSound h old device
      → IsSound (loosened_at h count r) (take count old) device
  cut_sound old device count is = record {
    memory = cut_image old count is.memory;
    left = loosened_image count device is.left;
    within = omega (arith, is.within);
    whole = λ closed. absurd (false≢true (sym closed));
  }

  -- what may follow is unknown
  pub loosened_sound : (octets device : List ℕ) (count : ℕ) → IsSound h octets device
      → IsSound (loosened_at h count r) octets device
  loosened_sound octets device count is = record {
    memory = loosened_image count octets is.memory;
    left = loosened_image count device is.left;
    within = omega (arith, is.within);
    whole = λ closed. absurd (false≢true (sym closed));
  }

  -- a removal
  pub given_image : (octets : List ℕ) → IsImage (given_up h r) octets
  given_image octets = record {
    long = omega arith;
    end = λ closed. absurd (false≢true (sym closed));
    same = λ place lt outside. absurd (omega (arith, lt));
  }

  pub given_sound : (octets device : List ℕ) → IsSound (given_up h r) octets device
  given_sound octets device = record {
    memory = given_image octets;
    left = given_image device;
    within = omega arith;
    whole = λ closed. absurd (false≢true (sym closed));
  }

-- octets made of two images are one
between_image : (h : Held) (first second octets : List ℕ) → IsImage h first → IsImage h second
    → IsBetween first second octets → IsImage h octets
between_image h first second octets a b is = record {
  long = omega (arith, a.long, b.long, is.long);
  end = λ closed. is.end (a.end closed ∙ sym (b.end closed)) ∙ b.end closed;
  same = λ place lt outside. is.same place (omega (arith, lt, a.long)) (omega (arith, lt, b.long))
      (a.same place lt outside ∙ sym (b.same place lt outside)) ∙ b.same place lt outside;
}

-- the device took some of what the memory has
pub left_sound : (h : Held) (octets device now : List ℕ) → IsSound h octets device → IsBetween octets device now
    → IsSound h octets now
left_sound h octets device now is between = record {
  memory = is.memory;
  left = between_image h octets device now is.memory is.left between;
  within = is.within;
  whole = is.whole;
}

-- the memory took some of what the device has
pub memory_sound : (h : Held) (octets device now : List ℕ) → IsSound h octets device → IsBetween octets device now
    → IsSound h now device
memory_sound h octets device now is between = record {
  memory = between_image h octets device now is.memory is.left between;
  left = is.left;
  within = is.within;
  whole = is.whole;
}

-- what a file reads as is no part of what a stop may leave
pub to_reading : (h : Held) (r octets : List ℕ) → IsImage h octets → IsImage (reading h r) octets
to_reading h r octets is = record { long = is.long; end = is.end; same = is.same }

pub of_reading : (h : Held) (r octets : List ℕ) → IsImage (reading h r) octets → IsImage h octets
of_reading h r octets is = record { long = is.long; end = is.end; same = is.same }
