-- What a stop leaves is an image.
use Rattle.std.proofs.Common.{◌≡◌, ℕ, zero, suc, ◌+◌, ◌<◌, Bool, true, false, List, [], ◌∷◌, ◌++◌, length, take, get_or}
use Rattle.std.proofs.Common.{refl, sym, ◌∙◌, ap, arith, length-append, if◌then◌else◌}
use Rattle.std.specs.Prelude.{nat_lt}
use Rattle.std.proofs.lemmas.Bool.{and_from, lt-ltb, false≢true}
use Rattle.std.proofs.lemmas.Bool.Decides.{nat_tests}
use Rattle.std.proofs.lemmas.List.{length-take-le, get_or-take, get_or_append_left}
use Rattle.flow_disk.specs.Disk.{Held, IsOutside, IsImage}
use Rattle.flow_memory_disk.specs.declared.choice.Choice.{Choice}
use Rattle.flow_memory_disk.specs.declared.choice.Choice.TheVariants.{Kept, Settled, Filled, Longer}
use Rattle.flow_memory_disk.specs.Sound.{IsSound}
use Rattle.flow_memory_disk.specs.Stopped.{outside, is_settled, next, filled, image_of}

outside_true : (ranges : List (ℕ × ℕ)) (place : ℕ) → IsOutside ranges place → outside ranges place ≡ true
outside_true [] place out = refl
outside_true (range ∷ ranges) place out = let rest = outside_true ranges place out.1 in let here = out.0 in
    grind (arith, nat_tests, rest, here)

module _ (fast : ℕ) (touched : List (ℕ × ℕ)) (octets : List ℕ) where
  length-filled : (place used : ℕ) (xs : List ℕ) → length (filled fast touched octets place used xs) ≡ length xs
  length-filled place used [] = refl
  length-filled place used (x ∷ xs) =
      elim (is_settled fast touched place) as
      (λ b. length (if b then x ∷ filled fast touched octets
      (place + 1) used xs else get_or octets used 0 ∷ filled fast touched octets (place + 1)
      (next octets used) xs) ≡ suc (length xs)) [
        | true ↦ ap suc (length-filled (place + 1) used xs)
        | false ↦ ap suc (length-filled (place + 1) (next octets used) xs)
      ]

  settled_octet : (place used : ℕ) (xs : List ℕ) (k : ℕ) → is_settled fast touched (place + k) ≡ true
      → get_or (filled fast touched octets place used xs) k 0 ≡ get_or xs k 0
  settled_octet place used [] k safe = refl
  settled_octet place used (x ∷ xs) zero safe =
      ap (λ (b : Bool). get_or
      (if b then x ∷ filled fast touched octets
      (place + 1) used xs else get_or octets used 0 ∷ filled fast touched octets (place + 1)
      (next octets used) xs) zero 0)
      (ap (is_settled fast touched) (omega arith) ∙ safe)
  settled_octet place used (x ∷ xs) (suc k) safe =
      elim (is_settled fast touched place) as
      (λ b. get_or (if b then x ∷ filled fast touched octets
      (place + 1) used xs else get_or octets used 0 ∷ filled fast touched octets (place + 1) (next octets used) xs)
      (suc k) 0 ≡ get_or xs k 0) [
        | true ↦ settled_octet (place + 1) used xs k (ap (is_settled fast touched) (omega arith) ∙ safe)
        | false ↦ settled_octet (place + 1) (next octets used) xs k (ap (is_settled fast touched) (omega arith) ∙ safe)
      ]

filled_image : (h : Held) (octets : List ℕ) → IsImage h h.reads → IsImage h (filled h.fast h.touched octets 0 0 h.reads)
filled_image h octets is = record {
  long = omega (arith, is.long, length-filled h.fast h.touched octets 0 0 h.reads);
  end = λ tight. length-filled h.fast h.touched octets 0 0 h.reads ∙ is.end tight;
  same = λ place lt out. settled_octet h.fast h.touched octets 0 0 h.reads place (safe place lt out)
      ∙ is.same place lt out;
}
  where
    safe : (place : ℕ) → place < h.fast → IsOutside h.touched place → is_settled h.fast h.touched (0 + place) ≡ true
    safe place lt out = let same : 0 + place ≡ place = omega arith in ap (is_settled h.fast h.touched) same
        ∙ and_from (nat_lt place h.fast) (outside h.touched place) (lt-ltb place h.fast lt)
        (outside_true h.touched place out)

last_image : (h : Held) → IsSound h → IsImage h h.last
last_image h sound = record { long = sound.within; end = sound.whole; same = λ place lt out. refl }

longer_image : (h : Held) (octets : List ℕ) → IsSound h → h.loose ≡ true → IsImage h (take h.fast h.last ++ octets)
longer_image h octets sound loose = record {
  long = omega (arith, length-append (take h.fast h.last) octets, length-take-le h.fast h.last sound.within);
  end = λ tight. absurd (false≢true (sym tight ∙ loose));
  same = λ place lt out. get_or_append_left (take h.fast h.last) octets 0 place
      (omega (arith, length-take-le h.fast h.last sound.within, lt)) ∙ get_or-take h.fast h.last place 0 lt;
}

pub stop_image : (choice : Choice) (h : Held) → IsSound h → IsImage h (image_of choice h)
stop_image Kept h sound = sound.image
stop_image Settled h sound = last_image h sound
stop_image (Filled octets) h sound = filled_image h octets.now sound.image
stop_image (Longer octets) h sound = either h.loose refl
  where
    either : (b : Bool) → h.loose ≡ b → IsImage h (if b then take h.fast h.last ++ octets.now else h.last)
    either true is = longer_image h octets.now sound is
    either false is = last_image h sound
