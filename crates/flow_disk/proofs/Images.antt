-- Images of files that differ in some ranges alone.
use Rattle.std.proofs.Common.{◌≡◌, ◌≢◌, ◌⊎◌, inl, inr, ⊎_elim, ℕ, zero, suc, ◌-◌, ◌<◌, ◌≤◌, Bool, List, ◌++◌, length}
use Rattle.std.proofs.Common.{get_or, take, drop, refl, sym, ◌∙◌, ap, subst, arith, eq-eqb, if◌then◌else◌, append_assoc}
use Rattle.std.proofs.Common.{length-append, length-drop, length-set, set, true, false, [], ◌∷◌, ◌+◌}
use Rattle.std.specs.Prelude.{◌||◌, nat_lt}
use Rattle.std.proofs.lemmas.List.{get_or-set_same, get_or-set_other, set-get_or, set_split, length-take-le}
use Rattle.std.proofs.lemmas.List.{get_or_append_left, get_or-append_right, get_or-take, get_or-drop, take_at}
use Rattle.std.proofs.lemmas.List.{ext_get_or}
use Rattle.std.proofs.lemmas.Bool.{cases_eq, cases_lt, ne_eqb}
use Rattle.std.proofs.lemmas.Bool.Decides.{nat_tests}
use Rattle.flow_disk.specs.Disk.{Held, IsOutside, IsImage, IsDiskImage, settled_at, touched_at, loosened_at, put_at}
use Rattle.flow_disk.specs.Disk.{changed}
use Rattle.flow_disk.specs.Laws.{IsAlone}

-- the octets below a place are as they were: nothing below it was touched
pub record IsBehind (bound : ℕ) (old new : Held) : Type 0 where
  pub last : new.last ≡ old.last
  pub fast : bound ≤ new.fast
  pub untouched : (place : ℕ) → place < bound → IsOutside old.touched place → IsOutside new.touched place

-- an image of the new file begins as one of the old
pub same_front : (bound : ℕ) (old new : Held) → IsBehind bound old new → bound ≤ old.fast → old.fast ≤ length old.last
    → (image : List ℕ) → IsImage new image → (before : List ℕ) × IsImage old before
    × (take bound before ≡ take bound image)
same_front bound old new behind within whole image is =
    (before, image_of_old, take_at (take bound image) rest bound front_long)
  where
    rest : List ℕ
    rest = drop bound (take old.fast old.last)

    before : List ℕ
    before = take bound image ++ rest

    front_long : length (take bound image) ≡ bound
    front_long = length-take-le bound image (omega (arith, is.long, behind.fast, within))

    rest_long : length rest ≡ old.fast - bound
    rest_long = length-drop bound (take old.fast old.last)
        ∙ ap (λ n. n - bound) (length-take-le old.fast old.last whole)

    long : length before ≡ old.fast
    long = omega (arith, length-append (take bound image) rest, front_long, rest_long, within)

    same : (place : ℕ) → place < old.fast → IsOutside old.touched place
        → get_or before place 0 ≡ get_or old.last place 0
    same place lt outside = ⊎_elim
        (λ below. get_or_append_left (take bound image) rest 0 place (omega (arith, below, front_long))
        ∙ get_or-take bound image place 0 below
        ∙ is.same place (omega (arith, lt, behind.fast)) (behind.untouched place below outside)
        ∙ ap (λ l. get_or l place 0) behind.last)
        (λ above. get_or-append_right (take bound image) rest bound place 0 front_long above
        ∙ get_or-drop bound (take old.fast old.last) (place - bound) 0
        ∙ ap (λ n. get_or (take old.fast old.last) n 0) (omega (arith, above))
        ∙ get_or-take old.fast old.last place 0 lt)
        (cases_lt place bound)

    image_of_old : IsImage old before
    image_of_old = record { long = omega (arith, long); end = λ shut. long; same = same }

-- the octets that can't be lost, and no more
pub least_image : (file : Held) → file.fast ≤ length file.last → IsImage file (take file.fast file.last)
least_image file whole = record {
  long = omega (arith, length-take-le file.fast file.last whole);
  end = λ shut. length-take-le file.fast file.last whole;
  same = λ place lt outside. get_or-take file.fast file.last place 0 lt;
}

pub behind_same : (bound : ℕ) (file : Held) → bound ≤ file.fast → IsBehind bound file file
behind_same bound file le = record { last = refl; fast = le; untouched = λ place lt outside. outside }

pub behind_then : (bound : ℕ) (a b c : Held) → IsBehind bound a b → IsBehind bound b c → IsBehind bound a c
behind_then bound a b c first second = record {
  last = second.last ∙ first.last;
  fast = second.fast;
  untouched = λ place lt outside. second.untouched place lt (first.untouched place lt outside);
}

-- a write at or after a place leaves the octets below it
pub behind_touched : (bound at count : ℕ) (old new : Held) → bound ≤ at → bound ≤ old.fast
    → new ≡ touched_at old at count new.reads → IsBehind bound old new
behind_touched bound at count old new le within is = record {
  last = ap (λ (f : Held). f.last) is;
  fast = omega (arith, within, ap (λ (f : Held). f.fast) is);
  untouched = λ place lt outside. subst (λ (f : Held). IsOutside f.touched place) (sym is)
      (inl (omega (arith, lt, le)), outside);
}

-- and so does a cut
pub behind_cut : (bound count : ℕ) (old new : Held) → bound ≤ count → bound ≤ old.fast
    → new ≡ loosened_at old count new.reads → IsBehind bound old new
behind_cut bound count old new le within is = record {
  last = ap (λ (f : Held). f.last) is;
  fast = omega (arith, le, within, ap (λ (f : Held). f.fast) is);
  untouched = λ place lt outside. subst (λ (f : Held). IsOutside f.touched place) (sym is) outside;
}

-- the images with another one for a file
abbrev pick : (octets other : List ℕ) (n file : ℕ) → (n ≡ file) ⊎ (n ≡ file → ⊥) → List ℕ
pick octets other n file (inl is) = octets
pick octets other n file (inr not) = other

abbrev pub with_image : (ℕ → List ℕ) → ℕ → List ℕ → ℕ → List ℕ
with_image image file octets n = pick octets (image n) n file (cases_eq n file)

picks : (octets other : List ℕ) (n file : ℕ) (case : (n ≡ file) ⊎ (n ≡ file → ⊥)) → n ≡ file
    → pick octets other n file case ≡ octets
picks octets other n file (inl is) same = refl
picks octets other n file (inr not) same = absurd (not same)

passes : (octets other : List ℕ) (n file : ℕ) (case : (n ≡ file) ⊎ (n ≡ file → ⊥)) → (n ≡ file → ⊥)
    → pick octets other n file case ≡ other
passes octets other n file (inl is) differs = absurd (differs is)
passes octets other n file (inr not) differs = refl

pub image_here : (image : ℕ → List ℕ) (file : ℕ) (octets : List ℕ) → with_image image file octets file ≡ octets
image_here image file octets = picks octets (image file) file file (cases_eq file file) refl

pub image_there : (image : ℕ → List ℕ) (file : ℕ) (octets : List ℕ) (n : ℕ) → n ≢ file
    → with_image image file octets n ≡ image n
image_there image file octets n differs = passes octets (image n) n file (cases_eq n file) differs

pub with_image_is : (files : ℕ → Held) (image : ℕ → List ℕ) (file : ℕ) (octets : List ℕ) → IsImage (files file) octets
    → ((n : ℕ) → n ≢ file → IsImage (files n) (image n)) → IsDiskImage files (with_image image file octets)
with_image_is files image file octets here there n = ⊎_elim
    (λ same. subst (λ (k : ℕ). IsImage (files k) (with_image image file octets k)) (sym same)
    (subst (IsImage (files file)) (sym (image_here image file octets)) here))
    (λ differs. subst (IsImage (files n)) (sym (image_there image file octets n differs)) (there n differs))
    (cases_eq n file)

pub changed_here : {F : Type 0} (files : ℕ → F) (file : ℕ) (to : F) → changed files file to file ≡ to
changed_here files file to = ap (λ (b : Bool). if b then to else files file) (eq-eqb file file refl)

pub changed_there : {F : Type 0} (files : ℕ → F) (file : ℕ) (to : F) (n : ℕ) → n ≢ file
    → changed files file to n ≡ files n
changed_there files file to n differs = ap (λ (b : Bool). if b then to else files n) (ne_eqb n file differs)

pub settled_one : (octets image : List ℕ) → IsImage (settled_at octets) image → image ≡ octets
settled_one octets image is =
    ext_get_or 0 image octets (is.end refl) (λ place lt. is.same place (omega (arith, lt, is.end refl)) tt)

-- a sync leaves only images from before
pub synced_images : (old new : ℕ → Held) (file : ℕ) → new file ≡ settled_at (old file).reads
    → ((n : ℕ) → n ≢ file → new n ≡ old n) → IsImage (old file) (old file).reads
    → (image : ℕ → List ℕ) → IsDiskImage new image → IsDiskImage old image
synced_images old new file done others reads image is n = ⊎_elim
    (λ same. subst (λ (k : ℕ). IsImage (old k) (image k)) (sym same)
    (subst (IsImage (old file))
    (sym (settled_one (old file).reads (image file) (subst (λ (f : Held). IsImage f (image file)) done (is file))))
    reads))
    (λ differs. subst (λ (f : Held). IsImage f (image n)) (others n differs) (is n))
    (cases_eq n file)

-- a file that can end anywhere has a longer image too
longer_image : (file : Held) (octets : List ℕ) → file.loose ≡ true → IsImage file octets
    → IsImage file (octets ++ 0 ∷ [])
longer_image file octets loose is = record {
  long = omega (arith, is.long, length-append octets (0 ∷ []));
  end = λ shut. absurd (shut_and_loose (sym loose ∙ shut));
  same = λ place lt outside. get_or_append_left octets (0 ∷ []) 0 place (omega (arith, lt, is.long))
      ∙ is.same place lt outside;
}
  where
    shut_and_loose : true ≡ false → ⊥
    shut_and_loose differ = cc

-- A file with one image is fast to its end.
pub settled_shut : (file : Held) → IsAlone file → file.loose ≡ false
settled_shut file one =
    elim (file.loose) as (λ b. file.loose ≡ b → b ≡ false) [ true ↦ λ is. absurd (longer is) | false ↦ λ is. refl ] refl
  where
    longer : file.loose ≡ true → ⊥
    longer is = omega (
      arith,
      length-append file.reads (0 ∷ []),
      ap length (one.alone (file.reads ++ 0 ∷ []) (longer_image file file.reads is one.reads)),
    )

pub settled_fast : (file : Held) → IsAlone file → file.fast ≡ length file.reads
settled_fast file one = sym (one.reads.end (settled_shut file one))

-- an image with one octet as it was before a write of this octet
undone : (at : ℕ) (file : Held) (reads image : List ℕ) → at < file.fast → IsImage (touched_at file at 1 reads) image
    → IsImage file (set image at (get_or file.last at 0))
undone at file reads image lt is = record {
  long = omega (arith, is.long, length-set image at (get_or file.last at 0));
  end = λ tight. length-set image at (get_or file.last at 0) ∙ is.end (still_tight tight);
  same = λ place below outside. ⊎_elim (λ here. at_place place here)
      (λ elsewhere. other_place place below outside elsewhere) (cases_eq place at);
}
  where
    still_tight : file.loose ≡ false → (file.loose || nat_lt file.fast (at + 1)) ≡ false
    still_tight tight = grind (arith, nat_tests)

    at_place : (place : ℕ) → place ≡ at
        → get_or (set image at (get_or file.last at 0)) place 0 ≡ get_or file.last place 0
    at_place place here =
        subst (λ (k : ℕ). get_or (set image at (get_or file.last at 0)) k 0 ≡ get_or file.last k 0) (sym here)
        (get_or-set_same image at (get_or file.last at 0) 0 (omega (arith, is.long, lt)))

    other_place : (place : ℕ) → place < file.fast → IsOutside file.touched place → (place ≡ at → ⊥)
        → get_or (set image at (get_or file.last at 0)) place 0 ≡ get_or file.last place 0
    other_place place below outside elsewhere = get_or-set_other image at place (get_or file.last at 0) 0 elsewhere
        ∙ is.same place below (apart, outside)
      where
        apart : (place < at) ⊎ (at + 1 ≤ place)
        apart = grind arith

-- an octet set at a place, as a write
pub set_is_put : (octets : List ℕ) (at octet : ℕ) → at < length octets
    → set octets at octet ≡ put_at octets at (octet ∷ [])
set_is_put octets at octet lt =
    let next : suc at ≡ at + 1 = omega arith in
    set_split octets at octet lt ∙ ap (λ n. take at octets ++ octet ∷ drop n octets) next
    ∙ sym (append_assoc (take at octets) (octet ∷ []) (drop (at + 1) octets))

-- an element set twice
set_again : (octets : List ℕ) (at a b : ℕ) → set (set octets at a) at b ≡ set octets at b
set_again [] at a b = refl
set_again (octet ∷ octets) zero a b = refl
set_again (octet ∷ octets) (suc at) a b = ap (λ l. octet ∷ l) (set_again octets at a b)

-- A write of one octet into a file with one image leaves that image with some octet at the place.
pub one_octet : (file : Held) (at : ℕ) (reads image : List ℕ) → IsAlone file → at < length file.reads
    → IsImage (touched_at file at 1 reads) image
    → image ≡ put_at file.reads at (get_or image at 0 ∷ [])
one_octet file at reads image one lt is = sym back ∙ set_is_put file.reads at (get_or image at 0) lt
  where
    old : ℕ
    old = get_or file.last at 0

    was : set image at old ≡ file.reads
    was = one.alone (set image at old) (undone at file reads image (omega (arith, lt, settled_fast file one)) is)

    back : set file.reads at (get_or image at 0) ≡ image
    back = ap (λ l. set l at (get_or image at 0)) (sym was) ∙ set_again image at old (get_or image at 0)
        ∙ set-get_or image at 0
