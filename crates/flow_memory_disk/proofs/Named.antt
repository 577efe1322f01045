-- Which files are named, and the room of each.
use Rattle.std.proofs.Common.{◌≡◌, ◌≢◌, ℕ, ◌+◌, ◌<◌, ◌≤◌, Bool, true, false, List, [], ◌∷◌, ◌++◌, length, get_or, set}
use Rattle.std.proofs.Common.{refl}
use Rattle.std.proofs.Common.{sym, ◌∙◌, ap, arith, length-set, if◌then◌else◌, ◌==◌}
use Rattle.std.specs.Prelude.{not, ◌&&◌, ◌||◌, nat_lt, nat_le}
use Rattle.std.proofs.lemmas.Bool.{ne_eqb, false≢true}
use Rattle.std.proofs.lemmas.Bool.Decides.{nat_tests}
use Rattle.std.proofs.lemmas.List.{length_push, get_or_append_left}
use Rattle.std.proofs.lemmas.Grind.{common_steps}
use Rattle.flow_memory_disk.specs.declared.stored.StoredFile.{StoredFile}
use Rattle.flow_memory_disk.specs.Stored.{looked, room_in, is_named, IsPlace, IsNamedAfter}
use Rattle.flow_memory_disk.proofs.Looked.{place_pushed, looked_begun, looked_place, looked_kept, looked_missing}

pub named_here : (files : List StoredFile) (n i : ℕ) → IsPlace files n i → is_named files n ≡ true
named_here [] n i place = absurd (omega (arith, place.within))
named_here (file ∷ files) n i place = looked_place (λ f. true) false (file ∷ files) n i file place

pub named_nowhere : (files : List StoredFile) (n : ℕ)
    → ((k : ℕ) (d : StoredFile) → k < length files → ((get_or files k d).number == n) ≡ false)
    → is_named files n ≡ false
named_nowhere files n none = looked_missing (λ f. true) false files n none

-- a file that was named before
pub named_same : (files : List StoredFile) (n i : ℕ) → IsPlace files n i → IsNamedAfter files files n
named_same files n i place = record {
  here = named_here files n i place;
  others = λ m differs. refl;
  count = sym (ap (λ (b : Bool). if b then length files else (length files + 1)) (named_here files n i place));
}

-- a file that is named now
others_begun : (files : List StoredFile) (fresh : StoredFile) (n m : ℕ) → fresh.number ≡ n → m ≢ n
    → is_named (files ++ fresh ∷ []) m ≡ is_named files m
others_begun [] fresh n m is differs =
    ap (λ (b : Bool). if b then true else false) (ne_eqb fresh.number m (λ same. differs (sym same ∙ is)))
others_begun (file ∷ files) fresh n m is differs =
    ap (λ (rest : Bool). if file.number == m then true else rest) (others_begun files fresh n m is differs)

pub named_begun : (files : List StoredFile) (fresh : StoredFile) (n : ℕ)
    → ((k : ℕ) (d : StoredFile) → k < length files → ((get_or files k d).number == n) ≡ false) → fresh.number ≡ n
    → IsNamedAfter files (files ++ fresh ∷ []) n
named_begun files fresh n none is = record {
  here = named_here (files ++ fresh ∷ []) n (length files) (place_pushed files fresh n (length files) none is refl);
  others = λ m differs. others_begun files fresh n m is differs;
  count = length_push files fresh
      ∙ sym (ap (λ (b : Bool). if b then length files else (length files + 1)) (named_nowhere files n none));
}

-- a file that changed and kept its number
pub named_set : (old files : List StoredFile) (n i : ℕ) (was to : StoredFile) → IsPlace files n i
    → was ≡ get_or files i was → to.number ≡ was.number → IsNamedAfter old files n → IsNamedAfter old (set files i to) n
named_set old files n i was to place stood number named = record {
  here = looked_kept (λ f. true) false files n i was to place stood number refl n ∙ named.here;
  others = λ m differs. looked_kept (λ f. true) false files n i was to place stood number refl m
      ∙ named.others m differs;
  count = length-set files i to ∙ named.count;
}

-- and kept its room
pub fits_set : (files : List StoredFile) (n i : ℕ) (was to : StoredFile) (fit : ℕ × ℕ) → IsPlace files n i
    → was ≡ get_or files i was → to.number ≡ was.number → room_in to ≡ room_in was
    → ((m : ℕ) → looked room_in fit files m ≡ fit) → (m : ℕ) → looked room_in fit (set files i to) m ≡ fit
fits_set files n i was to fit place stood number same fits m =
    looked_kept room_in fit files n i was to place stood number same m ∙ fits m

pub fits_begun : (files : List StoredFile) (fresh : StoredFile) (fit : ℕ × ℕ) → room_in fresh ≡ fit
    → ((m : ℕ) → looked room_in fit files m ≡ fit) → (m : ℕ) → looked room_in fit (files ++ fresh ∷ []) m ≡ fit
fits_begun files fresh fit is fits m = looked_begun room_in fit files fresh is m ∙ fits m

pub fit_there : (files : List StoredFile) (n i : ℕ) (was : StoredFile) (fit : ℕ × ℕ) → IsPlace files n i
    → was ≡ get_or files i was → ((m : ℕ) → looked room_in fit files m ≡ fit) → room_in was ≡ fit
fit_there files n i was fit place stood fits =
    ap room_in stood ∙ sym (looked_place room_in fit files n i was place) ∙ fits n

-- the last of some files that fit, and those before it
pub last_fits : (files rest : List StoredFile) (file : StoredFile) (fit : ℕ × ℕ) → files ≡ rest ++ file ∷ []
    → ((k : ℕ) (d : StoredFile) → k < length files → room_in (get_or files k d) ≡ fit) → room_in file ≡ fit
last_fits files rest file fit is fits =
    let last : get_or files (length rest) file ≡ file = rw is (grind (arith, common_steps)) in
    let lt : length rest < length files =
    omega (arith, ap (λ (l : List StoredFile). length l) is, length_push rest file) in
    ap room_in (sym last) ∙ fits (length rest) file lt

pub rest_fits : (files rest : List StoredFile) (file : StoredFile) (fit : ℕ × ℕ) → files ≡ rest ++ file ∷ []
    → ((k : ℕ) (d : StoredFile) → k < length files → room_in (get_or files k d) ≡ fit)
    → (k : ℕ) (d : StoredFile) → k < length rest → room_in (get_or rest k d) ≡ fit
rest_fits files rest file fit is fits k d lt =
    let lt_all : k < length files =
    omega (arith, lt, ap (λ (l : List StoredFile). length l) is, length_push rest file) in
    ap room_in (sym (ap (λ (l : List StoredFile). get_or l k d) is ∙ get_or_append_left rest (file ∷ []) d k lt))
    ∙ fits k d lt_all

-- a file that isn't named, where a new one has room
pub room_left : (named : Bool) (room used : ℕ) → named ≡ false → (not named && nat_le room used) ≡ false → used < room
room_left true room used is lacks = absurd (false≢true (sym is))
room_left false room used is lacks = grind (arith, nat_tests)

-- a write that has room in its file
pub room_within : (room writes end used : ℕ) → (nat_lt room end || nat_le writes used) ≡ false → end ≤ room
room_within room writes end used lacks = grind (arith, nat_tests)

pub write_within : (room writes end used : ℕ) → (nat_lt room end || nat_le writes used) ≡ false → used < writes
write_within room writes end used lacks = grind (arith, nat_tests)
