-- The file of a number among the stored files.
use Rattle.std.proofs.Common.{◌≡◌, ◌≢◌, ⊎_elim, ℕ, zero, suc, ◌<◌, Bool, true, false, List, [], ◌∷◌, ◌++◌, length}
use Rattle.std.proofs.Common.{get_or, set, refl, sym, ◌∙◌, ap, arith, eq-eqb, if◌then◌else◌, ◌==◌}
use Rattle.std.specs.Prelude.{Some, None, cond, not}
use Rattle.std.specs.List.{position, position_or_len}
use Rattle.std.proofs.lemmas.Bool.{cases_eq, cases_lt, lt-ltb, not-true, ne_eqb, eqb-true}
use Rattle.std.proofs.lemmas.List.Quantifiers.{position-Some}
use Rattle.std.proofs.lemmas.List.Sums.{prefix_len_passes}
use Rattle.std.proofs.lemmas.List.{length_push, get_or_append_left}
use Rattle.std.proofs.lemmas.Grind.{common_steps}
use Rattle.flow_disk.specs.Disk.{changed}
use Rattle.flow_disk.proofs.Images.{changed_here, changed_there}
use Rattle.flow_memory_disk.specs.declared.stored.StoredFile.{StoredFile}
use Rattle.flow_memory_disk.specs.Stored.{looked, IsPlace}

never : {A : Type 0} (x : A) → None ≡ Some x → ⊥
never x same = cc

pub place_found : (files : List StoredFile) (n i : ℕ) → position (λ (f : StoredFile). f.number == n) files ≡ Some i
    → IsPlace files n i
place_found [] n i is = absurd (never i is)
place_found (file ∷ files) n i is = record {
  within = (position-Some (λ (f : StoredFile). f.number == n) (file ∷ files) i file is).0;
  here = λ d. (position-Some (λ (f : StoredFile). f.number == n) (file ∷ files) i d is).1;
  before = λ k d less. (position-Some (λ (f : StoredFile). f.number == n) (file ∷ files) i d is).2 k less;
}

-- where no file has this number
pub missing : (files : List StoredFile) (n : ℕ) → position (λ (f : StoredFile). f.number == n) files ≡ None
    → (k : ℕ) (d : StoredFile) → k < length files → ((get_or files k d).number == n) ≡ false
missing files n is k d lt = ⊎_elim
    (λ less. absurd (never (position_or_len test files) (sym is
    ∙ ap (λ (b : Bool). cond b (Some (position_or_len test files)) None)
    (lt-ltb (position_or_len test files) (length files) less))))
    (λ all. not-true ((get_or files k d).number ==
    n) (prefix_len_passes (λ (f : StoredFile). not (test f)) files k d (omega (arith, all, lt))))
    (cases_lt (position_or_len test files) (length files))
  where
    test : StoredFile → Bool
    test f = f.number == n

pub place_pushed : (files : List StoredFile) (fresh : StoredFile) (n i : ℕ)
    → ((k : ℕ) (d : StoredFile) → k < length files → ((get_or files k d).number == n) ≡ false) → fresh.number ≡ n
    → i ≡ length files → IsPlace (files ++ fresh ∷ []) n i
place_pushed files fresh n i none is at = record {
  within = omega (arith, length_push files fresh, at);
  here = λ d. eq-eqb (get_or (files ++ fresh ∷ []) i d).number n (ap (λ (f : StoredFile). f.number) (last d) ∙ is);
  before = λ k d less. ap (λ (f : StoredFile). f.number ==
      n) (get_or_append_left files (fresh ∷ []) d k (omega (arith, less, at))) ∙ none k d (omega (arith, less, at));
}
  where
    last : (d : StoredFile) → get_or (files ++ fresh ∷ []) i d ≡ fresh
    last d = grind (arith, common_steps, at)

pub number_there : (files : List StoredFile) (n i : ℕ) (was to : StoredFile) → IsPlace files n i
    → was ≡ get_or files i was → to.number ≡ was.number → to.number ≡ n
number_there files n i was to place stood number = number ∙ ap (λ (f : StoredFile). f.number) stood
    ∙ eqb-true (get_or files i was).number n (place.here was)

module _ {A : Type 0} (view : StoredFile → A) (none : A) where
  -- a file that reads as one never written
  pub looked_begun : (files : List StoredFile) (fresh : StoredFile) → view fresh ≡ none → (n : ℕ)
      → looked view none (files ++ fresh ∷ []) n ≡ looked view none files n
  looked_begun [] fresh is n = either (fresh.number == n)
    where
      either : (b : Bool) → (if b then view fresh else none) ≡ none
      either true = is
      either false = refl
  looked_begun (file ∷ files) fresh is n =
      ap (λ (rest : A). if file.number == n then view file else rest) (looked_begun files fresh is n)

  pub found : (files : List StoredFile) (n i : ℕ) (d : StoredFile) → i < length files
      → ((get_or files i d).number == n) ≡ true → ((k : ℕ) → k < i → ((get_or files k d).number == n) ≡ false)
      → looked view none files n ≡ view (get_or files i d)
  found [] n i d lt here before = absurd (omega (arith, lt))
  found (file ∷ files) n zero d lt here before =
      ap (λ (b : Bool). if b then view file else looked view none files n) here
  found (file ∷ files) n (suc i) d lt here before =
      ap (λ (b : Bool). if b then view file else looked view none files n) (before 0 (omega arith))
      ∙ found files n i d (omega (arith, lt)) here (λ k less. before (suc k) (omega (arith, less)))

  pub looked_place : (files : List StoredFile) (n i : ℕ) (d : StoredFile) → IsPlace files n i
      → looked view none files n ≡ view (get_or files i d)
  looked_place files n i d place = found files n i d place.within (place.here d) (λ k less. place.before k d less)

  -- one file changed, and kept its number
  set_there : (files : List StoredFile) (n i : ℕ) (d to : StoredFile) (m : ℕ) → i < length files
      → ((get_or files i d).number == n) ≡ true → to.number ≡ n → m ≢ n
      → looked view none (set files i to) m ≡ looked view none files m
  set_there [] n i d to m lt here number differs = refl
  set_there (file ∷ files) n zero d to m lt here number differs =
      ap (λ (b : Bool). if b then view to else looked view none files m)
      (ne_eqb to.number m (λ same. differs (sym same ∙ number)))
      ∙ sym (ap (λ (b : Bool). if b then view file else looked view none files m)
      (ne_eqb file.number m (λ same. differs (sym same ∙ eqb-true file.number n here))))
  set_there (file ∷ files) n (suc i) d to m lt here number differs =
      ap (λ (rest : A). if file.number ==
      m then view file else rest) (set_there files n i d to m (omega (arith, lt)) here number differs)

  set_here : (files : List StoredFile) (n i : ℕ) (d to : StoredFile) → i < length files
      → ((k : ℕ) → k < i → ((get_or files k d).number == n) ≡ false) → to.number ≡ n
      → looked view none (set files i to) n ≡ view to
  set_here [] n i d to lt before number = absurd (omega (arith, lt))
  set_here (file ∷ files) n zero d to lt before number =
      ap (λ (b : Bool). if b then view to else looked view none files n) (eq-eqb to.number n number)
  set_here (file ∷ files) n (suc i) d to lt before number =
      ap (λ (b : Bool). if b then view file else looked view none (set files i to) n) (before 0 (omega arith))
      ∙ set_here files n i d to (omega (arith, lt)) (λ k less. before (suc k) (omega (arith, less))) number

  pub looked_set : (files : List StoredFile) (n i : ℕ) (to : StoredFile) → IsPlace files n i → to.number ≡ n → (m : ℕ)
      → looked view none (set files i to) m ≡ changed (looked view none files) n (view to) m
  looked_set files n i to place number m = ⊎_elim
      (λ same. ap (λ (k : ℕ). looked view none (set files i to) k) same
      ∙ set_here files n i to to place.within (λ k less. place.before k to less) number
      ∙ sym (ap (λ (k : ℕ). changed (looked view none files) n (view to) k) same
      ∙ changed_here (looked view none files) n (view to)))
      (λ differs. set_there files n i to to m place.within (place.here to) number differs
      ∙ sym (changed_there (looked view none files) n (view to) m differs))
      (cases_eq m n)

  pub looked_missing : (files : List StoredFile) (n : ℕ)
      → ((k : ℕ) (d : StoredFile) → k < length files → ((get_or files k d).number == n) ≡ false)
      → looked view none files n ≡ none
  looked_missing [] n all = refl
  looked_missing (file ∷ files) n all =
      ap (λ (b : Bool). if b then view file else looked view none files n) (all 0 file (omega arith))
      ∙ looked_missing files n (λ k d less. all (suc k) d (omega (arith, less)))

  -- a file changed in what this view doesn't show
  pub looked_kept : (files : List StoredFile) (n i : ℕ) (was to : StoredFile) → IsPlace files n i
      → was ≡ get_or files i was → to.number ≡ was.number → view to ≡ view was → (m : ℕ)
      → looked view none (set files i to) m ≡ looked view none files m
  looked_kept files n i was to place stood number same m =
      looked_set files n i to place (number_there files n i was to place stood number) m
      ∙ ⊎_elim
      (λ here. ap (λ (k : ℕ). changed (looked view none files) n (view to) k) here
      ∙ changed_here (looked view none files) n (view to) ∙ same ∙ ap view stood
      ∙ sym (looked_place files n i was place) ∙ ap (looked view none files) (sym here))
      (λ differs. changed_there (looked view none files) n (view to) m differs) (cases_eq m n)
