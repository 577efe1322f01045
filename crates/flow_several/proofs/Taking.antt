-- Answers, taken in turn.
use Rattle.std.proofs.Common.{◌≡◌, ◌∙◌, ℕ, zero, suc, ◌+◌, ◌<◌, List, [], ◌∷◌, ◌++◌, length, get_or, drop, refl, sym}
use Rattle.std.proofs.Common.{ap, length-append, subst, arith}
use Rattle.std.specs.Prelude.{IfOk, OnErr, OnOk, Result, Ok, Err}
use denote.Param.Members.{Shared}
use Rattle.std.specs.Fork.{GivesJobs}
use Rattle.std.specs.List.{All, AllByRecursion, AllZip}
use Rattle.std.proofs.lemmas.List.Elements.{All-from_recursion, recursion_from_All}
use Rattle.flow_several.specs.SideBySide.{Awaits, IsNext}

-- two lists of one length, by their places
zip_by_place : {A B : Type 0} (P : A → B → Type 0) (xs : List A) (ys : List B) → length ys ≡ length xs
    → ((i : ℕ) (x : A) (y : B) → i < length xs → P (get_or xs i x) (get_or ys i y)) → AllZip P xs ys
zip_by_place P [] [] same at = tt
zip_by_place P [] (y ∷ ys) same at = let no : ⊥ = omega (arith, same) in absurd no
zip_by_place P (x ∷ xs) [] same at = let no : ⊥ = omega (arith, same) in absurd no
zip_by_place P (x ∷ xs) (y ∷ ys) same at = (
  at zero x y (omega arith),
  zip_by_place P xs ys (omega (arith, same)) (λ i a b within. at (suc i) a b (omega (arith, within))),
)

-- what each of several calls answers of its job
pub given : {F J R V E : Type 0} (g : Shared F (J × Unit {0}) R) (f : F) (P : J → R → Type 0)
    (by : (j : J) (r : R) → g.post f (j, tt) r → P j r) (items : V → List R) (jobs : List J) (result : Result V E)
    → IfOk result (λ v. length (items v) ≡ length jobs) → IfOk result (λ v. GivesJobs g f jobs (items v))
    → IfOk result (λ v. AllZip P jobs (items v))
given {F} {J} {R} {V} {E} g f P by items jobs (Ok v) count gives =
    zip_by_place P jobs (items v) count (λ i j r within.
    let job = (gives i r within).1 in
    subst (λ (x : J). P x (get_or (items v) i r)) (sym (job.job_is j))
    (by job.job (get_or (items v) i r) job.call.met))
given g f P by items jobs (Err e) count gives = tt

pub zip_length : {A B : Type 0} (P : A → B → Type 0) (xs : List A) (ys : List B) → AllZip P xs ys
    → length ys ≡ length xs
zip_length P [] [] each = refl
zip_length P [] (y ∷ ys) each = absurd each
zip_length P (x ∷ xs) [] each = absurd each
zip_length P (x ∷ xs) (y ∷ ys) each = ap suc (zip_length P xs ys each.1)

parts : {A : Type 0} (P : A → Type 0) (xs ys : List A) → AllByRecursion P (xs ++ ys)
    → AllByRecursion P xs × AllByRecursion P ys
parts P [] ys all = (tt, all)
parts P (x ∷ xs) ys all = let more = parts P xs ys all.1 in ((all.0, more.0), more.1)

module _ {A : Type 0} (P : A → Type 0) (xs ys : List A) (all : All P (xs ++ ys)) where
  pub all_before : All P xs
  all_before = All-from_recursion P xs (parts P xs ys (recursion_from_All P (xs ++ ys) all)).0

  pub all_after : All P ys
  all_after = All-from_recursion P ys (parts P xs ys (recursion_from_All P (xs ++ ys) all)).1

module _ {A : Type 0} (P : A → Type 0) (x : A) (xs : List A) (all : All P (x ∷ xs)) where
  pub all_first : P x
  all_first = (recursion_from_All P (x ∷ xs) all).0

  pub all_rest : All P xs
  all_rest = All-from_recursion P xs (recursion_from_All P (x ∷ xs) all).1

module _ {J X : Type 0} (is : J → X → Type 0) where
  -- the first of those that are left were asked
  pub refilled : (before : List X) → length before ≡ 0 → (first rest : List J) (answers : List X) (all : List J)
      → AllZip is first answers → Awaits is before (first ++ rest) all → Awaits is answers rest all
  refilled [] empty first rest answers all each ([], none, whole) = (first, each, whole)
  refilled [] empty first rest answers all each (j ∷ own, none, whole) = absurd none
  refilled (x ∷ before) empty first rest answers all each waits = let none : ⊥ = omega (arith, empty) in absurd none

  -- the next answer was taken
  pub taken : (answer : X) (answers : List X) (left all : List J) → Awaits is (answer ∷ answers) left all
      → IsNext is answers left all answer
  taken answer answers left all ([], each, whole) = absurd each
  taken answer answers left all (j ∷ first, each, whole) =
      (j, first ++ left, whole, each.0, (first, each.1, refl))

  pub none_left : (answers : List X) (left : List J) → length answers ≡ 0 → length left ≡ 0 → (all : List J)
      → Awaits is answers left all → all ≡ []
  none_left [] [] few none all ([], each, whole) = whole
  none_left [] [] few none all (j ∷ first, each, whole) = absurd each
  none_left [] (j ∷ left) few none all waits = let not : ⊥ = omega (arith, none) in absurd not
  none_left (x ∷ answers) left few none all waits = let not : ⊥ = omega (arith, few) in absurd not

-- the first of those after so many
pub at_head : {A : Type 0} (xs : List A) (n : ℕ) (x : A) (rest : List A) → drop n xs ≡ x ∷ rest
    → (n < length xs) × (x ≡ get_or xs n x) × (rest ≡ drop (n + 1) xs)
at_head [] zero x rest is = let no : ⊥ = cc in absurd no
at_head [] (suc n) x rest is = let no : ⊥ = cc in absurd no
at_head (y ∷ ys) zero x rest is = (omega arith, cc, cc)
at_head (y ∷ ys) (suc n) x rest is =
    let more = at_head ys n x rest is in
    let here : suc (n + 1) ≡ suc n + 1 = omega arith in
    (omega (arith, more.0), more.1, more.2 ∙ ap (λ (k : ℕ). drop k (y ∷ ys)) here)

-- none was asked
pub of_none : {J X : Type 0} (is : J → X → Type 0) (answers : List X) (left all : List J) → answers ≡ [] → left ≡ all
    → Awaits is answers left all
of_none {J} {X} is answers left all none same =
    subst (λ (them : List X). Awaits is them left all) (sym none) ([], tt, sym same)

pub if_ok_by : {X E : Type 0} (r : Result X E) (P Q : X → Type 0) → ((x : X) → P x → Q x) → IfOk r P → IfOk r Q
if_ok_by (Ok x) P Q by h = by x h
if_ok_by (Err e) P Q by h = tt

-- the next one, whether it answered or no memory was left
module _ {J X E : Type 0} (is : J → X → Type 0) (answers later : List X) (left others : List J) where
  pub next_one : (answer : Result X E) (all : List J) → Awaits is answers left all
      → IfOk answer (λ x. (all : List J) → Awaits is answers left all → IsNext is later others all x)
      → OnErr answer (0 < length left)
      → (own : J) × (rest : List J) × (all ≡ own ∷ rest) × IfOk answer (is own) × OnOk answer (Awaits is later others rest)
  next_one (Ok x) all waits next some =
      let (own, rest, whole, its, after) = next all waits in (own, rest, whole, its, after)
  next_one (Err e) [] (first, each, whole) next some =
      let no : ⊥ = omega (arith, some, ap length whole, length-append first left) in absurd no
  next_one (Err e) (j ∷ all) waits next some = (j, all, refl, tt, tt)
