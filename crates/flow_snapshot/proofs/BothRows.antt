-- Rows of two lists, taken one after the other.
use Rattle.std.proofs.Common.{◌≡◌, ℕ, zero, suc, Bool, true, false, cond, ◌+◌, ◌≤◌, ◌<◌, List, [], ◌∷◌, ◌++◌, length}
use Rattle.std.proofs.Common.{◌-◌, None, take, drop, refl, sym, ap, subst, ◌∙◌, append-nil, append_assoc, arith, get_or}
use Rattle.std.specs.Prelude.{filter, ◌==◌, ◌≢◌}
use Rattle.std.specs.FinMap.{entries}
use Rattle.std.specs.Ordering.{is_le}
use Rattle.std.proofs.lemmas.Bool.{ne_eqb}
use Rattle.std.proofs.lemmas.List.{drop_more, length-drop, length-map}
use Rattle.std.proofs.Math.Seq.{take-length}
use Rattle.flow_measure.specs.declared.rows.Row.{Row}
use Rattle.flow_measure.specs.declared.rows.Key.{Key}
use Rattle.flow_measure.specs.declared.rows.Sums.{Sums}
use Rattle.flow_measure.specs.Query.{interleaved, rows_of_both}
use Rattle.flow_measure.specs.Sums.{is_within, key_cmp, table_row, rows_between, Table}

-- what was taken, and after it what is left, interleaved, is all
pub record Rest (all rows others target : List Row) : Type 0 where
  pub more : ℕ
  pub enough : length rows + length others ≤ more
  pub is : all ++ interleaved more rows others ≡ target

pub from_first : (rows others : List Row) (steps : ℕ) → length rows + length others ≤ steps
    → Rest [] rows others (interleaved steps rows others)
from_first rows others steps enough = record { more = steps; enough = enough; is = refl }

one_first : (steps : ℕ) (r o : Row) (rows others : List Row) → is_le (key_cmp r.key o.key) ≡ true
    → interleaved (suc steps) (r ∷ rows) (o ∷ others) ≡ r ∷ interleaved steps rows (o ∷ others)
one_first steps r o rows others test = rw test refl

one_second : (steps : ℕ) (r o : Row) (rows others : List Row) → is_le (key_cmp r.key o.key) ≡ false
    → interleaved (suc steps) (r ∷ rows) (o ∷ others) ≡ o ∷ interleaved steps (r ∷ rows) others
one_second steps r o rows others test = rw test refl

pub first_taken : (all rows others target : List Row) (r o : Row) → is_le (key_cmp r.key o.key) ≡ true
    → Rest all (r ∷ rows) (o ∷ others) target → Rest (all ++ r ∷ []) rows (o ∷ others) target
first_taken all rows others target r o test rest = by rest.more rest.enough rest.is
  where
    by : (more : ℕ) → length (r ∷ rows) + length (o ∷ others) ≤ more
        → all ++ interleaved more (r ∷ rows) (o ∷ others) ≡ target → Rest (all ++ r ∷ []) rows (o ∷ others) target
    by zero enough is = absurd (omega (arith, enough))
    by (suc n) enough is = record {
      more = n;
      enough = omega (arith, enough);
      is = append_assoc all (r ∷ []) (interleaved n rows (o ∷ others))
          ∙ ap (λ (rs : List Row). all ++ rs) (sym (one_first n r o rows others test)) ∙ is;
    }

pub second_taken : (all rows others target : List Row) (r o : Row) → is_le (key_cmp r.key o.key) ≡ false
    → Rest all (r ∷ rows) (o ∷ others) target → Rest (all ++ o ∷ []) (r ∷ rows) others target
second_taken all rows others target r o test rest = by rest.more rest.enough rest.is
  where
    by : (more : ℕ) → length (r ∷ rows) + length (o ∷ others) ≤ more
        → all ++ interleaved more (r ∷ rows) (o ∷ others) ≡ target → Rest (all ++ o ∷ []) (r ∷ rows) others target
    by zero enough is = absurd (omega (arith, enough))
    by (suc n) enough is = record {
      more = n;
      enough = omega (arith, enough);
      is = append_assoc all (o ∷ []) (interleaved n (r ∷ rows) others)
          ∙ ap (λ (rs : List Row). all ++ rs) (sym (one_second n r o rows others test)) ∙ is;
    }

left_ended : (n : ℕ) (others : List Row) → interleaved n [] others ≡ others
left_ended zero others = refl
left_ended (suc n) others = refl

right_ended : (n : ℕ) (rows : List Row) → interleaved n rows [] ≡ rows
right_ended zero rows = append-nil rows
right_ended (suc n) [] = refl
right_ended (suc n) (r ∷ rows) = refl

pub no_left : (all rows others target : List Row) → rows ≡ [] → Rest all rows others target
    → (all ++ rows) ++ others ≡ target
no_left all rows others target none rest =
    ap (λ (rs : List Row). (all ++ rs) ++ others) none ∙ ap (λ (rs : List Row). rs ++ others) (append-nil all)
    ∙ ap (λ (rs : List Row). all ++ rs) (sym (left_ended rest.more others))
    ∙ ap (λ (rs : List Row). all ++ interleaved rest.more rs others) (sym none) ∙ rest.is

pub no_right : (all rows others target : List Row) → others ≡ [] → Rest all rows others target
    → (all ++ rows) ++ others ≡ target
no_right all rows others target none rest =
    ap (λ (rs : List Row). (all ++ rows) ++ rs) none ∙ append-nil (all ++ rows)
    ∙ ap (λ (rs : List Row). all ++ rs) (sym (right_ended rest.more rows))
    ∙ ap (λ (rs : List Row). all ++ interleaved rest.more rows rs) (sym none) ∙ rest.is

-- ---- by places

abbrev pub no_row : Row
no_row = record {
  key = record { start = 0; domain = 0; protocol = None };
  sums = record { flows = 0; octets = 0; packets = 0 };
  width = 0;
}

at_places : (all rows others target : List Row) (i j : ℕ) → i < length rows → j < length others
    → Rest all (drop i rows) (drop j others) target
    → Rest all (get_or rows i no_row ∷ drop (i + 1) rows) (get_or others j no_row ∷ drop (j + 1) others) target
at_places all rows others target i j left right rest =
    subst (λ (rs : List Row). Rest all rs (get_or others j no_row ∷ drop (j + 1) others) target)
    (drop_more rows i no_row left)
    (subst (λ (os : List Row). Rest all (drop i rows) os target) (drop_more others j no_row right) rest)

module _ (all rows others target new : List Row) (i j : ℕ) (left : i < length rows) (right : j < length others)
    (b : Bool)
    (test : b ≡ is_le (key_cmp (get_or rows i no_row).key (get_or others j no_row).key))
    (rest : Rest all (drop i rows) (drop j others) target) where
  pub first_at : b ≡ true → new ≡ all ++ get_or rows i no_row ∷ [] → Rest new (drop (i + 1) rows) (drop j others) target
  first_at taken is =
      subst (λ (xs : List Row). Rest xs (drop (i + 1) rows) (drop j others) target) (sym is)
      (subst (λ (os : List Row). Rest (all ++ get_or rows i no_row ∷ []) (drop (i + 1) rows) os target)
      (sym (drop_more others j no_row right))
      (first_taken all (drop (i + 1) rows) (drop (j + 1) others) target (get_or rows i no_row) (get_or others j no_row)
      (sym test ∙ taken) (at_places all rows others target i j left right rest)))

  pub second_at : b ≡ false → new ≡ all ++ get_or others j no_row ∷ []
      → Rest new (drop i rows) (drop (j + 1) others) target
  second_at taken is =
      subst (λ (xs : List Row). Rest xs (drop i rows) (drop (j + 1) others) target) (sym is)
      (subst (λ (rs : List Row). Rest (all ++ get_or others j no_row ∷ []) rs (drop (j + 1) others) target)
      (sym (drop_more rows i no_row left))
      (second_taken all (drop (i + 1) rows) (drop (j + 1) others) target (get_or rows i no_row) (get_or others j no_row)
      (sym test ∙ taken) (at_places all rows others target i j left right rest)))

pub all_behind : (i : ℕ) (rows : List Row) → take (length rows - i) (drop i rows) ≡ drop i rows
all_behind i rows = ap (λ (n : ℕ). take n (drop i rows)) (sym (length-drop i rows)) ∙ take-length (drop i rows)

-- ---- of two tables

few_pass : {A : Type 0} (p : A → Bool) (xs : List A) → length (filter p xs) ≤ length xs
few_pass p [] = omega arith
few_pass {A} p (x ∷ xs) = elim (p x) as (λ b. length (cond b (x ∷ filter p xs) (filter p xs)) ≤ length (x ∷ xs)) [
  | true ↦ omega (arith, few_pass p xs)
  | false ↦ omega (arith, few_pass p xs)
]

few_between : (from to : ℕ) (t : Table) → length (rows_between from to t) ≤ length (entries t.sums)
few_between from to t =
    let here = filter (λ (e : Key × Sums). is_within from to e.0) (entries t.sums) in
    omega (
      arith,
      length-map here (table_row t.width),
      few_pass (λ (e : Key × Sums). is_within from to e.0) (entries t.sums),
    )

pub two_tables : (from to : ℕ) (narrow wide : Table) (all : List Row) → narrow.width ≢ wide.width
    → ((steps : ℕ) → length (rows_between from to narrow) + length (rows_between from to wide) ≤ steps
    → all ≡ interleaved steps (rows_between from to narrow) (rows_between from to wide))
    → all ≡ rows_of_both from to narrow wide
two_tables from to narrow wide all differ made =
    let test : (narrow.width == wide.width) ≡ false = ne_eqb narrow.width wide.width differ in
    let steps = length (entries narrow.sums) + length (entries wide.sums) in
    let enough : length (rows_between from to narrow) + length (rows_between from to wide) ≤ steps =
    omega (arith, few_between from to narrow, few_between from to wide) in
    rw test (made steps enough)
