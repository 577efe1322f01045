-- The rows of a key have its sums.
use Rattle.std.proofs.Common.{◌≡◌, ℕ, zero, suc, ◌+◌, ◌-◌, ◌*◌, ◌/◌, ◌≤◌, Bool, true, false, cond, List, [], ◌∷◌}
use Rattle.std.proofs.Common.{Some, None, refl, sym, ap, ◌∙◌, arith}
use Rattle.std.specs.Prelude.{nat_lt}
use Rattle.std.specs.List.{flat_map}
use Rattle.std.specs.FinMap.{FinMap}
use Rattle.std.proofs.lemmas.List.{map-append}
use Rattle.std.proofs.lemmas.List.Concat.{flat_map-cons}
use Rattle.std.proofs.lemmas.Bool.{ltb-true, ltb-false}
use Rattle.flow_measure.specs.declared.rows.Key.{Key}
use Rattle.flow_measure.specs.declared.rows.Sums.{Sums}
use Rattle.flow_measure.specs.Sums.{key_cmp, is_key, plus}
use Rattle.flow_measure.proofs.Gathering.{joined, joined-none, sum_at, sum_at-append, same_sums, get-gathered}
use Rattle.flow_measure.proofs.Widening.{pushed}
use Rattle.flow_rolled.specs.declared.row.RolledRow.{RolledRow}
use Rattle.flow_rolled.specs.Rows.{most, least, row_of, left_of, further, rows_from, rows_of, rows_in, sums_in, sums_of}
use Rattle.flow_rolled.specs.Rows.{entries_in}
use Rattle.flow_rolled.specs.Rows.{in_file_order}
use Rattle.flow_rolled.proofs.FileOrder.{order_sums}

pub least_small : (a b : ℕ) → a ≤ b → least a b ≡ a
least_small a b h = elim (nat_lt a b) as (λ t. nat_lt a b ≡ t → cond t a b ≡ a) [
  | true ↦ λ e. refl
  | false ↦ λ e. let ge = ltb-false a b e in omega (arith, ge, h)
] refl

pub least_and_left : (a b : ℕ) → least a b + (a - b) ≡ a
least_and_left a b = elim (nat_lt a b) as (λ t. nat_lt a b ≡ t → cond t a b + (a - b) ≡ a) [
  | true ↦ λ e. let lt = ltb-true a b e in omega (arith, lt)
  | false ↦ λ e. let ge = ltb-false a b e in omega (arith, ge)
] refl

-- so many rows take all of both
abbrev pub Enough : ℕ → Sums → Type 0
Enough n s = (s.octets ≤ (n + 1) * most) × (s.packets ≤ (n + 1) * most)

enough_one : (a : ℕ) → a ≤ ((a - 1) / most + 1) * most
enough_one a = omega arith

greater : (a b : ℕ) → (a ≤ cond (nat_lt a b) b a) × (b ≤ cond (nat_lt a b) b a)
greater a b = elim (nat_lt a b) as (λ t. nat_lt a b ≡ t → (a ≤ cond t b a) × (b ≤ cond t b a)) [
  | true ↦ λ e. let lt = ltb-true a b e in (omega (arith, lt), omega arith)
  | false ↦ λ e. let ge = ltb-false a b e in (omega arith, omega (arith, ge))
] refl

more_rows : (a m n : ℕ) → a ≤ (m + 1) * most → m ≤ n → a ≤ (n + 1) * most
more_rows a m n h le = omega (arith, h, le)

pub further_enough : (s : Sums) → Enough (further s) s
further_enough s =
    let o = (s.octets - 1) / most in
    let p = (s.packets - 1) / most in
    let g = greater o p in (
      more_rows s.octets o (further s) (enough_one s.octets) g.0,
      more_rows s.packets p (further s) (enough_one s.packets) g.1,
    )

same_key_sums : (s : Sums) → s.octets ≤ most → s.packets ≤ most → (key : Key) → sums_in (row_of key s) ≡ s
same_key_sums s o p key = rw (least_small s.octets most o, least_small s.packets most p) refl

row_and_left : (key : Key) (s : Sums) → plus (sums_in (row_of key s)) (left_of s) ≡ s
row_and_left key s = rw (least_and_left s.octets most, least_and_left s.packets most) (let e : s.flows + 0 ≡ s.flows =
    omega arith in rw e refl)

joined_cond : (b : Bool) (x y : Sums)
    → joined (cond b (Some x) None) (cond b (Some y) None) ≡ cond b (Some (plus x y)) None
joined_cond true x y = refl
joined_cond false x y = refl

pub rows_sum : (n : ℕ) (key : Key) (s : Sums) → Enough n s → (q : Key)
    → sum_at q (entries_in (rows_from n key s)) ≡ cond (is_key q key) (Some s) None
unfolding rows_from
rows_sum zero key s enough q =
    pushed q key (sums_in (row_of key s)) [] ∙ joined-none (cond (is_key q key) (Some (sums_in (row_of key s))) None)
    ∙ ap (λ x. cond (is_key q key) (Some x) None)
    (same_key_sums s (omega (arith, enough.0)) (omega (arith, enough.1)) key)
rows_sum (suc n) key s enough q =
    pushed q key (sums_in (row_of key s)) (entries_in (rows_from n key (left_of s)))
    ∙ ap (joined (cond (is_key q key) (Some (sums_in (row_of key s))) None))
    (rows_sum n key (left_of s) (omega (arith, enough.0), omega (arith, enough.1)) q)
    ∙ joined_cond (is_key q key) (sums_in (row_of key s)) (left_of s)
    ∙ ap (λ x. cond (is_key q key) (Some x) None) (row_and_left key s)

pub all_sums : (q : Key) (es : List (Key × Sums)) → sum_at q (entries_in (flat_map rows_of es)) ≡ sum_at q es
all_sums q [] = refl
all_sums q (e ∷ es) =
    ap (λ l. sum_at q (entries_in l)) (flat_map-cons rows_of e es)
    ∙ ap (sum_at q) (map-append (λ (r : RolledRow). (r.key, sums_in r)) (rows_of e) (flat_map rows_of es))
    ∙ sum_at-append q (entries_in (rows_of e)) (entries_in (flat_map rows_of es))
    ∙ ap (λ x. joined x (sum_at q (entries_in (flat_map rows_of es))))
    (rows_sum (further e.1) e.0 e.1 (further_enough e.1) q)
    ∙ ap (joined (cond (is_key q e.0) (Some e.1) None)) (all_sums q es)
    ∙ sym (pushed q e.0 e.1 es)

-- the rows of a table sum up to it
pub same_table : (m : FinMap key_cmp Sums) → sums_of (rows_in m) ≡ m
same_table m = same_sums (sums_of (rows_in m)) m (λ q. get-gathered (entries_in (rows_in m)) q
    ∙ all_sums q (in_file_order m) ∙ order_sums m q)
