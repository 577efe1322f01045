-- Rows in order are those of their sums, and a table's rows are in order.
use Rattle.std.proofs.Common.{◌≡◌, ℕ, zero, suc, ◌+◌, ◌-◌, ◌/◌, ◌<◌, ◌≤◌, ◌⊎◌, inl, inr, ⊎_elim}
use Rattle.std.proofs.Common.{Bool, true, false, cond, List, [], ◌∷◌, ◌++◌, Option, Some, None, refl, sym}
use Rattle.std.proofs.Common.{ap, subst, ◌∙◌, arith, T}
use Rattle.std.specs.Prelude.{nat_lt, ◌&&◌}
use Rattle.std.specs.List.{flat_map}
use Rattle.std.specs.Ordering.{is_lt}
use Rattle.std.specs.declared.cmp.Ordering.{Ordering}
use Rattle.std.specs.declared.cmp.Ordering.TheVariants.{Less, Equal, Greater}
use Rattle.std.specs.FinMap.Entries.{is_sorted, below_all}
use Rattle.std.proofs.lemmas.List.{append-nil}
use Rattle.std.proofs.lemmas.List.Concat.{flat_map-cons}
use Rattle.std.proofs.lemmas.Bool.{ltb-true, ltb-false}
use Rattle.flow_measure.specs.declared.rows.Key.{Key}
use Rattle.flow_measure.specs.declared.rows.Sums.{Sums}
use Rattle.flow_measure.specs.Sums.{plus}
use Rattle.flow_measure.proofs.Gathering.{sum_at, get-gathered}
use Rattle.flow_rolled.specs.declared.row.RolledRow.{RolledRow}
use Rattle.flow_rolled.specs.Rows.{file_cmp, in_file_order, most, least, row_of, left_of, further, rows_from, rows_of}
use Rattle.flow_rolled.specs.Rows.{rows_in, sums_in, sums_of, Continues, MayFollow, AreRows}
use Rattle.flow_rolled.proofs.FileOrder.{file_total, first, second, same_order}
use Rattle.flow_rolled.proofs.RowSums.{all_sums, least_small}
use Rattle.flow_rolled.specs.Rows.{entries_in}

-- ---- numbers

abbrev pub larger : ℕ → ℕ → ℕ
larger a b = cond (nat_lt a b) b a

pub larger_is : (a b : ℕ) → ((a < b) × (larger a b ≡ b)) ⊎ ((b ≤ a) × (larger a b ≡ a))
larger_is a b = elim (nat_lt a b) as (λ t. nat_lt a b ≡ t → ((a < b) × (cond t b a ≡ b))
    ⊎ ((b ≤ a) × (cond t b a ≡ a))) [
      | true ↦ λ e. inl (ltb-true a b e, refl)
      | false ↦ λ e. inr (ltb-false a b e, refl)
    ] refl

-- one row more for either
abbrev pub IsMore : ℕ → ℕ → Type 0
IsMore m n = (m ≡ suc n) ⊎ ((m ≡ 0) × (n ≡ 0))

abbrev pub IsLarger : ℕ → ℕ → ℕ → Type 0
IsLarger a b m = ((a < b) × (m ≡ b)) ⊎ ((b ≤ a) × (m ≡ a))

more_of : (a b c d m n : ℕ) → IsLarger a b m → IsLarger c d n → IsMore a c → IsMore b d → 0 < a + b → m ≡ suc n
more_of a b c d m n x y ma mb some = omega (arith, x, y, ma, mb, some)

larger_more : (a b c d : ℕ) → IsMore a c → IsMore b d → 0 < a + b → larger a b ≡ suc (larger c d)
larger_more a b c d ma mb some = more_of a b c d (larger a b) (larger c d) (larger_is a b) (larger_is c d) ma mb some

larger_none : larger 0 0 ≡ 0
larger_none = refl

-- a count that a row was full of, or that had nothing left
abbrev IsFilled : ℕ → ℕ → Type 0
IsFilled count left = (left ≡ 0) ⊎ (count ≡ most)

filled_least : (a b : ℕ) → a ≤ most → IsFilled a b → least (a + b) most ≡ a
filled_least a b h full = elim (nat_lt (a + b) most) as (λ t. nat_lt (a + b) most ≡ t → cond t (a + b) most ≡ a) [
  | true ↦ λ e. let lt = ltb-true (a + b) most e in ⊎_elim (λ z. omega (arith, z)) (λ f. omega (arith, f, lt)) full
  | false ↦ λ e. let ge = ltb-false (a + b) most e in ⊎_elim (λ z. omega (arith, z, ge, h)) (λ f. sym f) full
] refl

filled_left : (a b : ℕ) → a ≤ most → IsFilled a b → (a + b) - most ≡ b
filled_left a b h full = ⊎_elim (λ z. omega (arith, z, h)) (λ f. omega (arith, f)) full

-- a row more for what is left, if anything is
abbrev pub IsTold : ℕ → ℕ → ℕ → Type 0
IsTold left m n = ((0 < left) × (m ≡ suc n)) ⊎ ((left ≡ 0) × (m ≡ 0) × (n ≡ 0))

filled_more : (a b : ℕ) → a ≤ most → IsFilled a b → IsTold b (((a + b) - 1) / most) ((b - 1) / most)
filled_more a zero h full = inr (refl, omega (arith, h), refl)
filled_more a (suc b) h (inl z) = absurd (omega (arith, z))
filled_more a (suc b) h (inr f) = inl (omega arith, omega (arith, f))

told_more : (l m n : ℕ) → IsTold l m n → IsMore m n
told_more l m n (inl h) = inl h.1
told_more l m n (inr h) = inr (h.1, h.2)

told_some : (l k m n x y : ℕ) → IsTold l m n → IsTold k x y → 0 < l + k → 0 < m + x
told_some l k m n x y a b some = omega (arith, a, b, some)

pub least_zero : (a : ℕ) → least a most ≡ 0 → a ≡ 0
least_zero a h = elim (nat_lt a most) as (λ t. nat_lt a most ≡ t → cond t a most ≡ 0 → a ≡ 0) [
  | true ↦ λ e z. z
  | false ↦ λ e z. absurd (omega (arith, z))
] refl h

-- ---- the rows of a key, with one row more before them

same_sums : (s : Sums) (f o p : ℕ) → f ≡ s.flows → o ≡ s.octets → p ≡ s.packets
    → record { flows = f; octets = o; packets = p } ≡ s
same_sums s f o p ef eo ep = λ i. record { flows = ef i; octets = eo i; packets = ep i }

same_row : (r : RolledRow) (k : Key) (f o p : ℕ) → k ≡ r.key → f ≡ r.flows → o ≡ r.octets → p ≡ r.packets
    → record { key = k; flows = f; octets = o; packets = p } ≡ r
same_row r k f o p ek ef eo ep = λ i. record { key = ek i; flows = ef i; octets = eo i; packets = ep i }

pub one_row : (r : RolledRow) → r.octets ≤ most → r.packets ≤ most → rows_of (r.key, sums_in r) ≡ r ∷ []
unfolding rows_from
one_row r o p =
    let zo : (r.octets - 1) / most ≡ 0 = omega (arith, o) in
    let zp : (r.packets - 1) / most ≡ 0 = omega (arith, p) in
    let none : further (sums_in r) ≡ 0 = rw (zo, zp) refl in
    ap (λ n. rows_from n r.key (sums_in r)) none
    ∙ ap (λ q. q ∷ []) (same_row r r.key r.flows (least r.octets most) (least r.packets most) refl refl
    (least_small r.octets most o) (least_small r.packets most p))

-- the sums of a key, with a row more before them
pub row_in_front : (r : RolledRow) (k : Key) (s : Sums) → r.octets ≤ most → r.packets ≤ most → Continues r (row_of k s)
    → rows_of (k, plus (sums_in r) s) ≡ r ∷ rows_of (k, s)
unfolding rows_from
row_in_front r k s o p h =
    let fo : IsFilled r.octets s.octets = ⊎_elim (λ z. inl (least_zero s.octets z)) (λ f. inr f) h.octets in
    let fp : IsFilled r.packets s.packets = ⊎_elim (λ z. inl (least_zero s.packets z)) (λ f. inr f) h.packets in
    let to = filled_more r.octets s.octets o fo in
    let tp = filled_more r.packets s.packets p fp in
    let some : 0 < s.octets + s.packets = left_some s.octets s.packets h.some in
    let more : further (plus (sums_in r) s) ≡ suc (further s) =
    larger_more (((r.octets + s.octets) - 1) / most) (((r.packets + s.packets) - 1) / most) ((s.octets - 1) / most)
    ((s.packets - 1) / most)
    (told_more _ _ _ to) (told_more _ _ _ tp) (told_some _ _ _ _ _ _ to tp some) in
    let none : r.flows + s.flows ≡ r.flows = let e = h.flows in omega (arith, e) in
    ap (λ n. rows_from n k (plus (sums_in r) s)) more
    ∙ ap (λ q. q ∷ rows_from (further s) k (left_of (plus (sums_in r) s)))
    (same_row r k (r.flows + s.flows) (least (r.octets + s.octets) most)
    (least (r.packets + s.packets) most) h.key none (filled_least r.octets s.octets o fo)
    (filled_least r.packets s.packets p fp))
    ∙ ap (λ x. r ∷ rows_from (further s) k x)
    (same_sums s 0 ((r.octets + s.octets) - most) ((r.packets + s.packets) - most) (sym h.flows)
    (filled_left r.octets s.octets o fo) (filled_left r.packets s.packets p fp))
  where
    left_some : (a b : ℕ) → 0 < least a most + least b most → 0 < a + b
    left_some zero zero h = h
    left_some zero (suc b) h = omega arith
    left_some (suc a) b h = omega arith

-- ---- rows in order are those of keys in order

abbrev pub Begun : List RolledRow → List (Key × Sums) → Type 0
Begun [] es = Unit {0}
Begun (r ∷ rs) [] = ⊥
Begun (r ∷ rs) (e ∷ es) = r ≡ row_of e.0 e.1

pub record Blocks (rows : List RolledRow) : Type 0 where
  pub list : List (Key × Sums)
  pub is : flat_map rows_of list ≡ rows
  pub sorted : T (is_sorted file_cmp list)
  pub begun : Begun rows list

pub both : (a b : Bool) → T a → T b → T (a && b)
both true b p q = q
both false b p q = p

pub is_less : (o : Ordering) → o ≡ Less → T (is_lt o)
is_less o e = subst (λ r. T (is_lt r)) (sym e) tt

pub less_is : (o : Ordering) → T (is_lt o) → o ≡ Less
less_is Less p = refl
less_is Equal p = absurd p
less_is Greater p = absurd p

pub below_less : (x y : Key) (es : List (Key × Sums)) → file_cmp x y ≡ Less → T (below_all file_cmp y es)
    → T (below_all file_cmp x es)
below_less x y [] p h = tt
below_less x y (e ∷ es) p h =
    both _ _ (is_less (file_cmp x e.0) (file_total.trans x y e.0 p (less_is _ (first _ _ h))))
    (below_less x y es p (second _ _ h))

one_block : (r : RolledRow) → r.octets ≤ most → r.packets ≤ most → Blocks (r ∷ [])
one_block r o p = record {
  list = (r.key, sums_in r) ∷ [];
  is = flat_map-cons rows_of (r.key, sums_in r) [] ∙ append-nil (rows_of (r.key, sums_in r)) ∙ one_row r o p;
  sorted = tt;
  begun = sym (same_row r r.key r.flows (least r.octets most) (least r.packets most) refl refl
      (least_small r.octets most o) (least_small r.packets most p));
}

first_or : RolledRow → List RolledRow → RolledRow
first_or d [] = d
first_or d (x ∷ xs) = x

first_of : (d : RolledRow) (n : ℕ) (k : Key) (s : Sums) → first_or d (rows_from n k s) ≡ row_of k s
unfolding rows_from first_or
first_of d zero k s = refl
first_of d (suc n) k s = refl

first_row : (r : RolledRow) (xs ys : List RolledRow) (x : RolledRow) → ys ≡ r ∷ xs → first_or r ys ≡ x → r ≡ x
unfolding first_or
first_row r xs ys x e f = sym (ap (first_or r) e) ∙ f

more_blocks : (r q : RolledRow) (rs : List RolledRow) → r.octets ≤ most → r.packets ≤ most → MayFollow (Some r) q
    → (es : List (Key × Sums)) → flat_map rows_of es ≡ q ∷ rs → T (is_sorted file_cmp es) → Begun (q ∷ rs) es
    → Blocks (r ∷ q ∷ rs)
more_blocks r q rs o p may [] is sorted begun = absurd begun
more_blocks r q rs o p (inl more) (e ∷ es) is sorted begun =
    let c : Continues r (row_of e.0 e.1) = subst (Continues r) begun more in
    let front = row_in_front r e.0 e.1 o p c in
    record {
      list = (e.0, plus (sums_in r) e.1) ∷ es;
      is = flat_map-cons rows_of (e.0, plus (sums_in r) e.1) es
          ∙ ap (λ (l : List RolledRow). l ++ flat_map rows_of es) front
          ∙ ap (λ (l : List RolledRow). r ∷ l) (sym (flat_map-cons rows_of e es) ∙ is);
      sorted = sorted;
      begun = first_row r (rows_of (e.0, e.1)) (rows_of (e.0, plus (sums_in r) e.1))
          (row_of e.0 (plus (sums_in r) e.1)) front
          (first_of r (further (plus (sums_in r) e.1)) e.0 (plus (sums_in r) e.1));
    }
more_blocks r q rs o p (inr new) (e ∷ es) is sorted begun =
    let k : q.key ≡ e.0 = ap (λ (x : RolledRow). x.key) begun in
    let lt : file_cmp r.key e.0 ≡ Less = subst (λ x. file_cmp r.key x ≡ Less) k new.order in
    record {
      list = (r.key, sums_in r) ∷ e ∷ es;
      is = flat_map-cons rows_of (r.key, sums_in r) (e ∷ es)
          ∙ ap (λ (l : List RolledRow). l ++ flat_map rows_of (e ∷ es)) (one_row r o p)
          ∙ ap (λ (l : List RolledRow). r ∷ l) is;
      sorted = both _ _ (both _ _ (is_less (file_cmp r.key e.0) lt) (below_less r.key e.0 es lt (first _ _ sorted)))
          sorted;
      begun = sym (same_row r r.key r.flows (least r.octets most) (least r.packets most) refl refl
          (least_small r.octets most o) (least_small r.packets most p));
    }

pub blocks : (w : ℕ) (b : Option RolledRow) (rows : List RolledRow) → AreRows w b rows → Blocks rows
blocks w b [] h = record { list = []; is = refl; sorted = tt; begun = tt }
blocks w b (r ∷ []) h = one_block r (h.0).octets (h.0).packets
blocks w b (r ∷ q ∷ rs) h =
    let rest = blocks w (Some r) (q ∷ rs) h.2 in
    more_blocks r q rs (h.0).octets (h.0).packets (h.2).1 rest.list rest.is rest.sorted rest.begun

-- rows in order are the rows of their sums
pub same_rows : (w : ℕ) (rows : List RolledRow) → AreRows w None rows → rows_in (sums_of rows) ≡ rows
same_rows w rows h =
    let b = blocks w None rows h in
    let order : in_file_order (sums_of rows) ≡ b.list = same_order (sums_of rows) b.list b.sorted (λ q.
    sym (all_sums q b.list) ∙ ap (λ l. sum_at q (entries_in l)) b.is ∙ sym (get-gathered (entries_in rows) q)) in
    ap (flat_map rows_of) order ∙ b.is
