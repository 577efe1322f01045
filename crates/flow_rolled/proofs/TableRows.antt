-- A table's rows are in order.
use Rattle.std.proofs.Common.{◌≡◌, ℕ, zero, suc, ◌+◌, ◌-◌, ◌/◌, ◌<◌, ◌≤◌, ◌⊎◌, inl, inr, ⊎_elim, true, false}
use Rattle.std.proofs.Common.{cond, List, [], ◌∷◌, Option, Some, None, refl, sym, subst, ◌∙◌, arith, T}
use Rattle.std.specs.Prelude.{nat_lt, IfSome}
use Rattle.std.specs.List.{flat_map, AllByRecursion}
use Rattle.std.specs.Ordering.{is_eq, is_lt}
use Rattle.std.specs.declared.cmp.Ordering.{Ordering}
use Rattle.std.specs.declared.cmp.Ordering.TheVariants.{Less, Equal, Greater}
use Rattle.std.specs.FinMap.Entries.{find, is_sorted, below_all}
use Rattle.std.proofs.lemmas.List.Concat.{flat_map-cons}
use Rattle.std.proofs.lemmas.Bool.{ltb-true, ltb-false}
use Rattle.flow_measure.specs.declared.rows.Key.{Key}
use Rattle.flow_measure.specs.declared.rows.Sums.{Sums}
use Rattle.flow_measure.specs.Sums.{Table, key_cmp, is_key}
use Rattle.flow_measure.proofs.Keys.{same_key, is_key-refl}
use Rattle.flow_rolled.specs.declared.row.RolledRow.{RolledRow}
use Rattle.flow_rolled.specs.Rows.{file_cmp, in_file_order, most, least, row_of, left_of, further, rows_from, rows_of}
use Rattle.flow_rolled.specs.Rows.{rows_in, IsRow, Continues, MayFollow, AreRows, IsTableEntry, IsTable}
use Rattle.flow_rolled.specs.Messages.{last_from}
use Rattle.flow_rolled.proofs.Grouping.{rows_append}
use Rattle.flow_rolled.proofs.FileOrder.{first, second, order_sorted, order_finds, ties}
use Rattle.flow_rolled.proofs.RowOrder.{larger_is, IsLarger, IsMore, less_is}

least_most : (a : ℕ) → least a most ≤ most
least_most a = elim (nat_lt a most) as (λ t. nat_lt a most ≡ t → cond t a most ≤ most) [
  | true ↦ λ e. let lt = ltb-true a most e in omega (arith, lt)
  | false ↦ λ e. omega arith
] refl

row_fits : (w : ℕ) (k : Key) (s : Sums) → IsRow w (row_of k s) → IsRow w (row_of k (left_of s))
row_fits w k s h = record {
  aligned = h.aligned;
  start = h.start;
  domain = h.domain;
  protocol = h.protocol;
  flows =
      omega arith;
  octets = least_most (s.octets - most);
  packets = least_most (s.packets - most);
}

-- what a count leaves for later rows
left_or_full : (a : ℕ) → (least (a - most) most ≡ 0) ⊎ (least a most ≡ most)
left_or_full a = elim (nat_lt a most) as (λ t. nat_lt a most ≡ t → (least (a - most) most ≡ 0)
    ⊎ (cond t a most ≡ most)) [
      | true ↦ λ e. inl (let lt = ltb-true a most e in let none : a - most ≡ 0 = omega (arith, lt) in rw none refl)
      | false ↦ λ e. inr refl
    ] refl

-- how many rows a count asks for
asks : (a : ℕ) → IsMore ((a - 1) / most) (((a - most) - 1) / most)
asks a = elim (nat_lt most a) as (λ t. nat_lt most a ≡ t → IsMore ((a - 1) / most) (((a - most) - 1) / most)) [
  | true ↦ λ e. inl (let lt = ltb-true most a e in omega (arith, lt))
  | false ↦ λ e. inr (let ge = ltb-false most a e in (omega (arith, ge), omega (arith, ge)))
] refl

less_of : (a b c d m n k : ℕ) → IsLarger a b m → IsLarger c d n → IsMore a c → IsMore b d → m ≡ suc k → n ≡ k
less_of a b c d m n k x y ma mb e = omega (arith, x, y, ma, mb, e)

further_left : (s : Sums) (n : ℕ) → further s ≡ suc n → further (left_of s) ≡ n
further_left s n e = less_of ((s.octets - 1) / most) ((s.packets - 1) / most) (((s.octets - most) - 1) / most)
    (((s.packets - most) - 1) / most) (further s) (further (left_of s)) n
    (larger_is ((s.octets - 1) / most) ((s.packets - 1) / most))
    (larger_is (((s.octets - most) - 1) / most) (((s.packets - most) - 1) / most)) (asks s.octets)
    (asks s.packets) e

one_of : (a b m n : ℕ) → IsLarger a b m → m ≡ suc n → (0 < a) ⊎ (0 < b)
one_of a b m n (inl h) e = inr (omega (arith, h, e))
one_of a b m n (inr h) e = inl (omega (arith, h, e))

something : (a : ℕ) → 0 < (a - 1) / most → 0 < least (a - most) most
something a h = elim (nat_lt (a - most) most) as (λ t. nat_lt (a - most) most ≡ t → 0 < cond t (a - most) most) [
  | true ↦ λ e. omega (arith, h)
  | false ↦ λ e. omega arith
] refl

some_left : (s : Sums) (n : ℕ) → further s ≡ suc n → 0 < least (s.octets - most) most + least (s.packets - most) most
some_left s n e = ⊎_elim (λ h. let x = something s.octets h in omega (arith, x)) (λ h. let x = something s.packets h in
    omega (arith, x))
    (one_of ((s.octets - 1) / most) ((s.packets - 1) / most) (further s) n
    (larger_is ((s.octets - 1) / most) ((s.packets - 1) / most)) e)

continues : (k : Key) (s : Sums) (n : ℕ) → further s ≡ suc n → Continues (row_of k s) (row_of k (left_of s))
continues k s n e = record {
  key = refl;
  flows = refl;
  some = some_left s n e;
  octets =
      left_or_full s.octets;
  packets = left_or_full s.packets;
}

-- the rows of a key are in order, and the last one is of the key
pub record AreKeyRows (w : ℕ) (b : Option RolledRow) (k : Key) (rows : List RolledRow) : Type 0 where
  pub order : AreRows w b rows
  pub last : RolledRow
  pub is : last_from b rows ≡ Some last
  pub key : last.key ≡ k

key_rows : (w n : ℕ) (b : Option RolledRow) (k : Key) (s : Sums) → IsRow w (row_of k s) → MayFollow b (row_of k s)
    → further s ≡ n → AreKeyRows w b k (rows_from n k s)
unfolding rows_from
key_rows w zero b k s fits may e = record { order = (fits, may, tt); last = row_of k s; is = refl; key = refl }
key_rows w (suc n) b k s fits may e =
    let rest = key_rows w n (Some (row_of k s)) k (left_of s) (row_fits w k s fits) (inl (continues k s n e))
    (further_left s n e) in
    record { order = (fits, may, rest.order); last = rest.last; is = rest.is; key = rest.key }

-- the last row before is of a key before these
abbrev pub IsBefore : Option RolledRow → List (Key × Sums) → Type 0
IsBefore None es = Unit {0}
IsBefore (Some l) es = T (below_all file_cmp l.key es)

abbrev pub AreEntries : ℕ → List (Key × Sums) → Type 0
AreEntries w es = AllByRecursion (λ e. IsTableEntry w e.0 e.1) es

begins : (b : Option RolledRow) (k : Key) (s : Sums) (es : List (Key × Sums)) → IsBefore b ((k, s) ∷ es) → 0 < s.flows
    → MayFollow b (row_of k s)
begins None k s es h some = some
begins (Some l) k s es h some = inr (record { order = less_is _ (first _ _ h); flows = some })

entry_row : (w : ℕ) (k : Key) (s : Sums) → IsTableEntry w k s → IsRow w (row_of k s)
entry_row w k s h = record {
  aligned = h.aligned;
  start = h.start;
  domain = h.domain;
  protocol = h.protocol;
  flows =
      h.flows;
  octets = least_most s.octets;
  packets = least_most s.packets;
}

all_rows : (w : ℕ) (b : Option RolledRow) (es : List (Key × Sums)) → T (is_sorted file_cmp es) → AreEntries w es
    → IsBefore b es → AreRows w b (flat_map rows_of es)
all_rows w b [] sorted all before = tt
all_rows w b (e ∷ es) sorted all before =
    let now = key_rows w (further (e.1)) b e.0 e.1 (entry_row w e.0 e.1 all.0)
    (begins b e.0 e.1 es before (all.0).counted) refl in
    let past : IsBefore (last_from b (rows_of e)) es =
    subst (λ o. IsBefore o es) (sym now.is)
    (subst (λ k. T (below_all file_cmp k es)) (sym now.key) (first _ _ sorted)) in
    subst (AreRows w b) (sym (flat_map-cons rows_of e es))
    (rows_append w b (rows_of e) (flat_map rows_of es) now.order
    (all_rows w (last_from b (rows_of e)) es (second _ _ sorted) all.1 past))

not_below : (q : Key) (es : List (Key × Sums)) → T (below_all file_cmp q es) → find key_cmp q es ≡ None
not_below q [] h = refl
not_below q (e ∷ es) h = rw (sym (ties q e.0) ∙ less (file_cmp q e.0) (first _ _ h)) (not_below q es (second _ _ h))
  where
    less : (o : Ordering) → T (is_lt o) → is_eq o ≡ false
    less Less p = refl
    less Equal p = absurd p
    less Greater p = absurd p

entries_are : (w : ℕ) (es : List (Key × Sums)) → T (is_sorted file_cmp es)
    → ((q : Key) → IfSome (find key_cmp q es) (IsTableEntry w q)) → AreEntries w es
entries_are w [] sorted all = tt
entries_are w (e ∷ es) sorted all = (
  subst (λ b. IfSome (cond b (Some e.1) (find key_cmp e.0 es)) (IsTableEntry w e.0)) (is_key-refl e.0) (all e.0),
  entries_are w es (second _ _ sorted) (λ q. elim (is_key q e.0) as (λ b. is_key q e.0 ≡ b
      → IfSome (cond b (Some e.1) (find key_cmp q es)) (IsTableEntry w q)
      → IfSome (find key_cmp q es) (IsTableEntry w q)) [
        | true ↦ λ same h. subst (λ o. IfSome o (IsTableEntry w q))
            (sym (not_below q es (subst (λ k. T (below_all file_cmp k es)) (sym (same_key q e.0 same))
            (first _ _ sorted)))) tt
        | false ↦ λ other h. h
      ] refl (all q)),
)

pub table_rows : (t : Table) → IsTable t → AreRows t.width None (rows_in t.sums)
table_rows t h = all_rows t.width None (in_file_order t.sums) (order_sorted t.sums)
    (entries_are t.width (in_file_order t.sums) (order_sorted t.sums)
    (λ q. subst (λ o. IfSome o (IsTableEntry t.width q)) (sym (order_finds t.sums q)) (h q))) tt
