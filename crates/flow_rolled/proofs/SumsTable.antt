-- The sums of rows in order are a table.
use Rattle.std.proofs.Common.{◌≡◌, ℕ, zero, suc, ◌<◌, inl, inr, true, false, cond, List, []}
use Rattle.std.proofs.Common.{◌∷◌, Option, Some, None, refl, sym, ap, subst, ◌∙◌, T}
use Rattle.std.specs.Prelude.{IfSome}
use Rattle.std.specs.List.{flat_map}
use Rattle.std.specs.Ordering.{is_eq, is_lt}
use Rattle.std.specs.declared.cmp.Ordering.{Ordering}
use Rattle.std.specs.declared.cmp.Ordering.TheVariants.{Less, Equal, Greater}
use Rattle.std.specs.FinMap.Entries.{find, is_sorted, below_all}
use Rattle.std.proofs.lemmas.List.Concat.{flat_map-cons}
use Rattle.flow_measure.specs.declared.rows.Key.{Key}
use Rattle.flow_measure.specs.declared.rows.Sums.{Sums}
use Rattle.flow_measure.specs.Sums.{key_cmp, is_key}
use Rattle.flow_measure.proofs.Keys.{same_key}
use Rattle.flow_measure.proofs.Gathering.{sum_at, get-gathered}
use Rattle.flow_rolled.specs.declared.row.RolledRow.{RolledRow}
use Rattle.flow_rolled.specs.Rows.{file_cmp, row_of, left_of, further, rows_from, rows_of, sums_of, IsRow}
use Rattle.flow_rolled.specs.Rows.{MayFollow, AreRows, IsTableEntry, IsTable}
use Rattle.flow_rolled.specs.Messages.{last_from}
use Rattle.flow_rolled.proofs.Grouping.{rows_front}
use Rattle.flow_rolled.proofs.FileOrder.{first, second, sum_at-file, file_refl}
use Rattle.flow_rolled.proofs.RowSums.{all_sums}
use Rattle.flow_rolled.specs.Rows.{entries_in}
use Rattle.flow_rolled.proofs.RowOrder.{blocks, less_is}
use Rattle.flow_rolled.proofs.TableRows.{AreEntries, IsBefore}

first_fact : (w n : ℕ) (b : Option RolledRow) (k : Key) (s : Sums) → AreRows w b (rows_from n k s)
    → IsRow w (row_of k s) × MayFollow b (row_of k s)
unfolding rows_from
first_fact w zero b k s h = (h.0, h.1)
first_fact w (suc n) b k s h = (h.0, h.1)

last_key : (n : ℕ) (b : Option RolledRow) (k : Key) (s : Sums)
    → (l : RolledRow) × (last_from b (rows_from n k s) ≡ Some l) × (l.key ≡ k)
unfolding rows_from
last_key zero b k s = (row_of k s, refl, refl)
last_key (suc n) b k s = last_key n (Some (row_of k s)) k (left_of s)

not_itself : (k : Key) → T (is_lt (file_cmp k k)) → ⊥
not_itself k h = let e : file_cmp k k ≡ Less = less_is (file_cmp k k) h in not_both (file_cmp k k) e (file_refl k)
  where
    not_both : (o : Ordering) → o ≡ Less → is_eq o ≡ true → ⊥
    not_both Less e f = absurd cc
    not_both Equal e f = absurd cc
    not_both Greater e f = absurd cc

counted : (b : Option RolledRow) (k : Key) (s : Sums) (es : List (Key × Sums)) → IsBefore b ((k, s) ∷ es)
    → MayFollow b (row_of k s) → 0 < s.flows
counted None k s es before may = may
counted (Some l) k s es before (inl c) =
    absurd (not_itself k (subst (λ x. T (is_lt (file_cmp x k))) (sym c.key) (first _ _ before)))
counted (Some l) k s es before (inr b) = b.flows

entries_from : (w : ℕ) (b : Option RolledRow) (es : List (Key × Sums)) → T (is_sorted file_cmp es) → IsBefore b es
    → AreRows w b (flat_map rows_of es) → AreEntries w es
entries_from w b [] sorted before h = tt
entries_from w b (e ∷ es) sorted before h =
    let parted = rows_front w b (rows_of e) (flat_map rows_of es)
    (subst (AreRows w b) (flat_map-cons rows_of e es) h) in
    let f = first_fact w (further e.1) b e.0 e.1 parted.0 in
    let l = last_key (further e.1) b e.0 e.1 in
    let now : IsTableEntry w e.0 e.1 =
    record {
      aligned = (f.0).aligned;
      start = (f.0).start;
      domain = (f.0).domain;
      protocol =
          (f.0).protocol;
      counted = counted b e.0 e.1 es before f.1;
      flows = (f.0).flows;
    } in
    let past : IsBefore (last_from b (rows_of e)) es =
    subst (λ o. IsBefore o es) (sym l.1) (subst (λ k. T (below_all file_cmp k es)) (sym l.2) (first _ _ sorted)) in
    (now, entries_from w (last_from b (rows_of e)) es (second _ _ sorted) past parted.1)

found : (w : ℕ) (q : Key) (es : List (Key × Sums)) → AreEntries w es → IfSome (find key_cmp q es) (IsTableEntry w q)
found w q [] h = tt
found w q (e ∷ es) h =
    elim (is_key q e.0) as (λ b. is_key q e.0 ≡ b → IfSome (cond b (Some e.1) (find key_cmp q es)) (IsTableEntry w q)) [
      | true ↦ λ same. subst (λ k. IsTableEntry w k e.1) (sym (same_key q e.0 same)) h.0
      | false ↦ λ other. found w q es h.1
    ] refl

-- rows in order sum up to a table
pub sums_table : (w : ℕ) (rows : List RolledRow) → AreRows w None rows
    → IsTable (record { width = w; sums = sums_of rows })
sums_table w rows h =
    let b = blocks w None rows h in
    let entries = entries_from w None b.list b.sorted tt (subst (AreRows w None) (sym b.is) h) in
    λ q. subst (λ o. IfSome o (IsTableEntry w q)) (sym (sum_at-file q b.list b.sorted) ∙ sym (all_sums q b.list)
    ∙ ap (λ l. sum_at q (entries_in l)) b.is ∙ sym (get-gathered (entries_in rows) q)) (found w q b.list entries)
