-- The file's order of keys, and a map's entries in it.
use Rattle.std.proofs.Common.{◌≡◌, ℕ, Bool, true, false, cond, List, [], ◌∷◌, map, Option, Some, None, refl, sym}
use Rattle.std.proofs.Common.{ap, subst, ◌∙◌, zero-add, T}
use Rattle.std.specs.Prelude.{filter, ◌&&◌}
use Rattle.std.specs.Cmp.{IsTotalOrder, eq_by_cmp_equiv}
use Rattle.std.specs.Cmp.Lexicographic.{options_total}
use Rattle.std.specs.Option.{option_cmp}
use Rattle.std.specs.Ordering.{nat_cmp, ordering_then, is_eq, is_lt}
use Rattle.std.specs.declared.cmp.Ordering.{Ordering}
use Rattle.std.specs.declared.cmp.Ordering.TheVariants.{Less, Equal, Greater}
use Rattle.std.specs.FinMap.{FinMap, entries, get, from_entries, get-from_entries, get-entries, entries_sorted}
use Rattle.std.specs.FinMap.Entries.{find, is_sorted, below_all, same_entries}
use Rattle.std.proofs.lemmas.Cmp.{nat_cmp_total, on_total, then_total}
use Rattle.std.proofs.lemmas.Map.Lookups.{CmpEqualImpliesEq, exact_unsigned, exact_pairs}
use Rattle.flow_measure.specs.declared.rows.Key.{Key}
use Rattle.flow_measure.specs.declared.rows.Sums.{Sums}
use Rattle.flow_measure.specs.Sums.{key_cmp, is_key, under, some_total}
use Rattle.flow_measure.proofs.Keys.{same_key, is_key-refl}
use Rattle.flow_measure.proofs.Gathering.{sum_at}
use Rattle.flow_rolled.specs.Rows.{protocol_rank, file_cmp, in_file_order}

pub file_total : IsTotalOrder file_cmp
file_total = then_total (on_total (λ k. k.domain) nat_cmp_total)
    (then_total (on_total (λ k. protocol_rank k.protocol) nat_cmp_total)
    (then_total (on_total (λ k. k.start) nat_cmp_total) (on_total (λ k. k.protocol) (options_total nat_cmp_total))))

exact_options : CmpEqualImpliesEq (option_cmp nat_cmp)
exact_options None None h = refl
exact_options None (Some y) h = absurd cc
exact_options (Some x) None h = absurd cc
exact_options (Some x) (Some y) h = ap Some (exact_unsigned x y h)

abbrev Last : Type 0
Last = ℕ × Option ℕ

abbrev Tail : Type 0
Tail = ℕ × Last

abbrev last_cmp : Last → Last → Ordering
last_cmp x y = ordering_then (nat_cmp x.0 y.0) (option_cmp nat_cmp x.1 y.1)

abbrev tail_cmp : Tail → Tail → Ordering
tail_cmp x y = ordering_then (nat_cmp x.0 y.0) (last_cmp x.1 y.1)

-- keys that tie in the file's order are one
pub exact_file : CmpEqualImpliesEq file_cmp
exact_file a b h = ap (λ (p : ℕ × Tail). record { start = ((p.1).1).0; domain = p.0; protocol = ((p.1).1).1 })
    (exact_pairs nat_cmp tail_cmp exact_unsigned
    (exact_pairs nat_cmp last_cmp exact_unsigned
    (exact_pairs nat_cmp (option_cmp nat_cmp) exact_unsigned exact_options)) (
      a.domain,
      (protocol_rank a.protocol, (a.start, a.protocol)),
    ) (b.domain, (protocol_rank b.protocol, (b.start, b.protocol))) h)

pub equal : (o : Ordering) → is_eq o ≡ true → o ≡ Equal
equal Less h = absurd cc
equal Equal h = refl
equal Greater h = absurd cc

abbrev is_file : Key → Key → Bool
is_file a b = is_eq (file_cmp a b)

pub file_refl : (a : Key) → is_file a a ≡ true
file_refl a = (eq_by_cmp_equiv file_total).refl a

-- both orders tie alike
pub ties : (a b : Key) → is_file a b ≡ is_key a b
ties a b = elim (is_file a b) as (λ t. is_file a b ≡ t → t ≡ is_key a b) [
  | true ↦ λ e. let same : a ≡ b = exact_file a b (equal (file_cmp a b) e) in sym (is_key-refl a) ∙ ap (is_key a) same
  | false ↦ λ e. elim (is_key a b) as (λ t. is_key a b ≡ t → false ≡ t) [
    | true ↦ λ k. absurd (let same : a ≡ b = same_key a b k in let yes : is_file a b ≡ true = ap (is_file a) (sym same)
        ∙ file_refl a in cc)
    | false ↦ λ k. refl
  ] refl
] refl

pub find_alike : (q : Key) (es : List (Key × Sums)) → find file_cmp q es ≡ find key_cmp q es
find_alike q [] = refl
find_alike q (e ∷ es) = ap (λ t. cond t (Some e.1) (find file_cmp q es)) (ties q e.0)
    ∙ ap (cond (is_key q e.0) (Some e.1)) (find_alike q es)

pub first : (a b : Bool) → T (a && b) → T a
first true b p = tt
first false b p = p

pub second : (a b : Bool) → T (a && b) → T b
second true b p = p
second false b p = absurd p

less : (o : Ordering) → T (is_lt o) → is_eq o ≡ false
less Less p = refl
less Equal p = absurd p
less Greater p = absurd p

none_past : (q : Key) (es : List (Key × Sums)) → T (below_all file_cmp q es) → under q es ≡ []
none_past q [] h = refl
none_past q (e ∷ es) h = rw (sym (ties q e.0) ∙ less (file_cmp q e.0) (first _ _ h)) (none_past q es (second _ _ h))

-- in a list in the file's order, the sums under a key are those that are found there
pub sum_at-file : (q : Key) (es : List (Key × Sums)) → T (is_sorted file_cmp es) → sum_at q es ≡ find key_cmp q es
sum_at-file q [] h = refl
sum_at-file q (e ∷ es) h =
    elim (is_key q e.0) as (λ b. is_key q e.0 ≡ b
    → some_total (map (λ (f : Key × Sums). f.1)
    (cond b (e ∷ filter (λ (f : Key × Sums). is_key q f.0) es) (filter (λ (f : Key × Sums). is_key q f.0) es)))
    ≡ cond b (Some e.1) (find key_cmp q es)) [
      | true ↦ λ w. let none : under q es ≡ [] =
          none_past q es (subst (λ k. T (below_all file_cmp k es)) (sym (same_key q e.0 w)) (first _ _ h)) in
          rw (none, zero-add (e.1).flows, zero-add (e.1).octets, zero-add (e.1).packets) refl
      | false ↦ λ w. sum_at-file q es (second _ _ h)
    ] refl

-- ---- a map in the file's order

pub order_sorted : (m : FinMap key_cmp Sums) → T (is_sorted file_cmp (in_file_order m))
order_sorted m = entries_sorted (from_entries {R = file_cmp} (entries m))

pub order_finds : (m : FinMap key_cmp Sums) (q : Key) → find key_cmp q (in_file_order m) ≡ get m q
order_finds m q = sym (find_alike q (in_file_order m)) ∙ sym (get-entries (from_entries {R = file_cmp} (entries m)) q)
    ∙ get-from_entries file_total (entries m) q ∙ find_alike q (entries m) ∙ sym (get-entries m q)

pub order_sums : (m : FinMap key_cmp Sums) (q : Key) → sum_at q (in_file_order m) ≡ get m q
order_sums m q = sum_at-file q (in_file_order m) (order_sorted m) ∙ order_finds m q

-- a list in the file's order with a map's sums is the map's
pub same_order : (m : FinMap key_cmp Sums) (es : List (Key × Sums)) → T (is_sorted file_cmp es)
    → ((q : Key) → sum_at q es ≡ get m q) → in_file_order m ≡ es
same_order m es sorted is =
    same_entries file_cmp file_total exact_file (in_file_order m) es (order_sorted m) sorted (λ q.
    find_alike q (in_file_order m) ∙ order_finds m q ∙ sym (is q) ∙ sum_at-file q es sorted ∙ sym (find_alike q es))
