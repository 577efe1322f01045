-- Rows of two lists in order, interleaved: a stable sort of the one list and then the other.
use Rattle.std.proofs.Common.{◌≡◌, ℕ, zero, suc, ◌+◌, ◌≤◌, ◌<◌, true, false, cond, List, [], ◌∷◌, ◌++◌, map, length}
use Rattle.std.proofs.Common.{refl, sym, ap, subst, ◌∙◌, arith, T, slice_index_or, eqb-true}
use Rattle.std.specs.Prelude.{Bool, filter, not, ◌&&◌, ◌==◌, ◌≢◌}
use Rattle.std.specs.Cmp.{IsStrictWeakOrder}
use Rattle.std.specs.List.{AllByRecursion}
use Rattle.std.specs.List.Sorted.{IsSortedBy, IsPermutation, IsStableBy, ties}
use Rattle.std.specs.FinMap.{entries, entries_sorted}
use Rattle.std.specs.FinMap.Entries.{is_sorted, below_all}
use Rattle.std.specs.Ordering.{is_le, is_lt, ordering_reverse}
use Rattle.std.specs.declared.cmp.Ordering.{Ordering}
use Rattle.std.specs.declared.cmp.Ordering.TheVariants.{Less, Equal, Greater}
use Rattle.std.proofs.lemmas.List.{append-nil}
use Rattle.std.proofs.lemmas.List.Elements.{filter-append, recursion_from_All}
use Rattle.std.proofs.lemmas.List.Sorted.{IsPermutation-refl, IsPermutation-cons, IsPermutation-middle}
use Rattle.std.proofs.lemmas.List.Sorted.{IsPermutation-trans, ranks_by, sorted_far}
use Rattle.flow_measure.specs.declared.rows.Key.{Key}
use Rattle.flow_measure.specs.declared.rows.Row.{Row}
use Rattle.flow_measure.specs.declared.rows.Sums.{Sums}
use Rattle.flow_measure.specs.Query.{interleaved, rows_of_both}
use Rattle.flow_measure.specs.Sums.{Table, key_cmp, merged, rows_between, table_row, is_within}
use Rattle.flow_measure.proofs.Gathering.{first, second}
use Rattle.flow_measure.proofs.Keys.{keys_total}

-- whether the one row's key is below the other's
abbrev pub before : Row → Row → Bool
before x y = is_lt (key_cmp x.key y.key)

order : IsStrictWeakOrder before
order = ranks_by keys_total (λ (r : Row). r.key)

-- no row is below one that it follows
abbrev Rising : List Row → Type 0
Rising [] = Unit {0}
Rising (r ∷ rows) = AllByRecursion (λ s. before s r ≡ false) rows × Rising rows

rising : (rows : List Row) → IsSortedBy before rows → Rising rows
rising [] h = tt
rising (r ∷ rows) h = (
  recursion_from_All (λ s. before s r ≡ false) rows
      (λ k d less. sorted_far before order (r ∷ rows) h 0 (suc k) d (omega arith) (omega arith)),
  rising rows (λ k d low high.
      let more : suc k + 1 ≡ suc (k + 1) = omega arith in
      subst (λ n. before (slice_index_or (r ∷ rows) n d) (slice_index_or rows k d) ≡ false) more
      (h (suc k) d (omega arith) (omega arith))),
)

next_not_below : (r : Row) (rows : List Row) → Rising (r ∷ rows) → (k : ℕ) (d : Row) → k + 1 < length (r ∷ rows)
    → before (slice_index_or (r ∷ rows) (k + 1) d) (slice_index_or (r ∷ rows) k d) ≡ false
next_not_below r [] h k d high = absurd (omega arith)
next_not_below r (s ∷ rows) h zero d high = (h.0).0
next_not_below r (s ∷ rows) h (suc k) d high =
    let more : suc k + 1 ≡ suc (k + 1) = omega arith in
    subst (λ n. before (slice_index_or (r ∷ s ∷ rows) n d) (slice_index_or (s ∷ rows) k d) ≡ false) (sym more)
    (next_not_below s rows h.1 k d (omega arith))

sorted_from_rising : (rows : List Row) → Rising rows → IsSortedBy before rows
sorted_from_rising [] h k d low high = absurd (omega arith)
sorted_from_rising (r ∷ rows) h k d low high = next_not_below r rows h k d high

-- ---- of two rows

not_below : (o : Ordering) → is_le o ≡ true → is_lt (ordering_reverse o) ≡ false
not_below Less h = refl
not_below Equal h = refl
not_below Greater h = absurd cc

below : (o : Ordering) → is_le o ≡ false → is_lt (ordering_reverse o) ≡ true
below Less h = absurd cc
below Equal h = absurd cc
below Greater h = refl

not_above : (o : Ordering) → is_le o ≡ false → is_lt o ≡ false
not_above Less h = absurd cc
not_above Equal h = absurd cc
not_above Greater h = refl

turned : (r o : Row) → before o r ≡ is_lt (ordering_reverse (key_cmp r.key o.key))
turned r o = ap is_lt (keys_total.antisymm o.key r.key)

-- what is not below one row is not below another that is not above it
all_from : (r o : Row) (rows : List Row) → before r o ≡ false → AllByRecursion (λ s. before s r ≡ false) rows
    → AllByRecursion (λ s. before s o ≡ false) rows
all_from r o [] h all = tt
all_from r o (s ∷ rows) h all = (order.chain s r o all.0 h, all_from r o rows h all.1)

-- ---- all rows, and their order

both_all : (P : Row → Type 0) (rows others : List Row) → AllByRecursion P rows → AllByRecursion P others
    → AllByRecursion P (rows ++ others)
both_all P [] others h g = g
both_all P (r ∷ rows) others h g = (h.0, both_all P rows others h.1 g)

all_interleaved : (P : Row → Type 0) (n : ℕ) (rows others : List Row) → AllByRecursion P rows
    → AllByRecursion P others → AllByRecursion P (interleaved n rows others)
all_interleaved P zero rows others h g = both_all P rows others h g
all_interleaved P (suc n) [] others h g = g
all_interleaved P (suc n) (r ∷ rows) [] h g = h
all_interleaved P (suc n) (r ∷ rows) (o ∷ others) h g =
    elim (is_le (key_cmp r.key o.key)) as (λ b.
    AllByRecursion P (cond b (r ∷ interleaved n rows (o ∷ others)) (o ∷ interleaved n (r ∷ rows) others))) [
      | true ↦ (h.0, all_interleaved P n rows (o ∷ others) h.1 g)
      | false ↦ (g.0, all_interleaved P n (r ∷ rows) others h g.1)
    ]

rising_interleaved : (n : ℕ) (rows others : List Row) → length rows + length others ≤ n → Rising rows → Rising others
    → Rising (interleaved n rows others)
rising_interleaved zero [] [] enough h g = tt
rising_interleaved zero [] (o ∷ others) enough h g = absurd (omega arith)
rising_interleaved zero (r ∷ rows) others enough h g = absurd (omega arith)
rising_interleaved (suc n) [] others enough h g = g
rising_interleaved (suc n) (r ∷ rows) [] enough h g = h
rising_interleaved (suc n) (r ∷ rows) (o ∷ others) enough h g =
    elim (is_le (key_cmp r.key o.key)) as (λ b. is_le (key_cmp r.key o.key) ≡ b
    → Rising (cond b (r ∷ interleaved n rows (o ∷ others)) (o ∷ interleaved n (r ∷ rows) others))) [
      | true ↦ λ w. let later = turned r o ∙ not_below (key_cmp r.key o.key) w in (
        all_interleaved (λ s. before s r ≡ false) n rows (o ∷ others) h.0 (later, all_from o r others later g.0),
        rising_interleaved n rows (o ∷ others) (omega arith) h.1 g,
      )
      | false ↦ λ w. let later = not_above (key_cmp r.key o.key) w in (
        all_interleaved (λ s. before s o ≡ false) n (r ∷ rows) others (later, all_from r o rows later h.0) g.0,
        rising_interleaved n (r ∷ rows) others (omega arith) h g.1,
      )
    ] refl

pub sorted_interleaved : (n : ℕ) (rows others : List Row) → length rows + length others ≤ n → IsSortedBy before rows
    → IsSortedBy before others → IsSortedBy before (interleaved n rows others)
sorted_interleaved n rows others enough h g = sorted_from_rising (interleaved n rows others)
    (rising_interleaved n rows others enough (rising rows h) (rising others g))

pub permutation : (n : ℕ) (rows others : List Row) → IsPermutation (rows ++ others) (interleaved n rows others)
permutation zero rows others = IsPermutation-refl (rows ++ others)
permutation (suc n) [] others = IsPermutation-refl others
permutation (suc n) (r ∷ rows) [] =
    subst (λ all. IsPermutation all (r ∷ rows)) (sym (append-nil (r ∷ rows))) (IsPermutation-refl (r ∷ rows))
permutation (suc n) (r ∷ rows) (o ∷ others) =
    elim (is_le (key_cmp r.key o.key)) as (λ b. IsPermutation ((r ∷ rows) ++ o ∷ others)
    (cond b (r ∷ interleaved n rows (o ∷ others)) (o ∷ interleaved n (r ∷ rows) others))) [
      | true ↦ IsPermutation-cons r (rows ++ o ∷ others) (interleaved n rows (o ∷ others))
          (permutation n rows (o ∷ others))
      | false ↦ IsPermutation-trans ((r ∷ rows) ++ o ∷ others) (o ∷ ((r ∷ rows) ++ others))
          (o ∷ interleaved n (r ∷ rows) others) (IsPermutation-middle (r ∷ rows) o others)
          (IsPermutation-cons o ((r ∷ rows) ++ others) (interleaved n (r ∷ rows) others)
          (permutation n (r ∷ rows) others))
    ]

-- ---- rows of one key

no_tie : (a b : Bool) → b ≡ true → (not a && not b) ≡ false
no_tie true b h = refl
no_tie false b h = rw h refl

none_ties : (x : Row) (rows : List Row) → AllByRecursion (λ s. before x s ≡ true) rows
    → filter (ties before x) rows ≡ []
none_ties x [] h = refl
none_ties x (r ∷ rows) h =
    rw h.0 (none_ties x rows h.1)

-- a row that ties with one that is below all others is below them too
all_above : (x o : Row) (rows : List Row) → before o x ≡ false → AllByRecursion (λ s. before o s ≡ true) rows
    → AllByRecursion (λ s. before x s ≡ true) rows
all_above x o [] tie h = tt
all_above x o (r ∷ rows) tie h = (is_above (before x r) refl, all_above x o rows tie h.1)
  where
    is_above : (b : Bool) → before x r ≡ b → b ≡ true
    is_above true w = refl
    is_above false w = let not = order.chain o x r tie w in let is = h.0 in absurd cc

-- all rows of a list are above a row that is below the first of them
above : (o r : Row) (rows : List Row) → before o r ≡ true → AllByRecursion (λ s. before s r ≡ false) rows
    → AllByRecursion (λ s. before o s ≡ true) rows
above o r [] h all = tt
above o r (s ∷ rows) h all = (is_above (before o s) refl, above o r rows h all.1)
  where
    is_above : (b : Bool) → before o s ≡ b → b ≡ true
    is_above true w = refl
    is_above false w = let not = order.chain o s r w all.0 in absurd cc

-- a row goes before those that it is below
moved : (x o : Row) (rows others : List Row) → AllByRecursion (λ s. before o s ≡ true) rows
    → filter (ties before x) (rows ++ o ∷ others) ≡ filter (ties before x) (o ∷ rows ++ others)
moved x o rows others h =
    filter-append (ties before x) rows (o ∷ others) ∙ tied (before o x) refl
    ∙ sym (ap (λ all. filter (ties before x) (o ∷ []) ++ all) (filter-append (ties before x) rows others))
    ∙ sym (filter-append (ties before x) (o ∷ []) (rows ++ others))
  where
    tied : (b : Bool) → before o x ≡ b → filter (ties before x) rows ++ filter (ties before x) (o ∷ others)
        ≡ filter (ties before x) (o ∷ []) ++ (filter (ties before x) rows ++ filter (ties before x) others)
    tied true w = rw (no_tie (before x o) (before o x) w) refl
    tied false w = rw (none_ties x rows (all_above x o rows w h)) (elim (ties before x o) as (λ b.
        cond b (o ∷ filter (ties before x) others) (filter (ties before x) others)
        ≡ cond b (o ∷ []) [] ++ filter (ties before x) others) [ true ↦ refl | false ↦ refl ])

pub stable : (n : ℕ) (rows others : List Row) → IsSortedBy before rows
    → IsStableBy before (rows ++ others) (interleaved n rows others)
stable n rows others h x = same n rows others (rising rows h)
  where
    same : (n : ℕ) (rows others : List Row) → Rising rows
        → filter (ties before x) (interleaved n rows others) ≡ filter (ties before x) (rows ++ others)
    same zero rows others h = refl
    same (suc n) [] others h = refl
    same (suc n) (r ∷ rows) [] h = ap (filter (ties before x)) (sym (append-nil (r ∷ rows)))
    same (suc n) (r ∷ rows) (o ∷ others) h =
        elim (is_le (key_cmp r.key o.key)) as (λ b. is_le (key_cmp r.key o.key) ≡ b
        → filter (ties before x) (cond b (r ∷ interleaved n rows (o ∷ others)) (o ∷ interleaved n (r ∷ rows) others))
        ≡ filter (ties before x) ((r ∷ rows) ++ o ∷ others)) [
          | true ↦ λ w. ap (λ all. cond (ties before x r) (r ∷ all) all) (same n rows (o ∷ others) h.1)
          | false ↦ λ w.
              let is : before o r ≡ true = turned r o ∙ below (key_cmp r.key o.key) w in
              ap (λ all. cond (ties before x o) (o ∷ all) all) (same n (r ∷ rows) others h)
              ∙ sym (moved x o (r ∷ rows) others (is, above o r rows is h.0))
        ] refl

-- ---- of tables

below_turned : (o : Ordering) → T (is_lt o) → is_lt (ordering_reverse o) ≡ false
below_turned Less h = refl
below_turned Equal h = absurd h
below_turned Greater h = absurd h

module _ (width from to : ℕ) where
  abbrev rows_of : List (Key × Sums) → List Row
  rows_of es = map (table_row width) (filter (λ (e : Key × Sums). is_within from to e.0) es)

  rows_after : (e : Key × Sums) (es : List (Key × Sums)) → T (below_all key_cmp e.0 es)
      → AllByRecursion (λ s. before s (table_row width e) ≡ false) (rows_of es)
  rows_after e [] h = tt
  rows_after e (f ∷ es) h =
      elim (is_within from to f.0) as (λ b. AllByRecursion (λ s. before s (table_row width e) ≡ false)
      (map (table_row width)
      (cond b (f ∷ filter (λ (e : Key × Sums). is_within from to e.0) es)
      (filter (λ (e : Key × Sums). is_within from to e.0) es)))) [
        | true ↦ (
          turned (table_row width e) (table_row width f) ∙ below_turned (key_cmp e.0 f.0) (first _ _ h),
          rows_after e es (second _ _ h),
        )
        | false ↦ rows_after e es (second _ _ h)
      ]

  rows_rise : (es : List (Key × Sums)) → T (is_sorted key_cmp es) → Rising (rows_of es)
  rows_rise [] h = tt
  rows_rise (e ∷ es) h =
      elim (is_within from to e.0) as (λ b. Rising (map (table_row width)
      (cond b (e ∷ filter (λ (e : Key × Sums). is_within from to e.0) es)
      (filter (λ (e : Key × Sums). is_within from to e.0) es)))) [
        | true ↦ (rows_after e es (first _ _ h), rows_rise es (second _ _ h))
        | false ↦ rows_rise es (second _ _ h)
      ]

  fewer_rows : (es : List (Key × Sums)) → length (rows_of es) ≤ length es
  fewer_rows [] = omega arith
  fewer_rows (e ∷ es) =
      let fewer = fewer_rows es in
      elim (is_within from to e.0) as (λ b. length (map (table_row width)
      (cond b (e ∷ filter (λ (e : Key × Sums). is_within from to e.0) es)
      (filter (λ (e : Key × Sums). is_within from to e.0) es))) ≤ length (e ∷ es)) [
        | true ↦ omega (arith, fewer)
        | false ↦ omega (arith, fewer)
      ]

table_sorted : (from to : ℕ) (t : Table) → IsSortedBy before (rows_between from to t)
table_sorted from to t =
    sorted_from_rising (rows_between from to t) (rows_rise t.width from to (entries t.sums) (entries_sorted t.sums))

pub tables_sorted : (from to : ℕ) (narrow wide : Table) → IsSortedBy before (rows_of_both from to narrow wide)
tables_sorted from to narrow wide =
    let steps = length (entries narrow.sums) + length (entries wide.sums) in
    let rows = rows_between from to narrow in
    let others = rows_between from to wide in
    let few = fewer_rows narrow.width from to (entries narrow.sums) in
    let few_others = fewer_rows wide.width from to (entries wide.sums) in
    elim (narrow.width == wide.width)
    as (λ b. IsSortedBy before (cond b (rows_between from to (merged narrow wide)) (interleaved steps rows others))) [
      | true ↦ table_sorted from to (merged narrow wide)
      | false ↦ sorted_interleaved steps rows others (omega (arith, few, few_others)) (table_sorted from to narrow)
          (table_sorted from to wide)
    ]

different : (a b : ℕ) → a ≢ b → (a == b) ≡ false
different a b apart = elim (a == b) as (λ c. (a == b) ≡ c → c ≡ false) [
  | true ↦ λ w. absurd (apart (eqb-true a b w))
  | false ↦ λ w. refl
] refl

pub tables_permutation : (from to : ℕ) (narrow wide : Table) → narrow.width ≢ wide.width
    → IsPermutation (rows_between from to narrow ++ rows_between from to wide) (rows_of_both from to narrow wide)
tables_permutation from to narrow wide differ =
    rw (different narrow.width wide.width differ)
    (permutation (length (entries narrow.sums) + length (entries wide.sums)) (rows_between from to narrow)
    (rows_between from to wide))

pub tables_stable : (from to : ℕ) (narrow wide : Table) → narrow.width ≢ wide.width
    → IsStableBy before (rows_between from to narrow ++ rows_between from to wide) (rows_of_both from to narrow wide)
tables_stable from to narrow wide differ =
    rw (different narrow.width wide.width differ)
    (stable (length (entries narrow.sums) + length (entries wide.sums)) (rows_between from to narrow)
    (rows_between from to wide) (table_sorted from to narrow))
