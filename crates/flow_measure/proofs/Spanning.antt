-- Spans of flows, and what they show of sums.
use Rattle.std.proofs.Common.{◌≡◌, ℕ, zero, suc, Bool, true, false, cond, T, ◌+◌, ◌-◌, ◌*◌, ◌/◌, ◌%◌, ◌<◌, ◌≤◌, List, []}
use Rattle.std.proofs.Common.{◌∷◌, ◌++◌, length, map, Option, Some, None, refl, sym, ap, subst, ◌∙◌, arith, true≢false}
use Rattle.std.proofs.Common.{le_trans, div-mul-le_self, mul-le-mul_right}
use Rattle.std.proofs.lemmas.Nat.{le-div}
use Rattle.std.proofs.lemmas.Bool.{leb-true, ltb-true, eqb-true}
use Rattle.std.specs.Prelude.{filter, nat_le, nat_lt, ◌&&◌, ◌||◌, ◌==◌, min, max, IfSome, ◌⊎◌}
use Rattle.std.specs.List.{AllByRecursion}
use Rattle.std.specs.List.Sorted.{IsStrictlySortedBy}
use Rattle.std.specs.Map.{keys_of}
use Rattle.std.specs.Ordering.{is_le, is_lt}
use Rattle.std.specs.declared.cmp.Ordering.{Ordering}
use Rattle.std.specs.declared.cmp.Ordering.TheVariants.{Less, Equal, Greater}
use Rattle.std.specs.FinMap.{FinMap, entries, entries_sorted, from_entries, get, get-entries, get-from_entries}
use Rattle.std.specs.FinMap.Entries.{find, is_sorted, below_all}
use Rattle.flow_measure.specs.declared.flow.Flow.{Flow}
use Rattle.flow_measure.specs.declared.rows.Key.{Key}
use Rattle.flow_measure.specs.declared.rows.Row.{Row}
use Rattle.flow_measure.specs.declared.rows.Sums.{Sums}
use Rattle.flow_measure.specs.declared.span.PartSpan.{PartSpan}
use Rattle.flow_measure.specs.Query.{interleaved, rows_of_both}
use Rattle.flow_measure.specs.Span.{is_outside, no_span, span_of, starts_in, starts_of, with_start, with_starts}
use Rattle.flow_measure.specs.Span.{AreSameWithin, HasNoneWithin}
use Rattle.flow_measure.specs.Sums.{counted, gathered, interval_of, is_key, is_within, key_cmp, key_of, merged, Table}
use Rattle.flow_measure.specs.Sums.{rows_between, some_total, sums_by, table_row}
use Rattle.flow_measure.proofs.Gathering.{first, second, get-gathered, joined, same_sums, sum_at-append, sum_at-entries}
use Rattle.flow_measure.proofs.Intervals.{interval_by}
use Rattle.flow_measure.proofs.Keys.{keys_total, same_key}
use Rattle.flow_measure.proofs.SumLaws.{get-sums_by}
use Rattle.flow_measure.proofs.Viewing.{entries_are}

-- ---- what a span covers

pub grows : (s : PartSpan) (xs : List ℕ)
    → ((with_starts s xs).first ≤ s.first) × (s.last ≤ (with_starts s xs).last)
grows s [] = (omega arith, omega arith)
grows s (x ∷ xs) = let more = grows (with_start x s) xs in (omega (arith, more.0), omega (arith, more.1))

-- no start is before the first one or after the last one
pub covered : (s : PartSpan) (xs : List ℕ)
    → AllByRecursion (λ x. ((with_starts s xs).first ≤ x) × (x ≤ (with_starts s xs).last)) xs
covered s [] = tt
covered s (x ∷ xs) =
    let more = grows (with_start x s) xs in
    ((omega (arith, more.0), omega (arith, more.1)), covered (with_start x s) xs)

-- ---- outside

-- an interval doesn't start before that of an earlier moment
pub not_later : (a b w : ℕ) → 0 < w → a ≤ b → interval_of a w ≤ interval_of b w
not_later a b w some le =
    let fewer : a / w ≤ b / w = le-div (a / w) b w some (le_trans (div-mul-le_self a w) le) in
    let most : a / w * w ≤ b / w * w = mul-le-mul_right w fewer in
    subst (λ (n : ℕ). n ≤ interval_of b w) (sym (interval_by a w))
    (subst (λ (n : ℕ). a / w * w ≤ n) (sym (interval_by b w)) most)

and_false : (a : Bool) → (a && false) ≡ false
and_false true = refl
and_false false = refl

early : (from to n : ℕ) → n < from → (nat_le from n && nat_lt n to) ≡ false
early from to n less = elim (nat_le from n) as (λ b. nat_le from n ≡ b → (b && nat_lt n to) ≡ false) [
  | true ↦ λ w. absurd (omega (arith, less, leb-true from n w))
  | false ↦ λ w. refl
] refl

late : (from to n : ℕ) → to ≤ n → (nat_le from n && nat_lt n to) ≡ false
late from to n more = elim (nat_lt n to) as (λ b. nat_lt n to ≡ b → (nat_le from n && b) ≡ false) [
  | true ↦ λ w. absurd (omega (arith, more, ltb-true n to w))
  | false ↦ λ w. and_false (nat_le from n)
] refl

apart : (width from to : ℕ) (s : PartSpan) (x : ℕ) → 0 < width → is_outside width from to s ≡ true
    → (s.first ≤ x) × (x ≤ s.last) → (nat_le from (interval_of x width) && nat_lt (interval_of x width) to) ≡ false
apart width from to s x some out within =
    let n = interval_of x width in
    let lasts = interval_of s.last width in
    let firsts = interval_of s.first width in
    elim (nat_lt s.last s.first) as (λ a. nat_lt s.last s.first ≡ a
    → ((a || nat_lt lasts from) || nat_le to firsts) ≡ true → (nat_le from n && nat_lt n to) ≡ false) [
      | true ↦ λ w k. absurd (omega (arith, ltb-true s.last s.first w, within.0, within.1))
      | false ↦ λ w k. elim (nat_lt lasts from) as (λ b. nat_lt lasts from ≡ b → (b || nat_le to firsts) ≡ true
          → (nat_le from n && nat_lt n to) ≡ false) [
            | true ↦ λ v l. early from to n
                (omega (arith, ltb-true lasts from v, not_later x s.last width some within.1))
            | false ↦ λ v l. late from to n
                (omega (arith, leb-true to firsts l, not_later s.first x width some within.0))
          ] refl k
    ] refl out

module _ (width from to : ℕ) (some : 0 < width) where
  abbrev IsApart : ℕ → Type 0
  IsApart x = (nat_le from (interval_of x width) && nat_lt (interval_of x width) to) ≡ false

  all_within : (s : PartSpan) → is_outside width from to s ≡ true → (xs : List ℕ)
      → AllByRecursion (λ x. (s.first ≤ x) × (x ≤ s.last)) xs → AllByRecursion IsApart xs
  all_within s out [] h = tt
  all_within s out (x ∷ xs) h = (apart width from to s x some out h.0, all_within s out xs h.1)

  pub all_apart : (xs : List ℕ) → is_outside width from to (span_of xs) ≡ true → AllByRecursion IsApart xs
  all_apart xs out = all_within (span_of xs) out xs (covered no_span xs)

  -- ---- sums of flows

  none_of : (key : Key) → is_within from to key ≡ true → (flows : List Flow)
      → AllByRecursion IsApart (starts_of flows) → filter (λ f. is_key key (key_of width f)) flows ≡ []
  none_of key within [] h = refl
  none_of key within (f ∷ fs) h =
      elim (is_key key (key_of width f)) as (λ b. is_key key (key_of width f) ≡ b
      → cond b (f ∷ filter (λ (g : Flow). is_key key (key_of width g)) fs)
      (filter (λ (g : Flow). is_key key (key_of width g)) fs) ≡ []) [
        | true ↦ λ w. absurd (true≢false (sym within
            ∙ ap (λ (k : Key). is_within from to k) (same_key key (key_of width f) w) ∙ h.0))
        | false ↦ λ w. none_of key within fs h.1
      ] refl

  pub none_within : (flows : List Flow) → is_outside width from to (span_of (starts_of flows)) ≡ true
      → HasNoneWithin from to (sums_by width flows)
  none_within flows out = λ key within.
      get-sums_by width flows key
      ∙ ap (λ (fs : List Flow). some_total (map counted fs))
      (none_of key within flows (all_apart (starts_of flows) out))

  -- ---- sums by key

  at_start : (P : ℕ → Type 0) (key : Key) (es : List (Key × Sums)) → AllByRecursion P (map (λ e. e.0.start) es)
      → IfSome (find key_cmp key es) (λ _. P key.start)
  at_start P key [] h = tt
  at_start P key (e ∷ es) h =
      elim (is_key key e.0) as (λ b. is_key key e.0 ≡ b
      → IfSome (cond b (Some e.1) (find key_cmp key es)) (λ _. P key.start)) [
        | true ↦ λ w. subst (λ (k : Key). P k.start) (sym (same_key key e.0 w)) h.0
        | false ↦ λ w. at_start P key es h.1
      ] refl

  none_there : (key : Key) (o : Option Sums) → is_within from to key ≡ true → IfSome o (λ _. IsApart key.start)
      → IfSome o (λ _. key.start % width ≡ 0) → o ≡ None
  none_there key None within h k = refl
  none_there key (Some s) within h k =
      let own : interval_of key.start width ≡ key.start = omega (arith, k) in
      absurd (true≢false (sym within
      ∙ sym (ap (λ (n : ℕ). nat_le from n && nat_lt n to) own) ∙ h))

  pub none_among : (sums : FinMap key_cmp Sums) → is_outside width from to (span_of (starts_in sums)) ≡ true
      → ((key : Key) → IfSome (get sums key) (λ _. key.start % width ≡ 0)) → HasNoneWithin from to sums
  none_among sums out aligned = λ key within.
      none_there key (get sums key) within
      (subst (λ (o : Option Sums). IfSome o (λ _. IsApart key.start)) (sym (get-entries sums key))
      (at_start IsApart key (entries sums) (all_apart (starts_in sums) out)))
      (aligned key)

-- ---- flows by themselves

own_second : (n : ℕ) → interval_of n 1 ≡ n
own_second n = omega arith

none_chosen : (from to : ℕ) (flows : List Flow)
    → AllByRecursion (λ x. (nat_le from (interval_of x 1) && nat_lt (interval_of x 1) to) ≡ false) (starts_of flows)
    → filter (λ f. nat_le from f.start && nat_lt f.start to) flows ≡ []
none_chosen from to [] h = refl
none_chosen from to (f ∷ fs) h =
    let out : (nat_le from f.start && nat_lt f.start to) ≡ false =
    sym (ap (λ (n : ℕ). nat_le from n && nat_lt n to) (own_second f.start)) ∙ h.0 in
    let rest = filter (λ (g : Flow). nat_le from g.start && nat_lt g.start to) fs in
    ap (λ (b : Bool). cond b (f ∷ rest) rest) out ∙ none_chosen from to fs h.1

pub no_flow : (from to : ℕ) (flows : List Flow) → is_outside 1 from to (span_of (starts_of flows)) ≡ true
    → filter (λ f. nat_le from f.start && nat_lt f.start to) flows ≡ []
no_flow from to flows out = none_chosen from to flows (all_apart 1 from to (omega arith) (starts_of flows) out)

-- ---- rows

lesser : (o : Ordering) → T (is_lt o) → o ≡ Less
lesser Less h = refl
lesser Equal h = absurd h
lesser Greater h = absurd h

module _ (p : Key → Bool) where
  abbrev kept : List (Key × Sums) → List (Key × Sums)
  kept es = filter (λ (e : Key × Sums). p e.0) es

  kept_below : (key : Key) (es : List (Key × Sums)) → T (below_all key_cmp key es)
      → AllByRecursion (λ y. key_cmp key y ≡ Less) (keys_of (kept es))
  kept_below key [] h = tt
  kept_below key (e ∷ es) h =
      elim (p e.0) as (λ b. AllByRecursion (λ y. key_cmp key y ≡ Less) (keys_of (cond b (e ∷ kept es) (kept es)))) [
        | true ↦ (lesser (key_cmp key e.0) (first _ _ h), kept_below key es (second _ _ h))
        | false ↦ kept_below key es (second _ _ h)
      ]

  kept_sorted : (es : List (Key × Sums)) → T (is_sorted key_cmp es) → IsStrictlySortedBy key_cmp (keys_of (kept es))
  unfolding IsStrictlySortedBy
  kept_sorted [] h = tt
  kept_sorted (e ∷ es) h =
      elim (p e.0) as (λ b. IsStrictlySortedBy key_cmp (keys_of (cond b (e ∷ kept es) (kept es)))) [
        | true ↦ (kept_below e.0 es (first _ _ h), kept_sorted es (second _ _ h))
        | false ↦ kept_sorted es (second _ _ h)
      ]

  found_kept : (q : Key) → p q ≡ true → (es : List (Key × Sums)) → find key_cmp q (kept es) ≡ find key_cmp q es
  found_kept q is [] = refl
  found_kept q is (e ∷ es) =
      elim (is_key q e.0) as (λ a. is_key q e.0 ≡ a
      → find key_cmp q (cond (p e.0) (e ∷ kept es) (kept es)) ≡ cond a (Some e.1) (find key_cmp q es)) [
        | true ↦ λ w.
            let here : p e.0 ≡ true = sym (ap p (same_key q e.0 w)) ∙ is in
            ap (λ (b : Bool). find key_cmp q (cond b (e ∷ kept es) (kept es))) here
            ∙ ap (λ (a : Bool). cond a (Some e.1) (find key_cmp q (kept es))) w
        | false ↦ λ w. elim (p e.0) as (λ b. find key_cmp q (cond b (e ∷ kept es) (kept es)) ≡ find key_cmp q es) [
          | true ↦ ap (λ (a : Bool). cond a (Some e.1) (find key_cmp q (kept es))) w ∙ found_kept q is es
          | false ↦ found_kept q is es
        ]
      ] refl

  none_kept : (q : Key) → p q ≡ false → (es : List (Key × Sums)) → find key_cmp q (kept es) ≡ None
  none_kept q is [] = refl
  none_kept q is (e ∷ es) =
      elim (p e.0) as (λ b. p e.0 ≡ b → find key_cmp q (cond b (e ∷ kept es) (kept es)) ≡ None) [
        | true ↦ λ v. elim (is_key q e.0) as (λ a. is_key q e.0 ≡ a
            → cond a (Some e.1) (find key_cmp q (kept es)) ≡ None) [
              | true ↦ λ w. absurd (true≢false (sym v ∙ sym (ap p (same_key q e.0 w)) ∙ is))
              | false ↦ λ w. none_kept q is es
            ] refl
        | false ↦ λ v. none_kept q is es
      ] refl

  same_kept : (m n : FinMap key_cmp Sums) → ((q : Key) → p q ≡ true → get m q ≡ get n q)
      → kept (entries m) ≡ kept (entries n)
  same_kept m n same =
      sym (entries_are (kept (entries m)) (kept_sorted (entries m) (entries_sorted m)))
      ∙ ap entries (same_sums (from_entries {R = key_cmp} (kept (entries m)))
      (from_entries {R = key_cmp} (kept (entries n))) alike)
      ∙ entries_are (kept (entries n)) (kept_sorted (entries n) (entries_sorted n))
    where
      alike : (q : Key) → get (from_entries {R = key_cmp} (kept (entries m))) q
          ≡ get (from_entries {R = key_cmp} (kept (entries n))) q
      alike q =
          get-from_entries keys_total (kept (entries m)) q
          ∙ elim (p q) as (λ b. p q ≡ b → find key_cmp q (kept (entries m)) ≡ find key_cmp q (kept (entries n))) [
            | true ↦ λ w. found_kept q w (entries m) ∙ sym (get-entries m q) ∙ same q w ∙ get-entries n q
                ∙ sym (found_kept q w (entries n))
            | false ↦ λ w. none_kept q w (entries m) ∙ sym (none_kept q w (entries n))
          ] refl
          ∙ sym (get-from_entries keys_total (kept (entries n)) q)

pub same_rows : (from to : ℕ) (t u : Table) → t.width ≡ u.width → AreSameWithin from to t.sums u.sums
    → rows_between from to t ≡ rows_between from to u
same_rows from to t u width same =
    ap (map (table_row t.width)) (same_kept (is_within from to) t.sums u.sums same)
    ∙ ap (λ (w : ℕ). map (table_row w) (filter (λ (e : Key × Sums). is_within from to e.0) (entries u.sums))) width

-- ---- of two tables

pub merged_at : (a b : Table) (q : Key) → get (merged a b).sums q ≡ joined (get a.sums q) (get b.sums q)
merged_at a b q =
    get-gathered (entries a.sums ++ entries b.sums) q ∙ sum_at-append q (entries a.sums) (entries b.sums)
    ∙ (λ i. joined (sum_at-entries a.sums q i) (sum_at-entries b.sums q i))

enough : (m n : ℕ) (rows others : List Row) → length rows + length others ≤ m → length rows + length others ≤ n
    → interleaved m rows others ≡ interleaved n rows others
enough zero zero rows others h k = refl
enough zero (suc n) [] others h k = refl
enough zero (suc n) (r ∷ rows) others h k = absurd (omega (arith, h))
enough (suc m) zero [] others h k = refl
enough (suc m) zero (r ∷ rows) others h k = absurd (omega (arith, k))
enough (suc m) (suc n) [] others h k = refl
enough (suc m) (suc n) (r ∷ rows) [] h k = refl
enough (suc m) (suc n) (r ∷ rows) (o ∷ others) h k =
    elim (is_le (key_cmp r.key o.key)) as (λ b.
    cond b (r ∷ interleaved m rows (o ∷ others)) (o ∷ interleaved m (r ∷ rows) others)
    ≡ cond b (r ∷ interleaved n rows (o ∷ others)) (o ∷ interleaved n (r ∷ rows) others)) [
      | true ↦ ap (λ (rs : List Row). r ∷ rs) (enough m n rows (o ∷ others) (omega (arith, h)) (omega (arith, k)))
      | false ↦ ap (λ (rs : List Row). o ∷ rs) (enough m n (r ∷ rows) others (omega (arith, h)) (omega (arith, k)))
    ]

few : (width from to : ℕ) (es : List (Key × Sums))
    → length (map (table_row width) (filter (λ (e : Key × Sums). is_within from to e.0) es)) ≤ length es
few width from to [] = omega arith
few width from to (e ∷ es) =
    let fewer = few width from to es in
    elim (is_within from to e.0) as (λ b. length (map (table_row width)
    (cond b (e ∷ filter (λ (e : Key × Sums). is_within from to e.0) es)
    (filter (λ (e : Key × Sums). is_within from to e.0) es))) ≤ length (e ∷ es)) [
      | true ↦ omega (arith, fewer)
      | false ↦ omega (arith, fewer)
    ]

module _ (from to : ℕ) (narrow wide others wide_others : Table) (n : narrow.width ≡ others.width)
    (w : wide.width ≡ wide_others.width) (same : AreSameWithin from to narrow.sums others.sums)
    (same_wide : AreSameWithin from to wide.sums wide_others.sums) where
  same_merged : AreSameWithin from to (merged narrow wide).sums (merged others wide_others).sums
  same_merged q within =
      merged_at narrow wide q ∙ (λ i. joined (same q within i) (same_wide q within i))
      ∙ sym (merged_at others wide_others q)

  same_interleaved : interleaved (length (entries narrow.sums) + length (entries wide.sums))
      (rows_between from to narrow) (rows_between from to wide)
      ≡ interleaved (length (entries others.sums) + length (entries wide_others.sums))
      (rows_between from to others) (rows_between from to wide_others)
  same_interleaved =
      let rows = same_rows from to narrow others n same in
      let wide_rows = same_rows from to wide wide_others w same_wide in
      let k = length (entries narrow.sums) + length (entries wide.sums) in
      let m = length (entries others.sums) + length (entries wide_others.sums) in
      let a = few narrow.width from to (entries narrow.sums) in
      let b = few wide.width from to (entries wide.sums) in
      let c = few others.width from to (entries others.sums) in
      let d = few wide_others.width from to (entries wide_others.sums) in
      enough k m (rows_between from to narrow) (rows_between from to wide) (omega (arith, a, b))
      (omega (arith, c, d, ap length rows, ap length wide_rows))
      ∙ (λ i. interleaved m (rows i) (wide_rows i))

  pub same_both : rows_of_both from to narrow wide ≡ rows_of_both from to others wide_others
  same_both =
      elim (others.width == wide_others.width) as (λ b. (others.width == wide_others.width) ≡ b
      → rows_of_both from to narrow wide
      ≡ cond b (rows_between from to (merged others wide_others))
      (interleaved (length (entries others.sums) + length (entries wide_others.sums)) (rows_between from to others)
      (rows_between from to wide_others))) [
        | true ↦ λ v.
            ap (λ (b : Bool). cond b (rows_between from to (merged narrow wide))
            (interleaved (length (entries narrow.sums) + length (entries wide.sums)) (rows_between from to narrow)
            (rows_between from to wide))) ((λ i. n i == w i) ∙ v)
            ∙ same_rows from to (merged narrow wide) (merged others wide_others) n same_merged
        | false ↦ λ v.
            ap (λ (b : Bool). cond b (rows_between from to (merged narrow wide))
            (interleaved (length (entries narrow.sums) + length (entries wide.sums)) (rows_between from to narrow)
            (rows_between from to wide))) ((λ i. n i == w i) ∙ v)
            ∙ same_interleaved
      ] refl
