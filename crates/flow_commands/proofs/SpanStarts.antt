-- The sums of flows show the ends of their span: where their first row and their last one start.
use Rattle.std.proofs.Common.{◌≡◌, ◌∙◌, ◌⊎◌, inl, inr, ℕ, ◌<◌, ◌≤◌, ◌^◌, true, false, cond, Bool, T, List, [], ◌∷◌, map}
use Rattle.std.proofs.Common.{Some, None, refl, sym, ap, subst, arith, le_trans}
use Rattle.std.specs.Prelude.{filter, nat_lt, ◌&&◌, ◌==◌}
use Rattle.std.specs.List.{AllByRecursion}
use Rattle.std.specs.Option.{option_cmp}
use Rattle.std.specs.Ordering.{is_lt, nat_cmp, ordering_then}
use Rattle.std.specs.declared.cmp.Ordering.TheVariants.{Less, Equal, Greater}
use Rattle.std.specs.FinMap.{entries, entries-insert, entries_sorted, from_entries}
use Rattle.std.specs.FinMap.Entries.{below_all, by_order, is_sorted, put}
use Rattle.std.proofs.lemmas.Bool.{cases_lt, eqb-true, le-leb, le-ltb, lt-ltb, ltb-true}
use Rattle.flow_measure.specs.declared.flow.Flow.{Flow}
use Rattle.flow_measure.specs.declared.rows.Key.{Key}
use Rattle.flow_measure.specs.declared.rows.Sums.{Sums}
use Rattle.flow_measure.specs.declared.span.PartSpan.{PartSpan}
use Rattle.flow_measure.specs.Span.{no_span, span_of, starts_in, with_start, with_starts}
use Rattle.flow_measure.specs.Span.{starts_of as starts}
use Rattle.flow_measure.specs.Sums.{counted, gathered, interval_of, is_within, key_cmp, key_of, sums_by, table_of}
use Rattle.flow_measure.specs.Sums.{table_row, total, under}
use Rattle.flow_measure.proofs.Gathering.{entries_of_none, first, second}
use Rattle.flow_measure.proofs.Keys.{exact_keys, keys_total}
use Rattle.flow_measure.proofs.Spanning.{covered, not_later}
use Rattle.flow_commands.specs.ArchiveFiles.{last_start, rows_in, starts_of, starts_of_span}

-- ---- the starts of sums

abbrev HoldsOne : (ℕ → Type 0) → List ℕ → Type 0
HoldsOne P [] = ⊥
HoldsOne P (x ∷ xs) = P x ⊎ HoldsOne P xs

abbrev starts_at : List (Key × Sums) → List ℕ
starts_at es = map (λ e. e.0.start) es

module _ (P : ℕ → Type 0) where
  all_put : (key : Key) (sums : Sums) (es : List (Key × Sums)) → P key.start → AllByRecursion P (starts_at es)
      → AllByRecursion P (starts_at (put key_cmp key sums es))
  all_put key sums [] p all = (p, tt)
  all_put key sums (e ∷ es) p all =
      elim (key_cmp key e.0) as (λ o. AllByRecursion P
      (starts_at (by_order o ((key, sums) ∷ e ∷ es) ((e.0, sums) ∷ es) (e ∷ put key_cmp key sums es)))) [
        | Less ↦ (p, all)
        | Equal ↦ all
        | Greater ↦ (all.0, all_put key sums es p all.1)
      ]

  all_starts : (es : List (Key × Sums)) → AllByRecursion P (starts_at es)
      → AllByRecursion P (starts_in (from_entries {R = key_cmp} es))
  all_starts [] all = subst (λ (l : List (Key × Sums)). AllByRecursion P (starts_at l)) (sym entries_of_none) tt
  all_starts (e ∷ es) all =
      subst (λ (l : List (Key × Sums)). AllByRecursion P (starts_at l))
      (sym (entries-insert keys_total (from_entries es) e.0 e.1))
      (all_put e.0 e.1 (entries (from_entries {R = key_cmp} es)) all.0 (all_starts es all.1))

  -- a key that is put in is there
  own_put : (key : Key) (sums : Sums) (es : List (Key × Sums)) → P key.start
      → HoldsOne P (starts_at (put key_cmp key sums es))
  own_put key sums [] p = inl p
  own_put key sums (e ∷ es) p =
      elim (key_cmp key e.0) as (λ o. key_cmp key e.0 ≡ o → HoldsOne P
      (starts_at (by_order o ((key, sums) ∷ e ∷ es) ((e.0, sums) ∷ es) (e ∷ put key_cmp key sums es)))) [
        | Less ↦ λ w. inl p
        | Equal ↦ λ w. inl (subst (λ (k : Key). P k.start) (exact_keys key e.0 w) p)
        | Greater ↦ λ w. inr (own_put key sums es p)
      ] refl

  -- and those that were there are
  one_put : (key : Key) (sums : Sums) (es : List (Key × Sums)) → HoldsOne P (starts_at es)
      → HoldsOne P (starts_at (put key_cmp key sums es))
  one_put key sums [] one = absurd one
  one_put key sums (e ∷ es) one =
      elim (key_cmp key e.0) as (λ o. HoldsOne P
      (starts_at (by_order o ((key, sums) ∷ e ∷ es) ((e.0, sums) ∷ es) (e ∷ put key_cmp key sums es)))) [
        | Less ↦ inr one
        | Equal ↦ one
        | Greater ↦ elim one [
          | inl here ↦ inl here
          | inr more ↦ inr (one_put key sums es more)
        ]
      ]

  one_start : (es : List (Key × Sums)) → HoldsOne P (starts_at es)
      → HoldsOne P (starts_in (from_entries {R = key_cmp} es))
  one_start [] one = absurd one
  one_start (e ∷ es) one =
      subst (λ (l : List (Key × Sums)). HoldsOne P (starts_at l))
      (sym (entries-insert keys_total (from_entries es) e.0 e.1))
      (elim one [
        | inl here ↦ own_put e.0 e.1 (entries (from_entries {R = key_cmp} es)) here
        | inr more ↦ one_put e.0 e.1 (entries (from_entries {R = key_cmp} es)) (one_start es more)
      ])

-- the starts of flows' intervals are those of their keys
keyed : (width : ℕ) (sums : Key → Sums) (flows : List Flow)
    → starts_at (map (λ (e : Key × Sums). (e.0, sums e.0)) (map (λ (f : Flow). (key_of width f, counted f)) flows))
    ≡ map (λ x. interval_of x width) (starts flows)
keyed width sums [] = refl
keyed width sums (f ∷ fs) = ap (λ (l : List ℕ). interval_of f.start width ∷ l) (keyed width sums fs)

module _ (P : ℕ → Type 0) (width : ℕ) where
  all_mapped : (xs : List ℕ) → AllByRecursion (λ x. P (interval_of x width)) xs
      → AllByRecursion P (map (λ x. interval_of x width) xs)
  all_mapped [] all = tt
  all_mapped (x ∷ xs) all = (all.0, all_mapped xs all.1)

  one_mapped : (xs : List ℕ) → HoldsOne (λ x. P (interval_of x width)) xs
      → HoldsOne P (map (λ x. interval_of x width) xs)
  one_mapped [] one = absurd one
  one_mapped (x ∷ xs) one = elim one [
    | inl here ↦ inl here
    | inr more ↦ inr (one_mapped xs more)
  ]

  all_of : (flows : List Flow) → AllByRecursion (λ x. P (interval_of x width)) (starts flows)
      → AllByRecursion P (starts_in (sums_by width flows))
  unfolding sums_by gathered
  all_of flows all =
      let es = map (λ (f : Flow). (key_of width f, counted f)) flows in
      let sums = λ (k : Key). total (under k es) in
      all_starts P (map (λ (e : Key × Sums). (e.0, sums e.0)) es)
      (subst (AllByRecursion P) (sym (keyed width sums flows)) (all_mapped (starts flows) all))

  one_of : (flows : List Flow) → HoldsOne (λ x. P (interval_of x width)) (starts flows)
      → HoldsOne P (starts_in (sums_by width flows))
  unfolding sums_by gathered
  one_of flows one =
      let es = map (λ (f : Flow). (key_of width f, counted f)) flows in
      let sums = λ (k : Key). total (under k es) in
      one_start P (map (λ (e : Key × Sums). (e.0, sums e.0)) es)
      (subst (HoldsOne P) (sym (keyed width sums flows)) (one_mapped (starts flows) one))

-- ---- the ends of a span are starts

first_from : (s : PartSpan) (xs : List ℕ)
    → ((with_starts s xs).first ≡ s.first) ⊎ HoldsOne (λ x. x ≡ (with_starts s xs).first) xs
first_from s [] = inl refl
first_from s (x ∷ xs) =
    elim (first_from (with_start x s) xs) [
      | inl is ↦ elim (cases_lt s.first x) [
        | inl less ↦ inl (omega (arith, is, less))
        | inr more ↦ inr (inl (omega (arith, is, more)))
      ]
      | inr one ↦ inr (inr one)
    ]

last_from : (s : PartSpan) (xs : List ℕ)
    → ((with_starts s xs).last ≡ s.last) ⊎ HoldsOne (λ x. x ≡ (with_starts s xs).last) xs
last_from s [] = inl refl
last_from s (x ∷ xs) =
    elim (last_from (with_start x s) xs) [
      | inl is ↦ elim (cases_lt x s.last) [
        | inl less ↦ inl (omega (arith, is, less))
        | inr more ↦ inr (inl (omega (arith, is, more)))
      ]
      | inr one ↦ inr (inr one)
    ]

module _ (x : ℕ) (xs : List ℕ) (small : (span_of (x ∷ xs)).last < 2 ^ 32) where
  first_there : HoldsOne (λ y. y ≡ (span_of (x ∷ xs)).first) (x ∷ xs)
  first_there =
      let within = (covered no_span (x ∷ xs)).0 in
      elim (first_from no_span (x ∷ xs)) [
        | inl is ↦ inl (omega (arith, is, within.0, within.1, small))
        | inr one ↦ one
      ]

  last_there : HoldsOne (λ y. y ≡ (span_of (x ∷ xs)).last) (x ∷ xs)
  last_there =
      let within = (covered no_span (x ∷ xs)).0 in
      elim (last_from no_span (x ∷ xs)) [
        | inl is ↦ inl (omega (arith, is, within.1))
        | inr one ↦ one
      ]

-- ---- the first row and the last one

not_after : (a b : Key) → T (is_lt (key_cmp a b)) → a.start ≤ b.start
not_after a b h =
    elim (nat_lt a.start b.start) as (λ t. nat_lt a.start b.start ≡ t
    → T (is_lt (ordering_then (cond t Less (cond (a.start == b.start) Equal Greater))
    (ordering_then (nat_cmp a.domain b.domain) (option_cmp nat_cmp a.protocol b.protocol)))) → a.start ≤ b.start) [
      | true ↦ λ w k. omega (arith, ltb-true a.start b.start w)
      | false ↦ λ w. elim (a.start == b.start) as (λ u. (a.start == b.start) ≡ u
          → T (is_lt (ordering_then (cond u Equal Greater)
          (ordering_then (nat_cmp a.domain b.domain) (option_cmp nat_cmp a.protocol b.protocol)))) → a.start ≤ b.start) [
            | true ↦ λ v k. omega (arith, eqb-true a.start b.start v)
            | false ↦ λ v k. absurd k
          ] refl
    ] refl h

from_first : (key : Key) (es : List (Key × Sums)) → T (below_all key_cmp key es)
    → AllByRecursion (λ x. key.start ≤ x) (starts_at es)
from_first key [] h = tt
from_first key (e ∷ es) h = (not_after key e.0 (first _ _ h), from_first key es (second _ _ h))

module _ (width : ℕ) where
  abbrev last_of : Key × Sums → List (Key × Sums) → ℕ
  last_of e es = last_start e.0.start (map (table_row width) es)

  up_to_last : (e : Key × Sums) (es : List (Key × Sums)) → T (is_sorted key_cmp (e ∷ es))
      → AllByRecursion (λ x. x ≤ last_of e es) (starts_at (e ∷ es))
  up_to_last e [] h = (omega arith, tt)
  up_to_last e (f ∷ es) h =
      let rest = up_to_last f es (second _ _ h) in
      let next = not_after e.0 f.0 (first _ _ (first _ _ h)) in
      (le_trans next rest.0, rest)

  last_in : (e : Key × Sums) (es : List (Key × Sums)) → HoldsOne (λ x. x ≡ last_of e es) (starts_at (e ∷ es))
  last_in e [] = inl refl
  last_in e (f ∷ es) = inr (last_in f es)

-- what holds of one, and of all
of_one : {R : Type 0} (P Q : ℕ → Type 0) (xs : List ℕ) → HoldsOne P xs → AllByRecursion Q xs
    → ((x : ℕ) → P x → Q x → R) → R
of_one P Q [] one all then = absurd one
of_one P Q (x ∷ xs) one all then = elim one [
  | inl here ↦ then x here all.0
  | inr more ↦ of_one P Q xs more all.1 then
]

all_kept : (es : List (Key × Sums)) → AllByRecursion (λ x. x < 2 ^ 32) (starts_at es)
    → filter (λ (e : Key × Sums). is_within 0 (2 ^ 32) e.0) es ≡ es
all_kept [] all = refl
all_kept (e ∷ es) all =
    let here : is_within 0 (2 ^ 32) e.0 ≡ true =
    (λ i. le-leb 0 e.0.start (omega arith) i && lt-ltb e.0.start (2 ^ 32) all.0 i) in
    ap (λ (b : Bool). cond b (e ∷ filter (λ (f : Key × Sums). is_within 0 (2 ^ 32) f.0) es)
    (filter (λ (f : Key × Sums). is_within 0 (2 ^ 32) f.0) es)) here
    ∙ ap (λ (l : List (Key × Sums)). e ∷ l) (all_kept es all.1)

less_all : (most : ℕ) → most < 2 ^ 32 → (xs : List ℕ) → AllByRecursion (λ x. x ≤ most) xs
    → AllByRecursion (λ x. x < 2 ^ 32) xs
less_all most small [] all = tt
less_all most small (x ∷ xs) all = (omega (arith, small, all.0), less_all most small xs all.1)

-- rows in order, whose starts lie between two of them
ends_are : (width least most : ℕ) (es : List (Key × Sums)) → T (is_sorted key_cmp es) → most < 2 ^ 32
    → AllByRecursion (λ x. least ≤ x) (starts_at es) → AllByRecursion (λ x. x ≤ most) (starts_at es)
    → HoldsOne (λ x. x ≡ least) (starts_at es) → HoldsOne (λ x. x ≡ most) (starts_at es)
    → starts_of (map (table_row width) (filter (λ (e : Key × Sums). is_within 0 (2 ^ 32) e.0) es))
    ≡ Some (record { first = least; last = most })
ends_are width least most [] sorted small low high one other = absurd one
ends_are width least most (e ∷ es) sorted small low high one other =
    let begins : e.0.start ≡ least =
    of_one (λ x. x ≡ least) (λ x. e.0.start ≤ x) (starts_at (e ∷ es)) one
    (omega arith, from_first e.0 es (first _ _ sorted)) (λ x is from. omega (arith, is, from, low.0)) in
    let most_first : most ≤ last_of width e es =
    of_one (λ x. x ≡ most) (λ x. x ≤ last_of width e es) (starts_at (e ∷ es)) other (up_to_last width e es sorted)
    (λ x is to. omega (arith, is, to)) in
    let most_last : last_of width e es ≤ most =
    of_one (λ x. x ≡ last_of width e es) (λ x. x ≤ most) (starts_at (e ∷ es)) (last_in width e es) high
    (λ x is to. omega (arith, is, to)) in
    let ends : last_of width e es ≡ most = omega (arith, most_first, most_last) in
    ap (λ (l : List (Key × Sums)). starts_of (map (table_row width) l))
    (all_kept (e ∷ es) (less_all most small (starts_at (e ∷ es)) high))
    ∙ (λ i. Some (record { first = begins i; last = ends i }))

no_entries : (width : ℕ) → entries (sums_by width []) ≡ []
unfolding sums_by gathered
no_entries width = entries_of_none

no_starts : (width : ℕ) (es : List (Key × Sums)) → es ≡ []
    → starts_of (map (table_row width) (filter (λ (e : Key × Sums). is_within 0 (2 ^ 32) e.0) es)) ≡ None
no_starts width [] none = refl
no_starts width (e ∷ es) none = absurd cc

some_of_span : (width : ℕ) (s : PartSpan) → nat_lt s.last s.first ≡ false
    → starts_of_span width s ≡ Some (record { first = interval_of s.first width; last = interval_of s.last width })
some_of_span width s is = rw is refl

module _ (width : ℕ) (some : 0 < width) (s : PartSpan) where
  from_all : (xs : List ℕ) → AllByRecursion (λ x. (s.first ≤ x) × (x ≤ s.last)) xs
      → AllByRecursion (λ x. interval_of s.first width ≤ interval_of x width) xs
  from_all [] all = tt
  from_all (x ∷ xs) all = (not_later s.first x width some all.0.0, from_all xs all.1)

  to_all : (xs : List ℕ) → AllByRecursion (λ x. (s.first ≤ x) × (x ≤ s.last)) xs
      → AllByRecursion (λ x. interval_of x width ≤ interval_of s.last width) xs
  to_all [] all = tt
  to_all (x ∷ xs) all = (not_later x s.last width some all.0.1, to_all xs all.1)

same_one : (width n : ℕ) (xs : List ℕ) → HoldsOne (λ x. x ≡ n) xs
    → HoldsOne (λ x. interval_of x width ≡ interval_of n width) xs
same_one width n [] one = absurd one
same_one width n (x ∷ xs) one = elim one [
  | inl here ↦ inl (ap (λ (y : ℕ). interval_of y width) here)
  | inr more ↦ inr (same_one width n xs more)
]

-- The first row and the last one of the sums of flows start with the intervals that hold their span's ends.
pub starts_by_span : (width : ℕ) (flows : List Flow) → 0 < width → (span_of (starts flows)).last < 2 ^ 32
    → starts_of (rows_in (table_of width flows)) ≡ starts_of_span width (span_of (starts flows))
starts_by_span width [] some small = no_starts width (entries (sums_by width [])) (no_entries width)
starts_by_span width (f ∷ fs) some small =
    let flows = f ∷ fs in
    let xs = starts flows in
    let span = span_of xs in
    let within = covered no_span xs in
    let there : nat_lt span.last span.first ≡ false =
    le-ltb span.last span.first (omega (arith, within.0.0, within.0.1)) in
    ends_are width (interval_of span.first width) (interval_of span.last width) (entries (sums_by width flows))
    (entries_sorted (sums_by width flows)) (omega (arith, small))
    (all_of (λ x. interval_of span.first width ≤ x) width flows (from_all width some span xs within))
    (all_of (λ x. x ≤ interval_of span.last width) width flows (to_all width some span xs within))
    (one_of (λ x. x ≡ interval_of span.first width) width flows (same_one width span.first xs
    (first_there f.start (starts fs) small)))
    (one_of (λ x. x ≡ interval_of span.last width) width flows (same_one width span.last xs
    (last_there f.start (starts fs) small)))
    ∙ sym (some_of_span width span there)
