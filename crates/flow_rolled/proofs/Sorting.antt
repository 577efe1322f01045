-- Entries that were sorted by the file's order.
use Rattle.std.proofs.Common.{◌≡◌, ℕ, suc, ◌+◌, ◌≤◌, Bool, true, false, cond, List, [], ◌∷◌, map}
use Rattle.std.proofs.Common.{length, get_or, Some, refl, sym, ap, subst, ◌∙◌, arith, T}
use Rattle.std.specs.Prelude.{filter, ◌&&◌}
use Rattle.std.specs.List.{sum_by}
use Rattle.std.specs.List.Sorted.{IsPermutation, IsSortedBy}
use Rattle.std.specs.Ordering.{is_eq, is_lt, ordering_reverse}
use Rattle.std.specs.declared.cmp.Ordering.{Ordering}
use Rattle.std.specs.declared.cmp.Ordering.TheVariants.{Less, Equal, Greater}
use Rattle.std.specs.FinMap.{FinMap, entries, entries_sorted}
use Rattle.std.specs.FinMap.Entries.{is_sorted, below_all}
use Rattle.std.proofs.lemmas.List.Sorted.{sum_by-IsPermutation}
use Rattle.std.proofs.lemmas.List.Sums.{sum_by-cons}
use Rattle.flow_measure.specs.declared.rows.Key.{Key}
use Rattle.flow_measure.specs.declared.rows.Sums.{Sums}
use Rattle.flow_measure.specs.Sums.{key_cmp, is_key, under, some_total}
use Rattle.flow_measure.proofs.Keys.{same_key, is_key-refl}
use Rattle.flow_measure.proofs.Gathering.{sum_at, sum_at-entries, first, second, less}
use Rattle.flow_rolled.specs.Rows.{file_cmp, in_file_order}
use Rattle.flow_rolled.proofs.FileOrder.{file_total, ties, same_order}

abbrev Entry : Type 0
Entry = Key × Sums

-- ---- the sums under a key are the same in any order

weighed : (q : Key) (f : Sums → ℕ) (es : List Entry)
    → sum_by (λ (e : Entry). cond (is_key q e.0) (f e.1) 0) es ≡ sum_by f (under q es)
weighed q f [] = refl
weighed q f (e ∷ es) =
    let rest = weighed q f es in
    sum_by-cons (λ (e : Entry). cond (is_key q e.0) (f e.1) 0) e es
    ∙ elim (is_key q e.0) as
    (λ b. cond b (f e.1) 0 + sum_by (λ (e : Entry). cond (is_key q e.0) (f e.1) 0) es ≡ sum_by f
    (map (λ (x : Entry). x.1)
    (cond b (e ∷ filter (λ (x : Entry). is_key q x.0) es) (filter (λ (x : Entry). is_key q x.0) es)))) [
      | true ↦ ap (λ n. f e.1 + n) rest ∙ sym (sum_by-cons f e.1 (under q es))
      | false ↦ let z : 0 + sum_by (λ (e : Entry). cond (is_key q e.0) (f e.1) 0) es ≡ sum_by
          (λ (e : Entry). cond (is_key q e.0) (f e.1) 0) es = omega arith in z ∙ rest
    ]

ones : (sums : List Sums) → sum_by (λ (s : Sums). 1) sums ≡ length sums
ones [] = refl
ones (s ∷ ss) = let c = sum_by-cons (λ (s : Sums). 1) s ss in let r = ones ss in omega (arith, c, r)

same_weight : (q : Key) (f : Sums → ℕ) (xs ys : List Entry) → IsPermutation xs ys
    → sum_by f (under q ys) ≡ sum_by f (under q xs)
same_weight q f xs ys h = sym (weighed q f ys)
    ∙ sum_by-IsPermutation (λ (e : Entry). cond (is_key q e.0) (f e.1) 0) xs ys h ∙ weighed q f xs

same_count : (q : Key) (xs ys : List Entry) → IsPermutation xs ys → length (under q ys) ≡ length (under q xs)
same_count q xs ys h = sym (ones (under q ys)) ∙ same_weight q (λ (s : Sums). 1) xs ys h ∙ ones (under q xs)

same_total : (xs ys : List Sums) → length xs ≡ length ys
    → sum_by (λ (s : Sums). s.flows) xs ≡ sum_by (λ (s : Sums). s.flows) ys
    → sum_by (λ (s : Sums). s.octets) xs ≡ sum_by (λ (s : Sums). s.octets) ys
    → sum_by (λ (s : Sums). s.packets) xs ≡ sum_by (λ (s : Sums). s.packets) ys → some_total xs ≡ some_total ys
same_total [] [] l f o p = refl
same_total [] (y ∷ ys) l f o p = absurd (omega (arith, l))
same_total (x ∷ xs) [] l f o p = absurd (omega (arith, l))
same_total (x ∷ xs) (y ∷ ys) l f o p = λ i. Some (record { flows = f i; octets = o i; packets = p i })

kept : (q : Key) (xs ys : List Entry) → IsPermutation xs ys → sum_at q ys ≡ sum_at q xs
kept q xs ys h = same_total (under q ys) (under q xs) (same_count q xs ys h)
    (same_weight q (λ (s : Sums). s.flows) xs ys h) (same_weight q (λ (s : Sums). s.octets) xs ys h)
    (same_weight q (λ (s : Sums). s.packets) xs ys h)

-- ---- each key of a map once

abbrev hit : Bool → ℕ
hit b = cond b 1 0

under_more : (q : Key) (e : Entry) (es : List Entry)
    → length (under q (e ∷ es)) ≡ hit (is_key q e.0) + length (under q es)
under_more q e es = elim (is_key q e.0) as
    (λ b. length (map (λ (x : Entry). x.1)
    (cond b (e ∷ filter (λ (x : Entry). is_key q x.0) es) (filter (λ (x : Entry). is_key q x.0) es))) ≡ hit b + length
    (under q es)) [
      | true ↦ omega arith
      | false ↦ omega arith
    ]

none_behind : (q : Key) (es : List Entry) → T (below_all key_cmp q es) → length (under q es) ≡ 0
none_behind q [] h = refl
none_behind q (e ∷ es) h =
    let c : hit (is_key q e.0) ≡ 0 = ap hit (less (key_cmp q e.0) (first _ _ h)) in
    let r = none_behind q es (second _ _ h) in
    let m = under_more q e es in
    omega (arith, c, r, m)

once : (q : Key) (es : List Entry) → T (is_sorted key_cmp es) → length (under q es) ≤ 1
once q [] h = omega arith
once q (e ∷ es) h =
    let m = under_more q e es in
    elim (is_key q e.0) as (λ b. is_key q e.0 ≡ b → length (under q (e ∷ es)) ≤ 1) [
      | true ↦ λ is.
          let n = none_behind q es (subst (λ k. T (below_all key_cmp k es)) (sym (same_key q e.0 is)) (first _ _ h)) in
          let c : hit (is_key q e.0) ≡ 1 = ap hit is in
          omega (arith, m, n, c)
      | false ↦ λ is.
          let r = once q es (second _ _ h) in
          let c : hit (is_key q e.0) ≡ 0 = ap hit is in
          omega (arith, m, r, c)
    ] refl

-- ---- neighbours in order, each key once: the keys rise

rises : (a b : Key) → is_lt (file_cmp b a) ≡ false → (is_key a b ≡ true → ⊥) → file_cmp a b ≡ Less
rises a b h differs = elim (file_cmp a b) as (λ o. file_cmp a b ≡ o → o ≡ Less) [
  | Less ↦ λ e. refl
  | Equal ↦ λ e. absurd (differs (sym (ties a b) ∙ ap is_eq e))
  | Greater ↦ λ e. absurd (clash (is_lt (file_cmp b a)) (ap is_lt (file_total.antisymm b a ∙ ap ordering_reverse e)) h)
] refl
  where
    clash : (t : Bool) → t ≡ true → t ≡ false → ⊥
    clash t x y = cc

both : (a b : Bool) → T a → T b → T (a && b)
both true b p q = q
both false b p q = absurd p

lt_is : (o : Ordering) → T (is_lt o) → o ≡ Less
lt_is Less p = refl
lt_is Equal p = absurd p
lt_is Greater p = absurd p

below_less : (a b : Key) (es : List Entry) → file_cmp a b ≡ Less → T (below_all file_cmp b es)
    → T (below_all file_cmp a es)
below_less a b [] e h = tt
below_less a b (x ∷ es) e h =
    both _ _ (subst (λ o. T (is_lt o)) (sym (file_total.trans a b x.0 e (lt_is (file_cmp b x.0) (first _ _ h)))) tt)
    (below_less a b es e (second _ _ h))

tail_sorted : (y : Entry) (ys : List Entry) → IsSortedBy (λ a b. is_lt (file_cmp a.0 b.0)) (y ∷ ys)
    → IsSortedBy (λ a b. is_lt (file_cmp a.0 b.0)) ys
tail_sorted y ys h k d low lt =
    let next : suc k + 1 ≡ suc (k + 1) = omega arith in
    subst (λ n. is_lt (file_cmp (get_or (y ∷ ys) n d).0 (get_or ys k d).0) ≡ false) next
    (h (suc k) d (omega arith) (omega (arith, lt)))

strict : (ys : List Entry) → IsSortedBy (λ a b. is_lt (file_cmp a.0 b.0)) ys → ((q : Key) → length (under q ys) ≤ 1)
    → T (is_sorted file_cmp ys)
strict [] h one = tt
strict (y ∷ []) h one = tt
strict (y ∷ z ∷ zs) h one =
    let rest = strict (z ∷ zs) (tail_sorted y (z ∷ zs) h) (λ q. let m = under_more q y (z ∷ zs) in let o = one q in
    omega (arith, m, o)) in
    let up : file_cmp y.0 z.0 ≡ Less = rises y.0 z.0 (h 0 y (omega arith) (omega arith)) (λ is.
    let m = under_more y.0 y (z ∷ zs) in
    let n = under_more y.0 z zs in
    let a : hit (is_key y.0 y.0) ≡ 1 = ap hit (is_key-refl y.0) in
    let b : hit (is_key y.0 z.0) ≡ 1 = ap hit is in
    let o = one y.0 in
    omega (arith, m, n, a, b, o)) in
    both _ _ (both _ _ (subst (λ o. T (is_lt o)) (sym up) tt) (below_less y.0 z.0 zs up (first _ _ rest))) rest

-- a map's entries, sorted, are in the file's order
pub sorted_order : (m : FinMap key_cmp Sums) (es : List Entry) → IsPermutation (entries m) es
    → IsSortedBy (λ a b. is_lt (file_cmp a.0 b.0)) es → in_file_order m ≡ es
sorted_order m es h sorted = same_order m es
    (strict es sorted (λ q. let c = same_count q (entries m) es h in let o = once q (entries m) (entries_sorted m) in
    omega (arith, c, o)))
    (λ q. kept q (entries m) es h ∙ sum_at-entries m q)
