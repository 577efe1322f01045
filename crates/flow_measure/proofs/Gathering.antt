-- What a gathered list has at each key.
use Rattle.std.proofs.Common.{◌≡◌, Bool, true, false, cond, List, [], ◌∷◌, ◌++◌, map, length, Option, Some, None, refl}
use Rattle.std.proofs.Common.{sym, ap, subst, ◌∙◌, arith, zero-add, T}
use Rattle.std.specs.Prelude.{filter, ◌&&◌}
use Rattle.std.specs.Ordering.{is_eq, is_lt}
use Rattle.std.specs.declared.cmp.Ordering.{Ordering}
use Rattle.std.specs.declared.cmp.Ordering.TheVariants.{Less, Equal, Greater}
use Rattle.std.specs.FinMap.{FinMap, entries, get, empty, insert, get-from_entries, get-insert, get-entries}
use Rattle.std.specs.FinMap.{len-entries, len-empty, same_map, entries_sorted}
use Rattle.std.specs.FinMap.Entries.{find, is_sorted, below_all}
use Rattle.std.proofs.lemmas.List.{append-nil, map-append}
use Rattle.std.proofs.lemmas.List.Sums.{sum_by-append}
use Rattle.std.proofs.lemmas.List.Elements.{filter-append}
use Rattle.flow_measure.specs.declared.rows.Key.{Key}
use Rattle.flow_measure.specs.declared.rows.Sums.{Sums}
use Rattle.flow_measure.specs.Sums.{key_cmp, is_key, plus, under, total, some_total, gathered}
use Rattle.flow_measure.proofs.Keys.{keys_total, exact_keys, same_key}

-- the sums of both, where there are any
abbrev pub joined : Option Sums → Option Sums → Option Sums
joined None b = b
joined (Some a) None = Some a
joined (Some a) (Some b) = Some (plus a b)

-- the total of all sums under a key, if there are any
abbrev pub sum_at : Key → List (Key × Sums) → Option Sums
sum_at q es = some_total (under q es)

total-append : (xs ys : List Sums) → total (xs ++ ys) ≡ plus (total xs) (total ys)
total-append xs ys =
    rw (
      sum_by-append (λ (s : Sums). s.flows) xs ys,
      sum_by-append (λ (s : Sums). s.octets) xs ys,
      sum_by-append (λ (s : Sums). s.packets) xs ys,
    ) refl

some_total-append : (xs ys : List Sums) → some_total (xs ++ ys) ≡ joined (some_total xs) (some_total ys)
some_total-append [] ys = refl
some_total-append (x ∷ xs) [] = ap some_total (append-nil (x ∷ xs))
some_total-append (x ∷ xs) (y ∷ ys) = ap Some (total-append (x ∷ xs) (y ∷ ys))

under-append : (q : Key) (es fs : List (Key × Sums)) → under q (es ++ fs) ≡ under q es ++ under q fs
under-append q es fs =
    ap (map (λ (e : Key × Sums). e.1)) (filter-append (λ (e : Key × Sums). is_key q e.0) es fs)
    ∙ map-append (λ (e : Key × Sums). e.1) (filter (λ (e : Key × Sums). is_key q e.0) es)
    (filter (λ (e : Key × Sums). is_key q e.0) fs)

pub sum_at-append : (q : Key) (es fs : List (Key × Sums)) → sum_at q (es ++ fs) ≡ joined (sum_at q es) (sum_at q fs)
sum_at-append q es fs = ap some_total (under-append q es fs) ∙ some_total-append (under q es) (under q fs)

-- ---- a gathered list has the sums of its list

if_any : List Sums → Sums → Option Sums
if_any [] t = None
if_any (s ∷ ss) t = Some t

if_any-total : (xs : List Sums) → if_any xs (total xs) ≡ some_total xs
unfolding if_any
if_any-total [] = refl
if_any-total (s ∷ ss) = refl

find_made : (at : Key → Sums) (q : Key) (es : List (Key × Sums))
    → find key_cmp q (map (λ (e : Key × Sums). (e.0, at e.0)) es) ≡ if_any (under q es) (at q)
unfolding if_any
find_made at q [] = refl
find_made at q (e ∷ es) =
    elim (is_key q e.0) as (λ b. is_key q e.0 ≡ b
    → cond b (Some (at e.0)) (find key_cmp q (map (λ (f : Key × Sums). (f.0, at f.0)) es))
    ≡ if_any (map (λ (f : Key × Sums). f.1)
    (cond b (e ∷ filter (λ (f : Key × Sums). is_key q f.0) es) (filter (λ (f : Key × Sums). is_key q f.0) es)))
    (at q)) [
      | true ↦ λ w. ap (λ k. Some (at k)) (sym (same_key q e.0 w))
      | false ↦ λ w. find_made at q es
    ] refl

pub get-gathered : (es : List (Key × Sums)) (q : Key) → get (gathered es) q ≡ sum_at q es
unfolding gathered
get-gathered es q =
    get-from_entries keys_total (map (λ (e : Key × Sums). (e.0, total (under e.0 es))) es) q
    ∙ find_made (λ k. total (under k es)) q es ∙ if_any-total (under q es)

pub same_sums : (m n : FinMap key_cmp Sums) → ((q : Key) → get m q ≡ get n q) → m ≡ n
same_sums m n is = same_map keys_total exact_keys m n is

pub gathered-same : (es fs : List (Key × Sums)) → ((q : Key) → sum_at q es ≡ sum_at q fs) → gathered es ≡ gathered fs
gathered-same es fs is = same_sums (gathered es) (gathered fs) (λ q. get-gathered es q ∙ is q ∙ sym (get-gathered fs q))

-- ---- the entries of a map, gathered, are the map

pub first : (a b : Bool) → T (a && b) → T a
first true b p = tt
first false b p = p

pub second : (a b : Bool) → T (a && b) → T b
second true b p = p
second false b p = absurd p

pub less : (o : Ordering) → T (is_lt o) → is_eq o ≡ false
less Less p = refl
less Equal p = absurd p
less Greater p = absurd p

none_past : (q : Key) (es : List (Key × Sums)) → T (below_all key_cmp q es) → under q es ≡ []
none_past q [] h = refl
none_past q (e ∷ es) h = rw (less (key_cmp q e.0) (first _ _ h)) (none_past q es (second _ _ h))

-- in a list in order, the sums under a key are those that are found there
sum_at-sorted : (q : Key) (es : List (Key × Sums)) → T (is_sorted key_cmp es) → sum_at q es ≡ find key_cmp q es
sum_at-sorted q [] h = refl
sum_at-sorted q (e ∷ es) h =
    elim (is_key q e.0) as (λ b. is_key q e.0 ≡ b
    → some_total (map (λ (f : Key × Sums). f.1)
    (cond b (e ∷ filter (λ (f : Key × Sums). is_key q f.0) es) (filter (λ (f : Key × Sums). is_key q f.0) es)))
    ≡ cond b (Some e.1) (find key_cmp q es)) [
      | true ↦ λ w. let none : under q es
          ≡ [] = none_past q es (subst (λ k. T (below_all key_cmp k es)) (sym (same_key q e.0 w)) (first _ _ h)) in
          rw (none, zero-add (e.1).flows, zero-add (e.1).octets, zero-add (e.1).packets) refl
      | false ↦ λ w. sum_at-sorted q es (second _ _ h)
    ] refl

pub sum_at-entries : (m : FinMap key_cmp Sums) (q : Key) → sum_at q (entries m) ≡ get m q
sum_at-entries m q = sum_at-sorted q (entries m) (entries_sorted m) ∙ sym (get-entries m q)

pub gathered-entries : (m : FinMap key_cmp Sums) → gathered (entries m) ≡ m
gathered-entries m = same_sums (gathered (entries m)) m (λ q. get-gathered (entries m) q ∙ sum_at-entries m q)

no_length : (es : List (Key × Sums)) → length es ≡ 0 → es ≡ []
no_length [] h = refl
no_length (e ∷ es) h = absurd (omega arith)

pub entries_of_none : entries (empty {X = Sums} {R = key_cmp}) ≡ []
entries_of_none = no_length (entries empty) (sym (len-entries empty) ∙ len-empty key_cmp Sums)

-- ---- one pair more

pub joined-none : (a : Option Sums) → joined a None ≡ a
joined-none None = refl
joined-none (Some a) = refl

pub one : (q k : Key) (s : Sums) → sum_at q ((k, s) ∷ []) ≡ cond (is_key q k) (Some s) None
one q k s = elim (is_key q k) as (λ b. some_total (map (λ (f : Key × Sums). f.1) (cond b ((k, s) ∷ []) []))
    ≡ cond b (Some s) None) [
      | true ↦ rw (zero-add s.flows, zero-add s.octets, zero-add s.packets) refl
      | false ↦ refl
    ]

pub with_one : (m : FinMap key_cmp Sums) (k : Key) (s : Sums) (q : Key)
    → get (gathered (entries m ++ (k, s) ∷ [])) q ≡ joined (get m q) (cond (is_key q k) (Some s) None)
with_one m k s q =
    get-gathered (entries m ++ (k, s) ∷ []) q ∙ sum_at-append q (entries m) ((k, s) ∷ [])
    ∙ ap (λ a. joined a (sum_at q ((k, s) ∷ []))) (sum_at-entries m q) ∙ ap (joined (get m q)) (one q k s)

-- a sum put in its place is one pair more
pub put-is_gathered : (m : FinMap key_cmp Sums) (k : Key) (s t : Sums) → joined (get m k) (Some s) ≡ Some t
    → insert m k t ≡ gathered (entries m ++ (k, s) ∷ [])
put-is_gathered m k s t e = same_sums (insert m k t) (gathered (entries m ++ (k, s) ∷ [])) (λ q.
    get-insert keys_total m k t q ∙ at_key q ∙ sym (with_one m k s q))
  where
    at_key : (q : Key) → cond (is_key q k) (Some t) (get m q) ≡ joined (get m q) (cond (is_key q k) (Some s) None)
    at_key q = elim (is_key q k) as (λ b. is_key q k ≡ b
        → cond b (Some t) (get m q) ≡ joined (get m q) (cond b (Some s) None)) [
          | true ↦ λ w. sym e ∙ ap (λ x. joined (get m x) (Some s)) (sym (same_key q k w))
          | false ↦ λ w. sym (joined-none (get m q))
        ] refl

-- what was gathered before may be gathered again with more
pub gathered-again : (es fs : List (Key × Sums)) → gathered (entries (gathered es) ++ fs) ≡ gathered (es ++ fs)
gathered-again es fs = gathered-same (entries (gathered es) ++ fs) (es ++ fs) (λ q.
    sum_at-append q (entries (gathered es)) fs
    ∙ ap (λ a. joined a (sum_at q fs)) (sum_at-entries (gathered es) q ∙ get-gathered es q)
    ∙ sym (sum_at-append q es fs))

pub gathered-both : (es fs : List (Key × Sums))
    → gathered (entries (gathered es) ++ entries (gathered fs)) ≡ gathered (es ++ fs)
gathered-both es fs =
    gathered-again es (entries (gathered fs)) ∙ gathered-same (es ++ entries (gathered fs)) (es ++ fs) (λ q.
    sum_at-append q es (entries (gathered fs))
    ∙ ap (joined (sum_at q es)) (sum_at-entries (gathered fs) q ∙ get-gathered fs q) ∙ sym (sum_at-append q es fs))
