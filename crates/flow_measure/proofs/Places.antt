-- Sums in the order in which their keys came, and the places of the keys.
use Rattle.std.proofs.Common.{◌≡◌, ℕ, zero, suc, true, false, cond, List, [], ◌∷◌, ◌++◌, length, map, Option, Some}
use Rattle.std.proofs.Common.{None, refl, sym, ap, subst, ◌∙◌, slice_get, slice_set, slice_index_or, ◌+◌, ◌<◌, drop}
use Rattle.std.proofs.Common.{add-one, drop-cons, arith, append_assoc}
use Rattle.std.specs.Prelude.{option_map, unwrap_or}
use Rattle.std.specs.BTreeMap.{is_at}
use Rattle.std.specs.Prelude.{All}
use Rattle.std.specs.List.{AllByRecursion}
use Rattle.std.proofs.lemmas.List.Elements.{recursion_from_All}
use Rattle.std.specs.Map.{lookup, keys_of}
use Rattle.std.specs.List.Sorted.{IsStrictlySortedBy}
use Rattle.std.specs.FinMap.{get, insert, entries, get-from_entries, get-insert, same_map}
use Rattle.std.specs.FinMap.Entries.{find}
use Rattle.flow_measure.specs.declared.rows.Key.{Key}
use Rattle.flow_measure.specs.declared.rows.Sums.{Sums}
use Rattle.flow_measure.specs.Sums.{key_cmp, is_key, plus, Fits}
use Rattle.flow_measure.specs.Entries.{nothing, resolved, place_of, AreOnce, map_of, added_to}
use Rattle.flow_measure.proofs.Viewing.{entries_are}
use Rattle.flow_measure.proofs.Keys.{keys_total, exact_keys, same_key, is_key-symm, is_key-refl}

same_number : (a b : ℕ) → Some a ≡ Some b → a ≡ b
same_number a b h = ap (λ o. unwrap_or o a) h

pub same_entry : (a b : Key × Sums) → Some a ≡ Some b → a ≡ b
same_entry a b h = ap (λ o. unwrap_or o a) h

none_behind : (o : Option ℕ) → option_map suc o ≡ None → o ≡ None
none_behind None h = refl
none_behind (Some i) h = absurd cc

-- a key is at most one of two keys that differ
apart : {A : Type 0} (q e k : Key) (x y z : A) → is_key k e ≡ false
    → cond (is_key q e) x (cond (is_key q k) y z) ≡ cond (is_key q k) y (cond (is_key q e) x z)
apart q e k x y z differ =
    elim (is_key q e) as (λ a. is_key q e ≡ a → cond a x (cond (is_key q k) y z) ≡ cond (is_key q k) y (cond a x z)) [
      | true ↦ λ here. elim (is_key q k) as (λ b. is_key q k ≡ b → x ≡ cond b y x) [
        | true ↦ λ there. let alike : is_key k e ≡ true = ap (λ a. is_key a e) (sym (same_key q k there)) ∙ here in
            absurd cc
        | false ↦ λ there. refl
      ] refl
      | false ↦ λ here. refl
    ] refl

-- a key that has no place has no sums
pub absent : (k : Key) (es : List (Key × Sums)) → place_of k es ≡ None → find key_cmp k es ≡ None
unfolding place_of
absent k [] h = refl
absent k (e ∷ es) h =
    elim (is_key k e.0) as (λ b. cond b (Some 0) (option_map suc (place_of k es)) ≡ None
    → cond b (Some e.1) (find key_cmp k es) ≡ None) [
      | true ↦ λ g. absurd cc
      | false ↦ λ g. absent k es (none_behind (place_of k es) g)
    ] h

-- the entry at a key's place has that key
pub found : (k : Key) (es : List (Key × Sums)) (i : ℕ) → place_of k es ≡ Some i
    → (s : Sums) × (slice_get es i ≡ Some (k, s))
unfolding place_of
found k [] i h = absurd cc
found k (e ∷ es) i h =
    elim (is_key k e.0) as (λ b. is_key k e.0 ≡ b → cond b (Some 0) (option_map suc (place_of k es)) ≡ Some i
    → (s : Sums) × (slice_get (e ∷ es) i ≡ Some (k, s))) [
      | true ↦ λ w g. (
        e.1,
        subst (λ n. slice_get (e ∷ es) n ≡ Some (k, e.1)) (same_number 0 i g)
            (ap (λ x. Some (x, e.1)) (sym (same_key k e.0 w))),
      )
      | false ↦ λ w g. elim (place_of k es) as (λ o. place_of k es ≡ o → option_map suc o ≡ Some i
          → (s : Sums) × (slice_get (e ∷ es) i ≡ Some (k, s))) [
            | None ↦ λ p q. absurd cc
            | Some j ↦ λ p q. let r = found k es j p in
                (r.0, subst (λ n. slice_get (e ∷ es) n ≡ Some (k, r.0)) (same_number (suc j) i q) r.1)
          ] refl g
    ] refl h

differs : (k : Key) (e : Key × Sums) (es : List (Key × Sums)) → place_of k (e ∷ es) ≡ None → is_key k e.0 ≡ false
unfolding place_of
differs k e es h = elim (is_key k e.0) as (λ b. cond b (Some 0) (option_map suc (place_of k es)) ≡ None → b ≡ false) [
  | true ↦ λ g. absurd cc
  | false ↦ λ g. refl
] h

behind : (k : Key) (e : Key × Sums) (es : List (Key × Sums)) → place_of k (e ∷ es) ≡ None → place_of k es ≡ None
unfolding place_of
behind k e es h =
    elim (is_key k e.0) as (λ b. cond b (Some 0) (option_map suc (place_of k es)) ≡ None → place_of k es ≡ None) [
      | true ↦ λ g. absurd cc
      | false ↦ λ g. none_behind (place_of k es) g
    ] h

-- where each key is listed once, a key has the sums at its place
pub held : (es : List (Key × Sums)) (i : ℕ) (k : Key) (s : Sums) → AreOnce es → slice_get es i ≡ Some (k, s)
    → (place_of k es ≡ Some i) × (find key_cmp k es ≡ Some s)
unfolding place_of AreOnce
held [] i k s once h = absurd cc
held (e ∷ es) zero k s once h =
    let is : is_key k e.0 ≡ true = ap (is_key k) (ap (λ x. x.0) (same_entry e (k, s) h)) ∙ is_key-refl k in
    (rw is refl, rw is (ap (λ x. Some x.1) (same_entry e (k, s) h)))
held (e ∷ es) (suc i) k s once h =
    let rest = held es i k s once.1 h in
    elim (is_key k e.0) as (λ b. is_key k e.0 ≡ b
    → (cond b (Some 0) (option_map suc (place_of k es)) ≡ Some (suc i))
    × (cond b (Some e.1) (find key_cmp k es) ≡ Some s)) [
      | true ↦ λ w. let none : place_of k es ≡ None = ap (λ x. place_of x es) (same_key k e.0 w) ∙ once.0 in absurd cc
      | false ↦ λ w. (ap (option_map suc) rest.0, rest.1)
    ] refl

other : (es : List (Key × Sums)) (e : Key × Sums) (i : ℕ) (k : Key) (s : Sums) → AreOnce (e ∷ es)
    → slice_get es i ≡ Some (k, s) → is_key k e.0 ≡ false
unfolding AreOnce
other es e i k s once h = elim (is_key k e.0) as (λ b. is_key k e.0 ≡ b → b ≡ false) [
  | true ↦ λ w. let none : place_of k es ≡ None = ap (λ x. place_of x es) (same_key k e.0 w) ∙ once.0 in
      let some = (held es i k s once.1 h).0 in absurd cc
  | false ↦ λ w. refl
] refl

pub within : (es : List (Key × Sums)) (i : ℕ) (e : Key × Sums) → slice_get es i ≡ Some e → i < length es
within [] i e h = absurd cc
within (x ∷ es) zero e h = omega arith
within (x ∷ es) (suc i) e h = omega (arith, within es i e h)

pub read : (es : List (Key × Sums)) (i : ℕ) (d e : Key × Sums) → slice_get es i ≡ Some e → slice_index_or es i d ≡ e
read [] i d e h = absurd cc
read (x ∷ es) zero d e h = same_entry x e h
read (x ∷ es) (suc i) d e h = read es i d e h

-- ---- other sums at a key's place

find_set : (q : Key) (es : List (Key × Sums)) (i : ℕ) (k : Key) (s t : Sums) → AreOnce es → slice_get es i ≡ Some (k, s)
    → find key_cmp q (slice_set es i (k, t)) ≡ cond (is_key q k) (Some t) (find key_cmp q es)
unfolding AreOnce
find_set q [] i k s t once h = absurd cc
find_set q (e ∷ es) zero k s t once h =
    let same : e.0 ≡ k = ap (λ x. x.0) (same_entry e (k, s) h) in
    rw same (elim (is_key q k) as (λ b. cond b (Some t) (find key_cmp q es)
    ≡ cond b (Some t) (cond b (Some e.1) (find key_cmp q es))) [ true ↦ refl | false ↦ refl ])
find_set q (e ∷ es) (suc i) k s t once h =
    ap (cond (is_key q e.0) (Some e.1)) (find_set q es i k s t once.1 h)
    ∙ apart q e.0 k (Some e.1) (Some t) (find key_cmp q es) (other es e i k s once h)

place_set : (q : Key) (es : List (Key × Sums)) (i : ℕ) (k : Key) (s t : Sums) → slice_get es i ≡ Some (k, s)
    → place_of q (slice_set es i (k, t)) ≡ place_of q es
unfolding place_of
place_set q [] i k s t h = absurd cc
place_set q (e ∷ es) zero k s t h =
    ap (λ (x : Key). cond (is_key q x) (Some 0) (option_map suc (place_of q es)))
    (sym (ap (λ x. x.0) (same_entry e (k, s) h)))
place_set q (e ∷ es) (suc i) k s t h =
    ap (λ o. cond (is_key q e.0) (Some 0) (option_map suc o)) (place_set q es i k s t h)

once_set : (es : List (Key × Sums)) (i : ℕ) (k : Key) (s t : Sums) → AreOnce es → slice_get es i ≡ Some (k, s)
    → AreOnce (slice_set es i (k, t))
unfolding AreOnce
once_set [] i k s t once h = absurd cc
once_set (e ∷ es) zero k s t once h =
    (ap (λ x. place_of x es) (sym (ap (λ x. x.0) (same_entry e (k, s) h))) ∙ once.0, once.1)
once_set (e ∷ es) (suc i) k s t once h = (place_set e.0 es i k s t h ∙ once.0, once_set es i k s t once.1 h)

-- ---- sums under a new key

find_push : (q : Key) (es : List (Key × Sums)) (k : Key) (s : Sums) → place_of k es ≡ None
    → find key_cmp q (es ++ (k, s) ∷ []) ≡ cond (is_key q k) (Some s) (find key_cmp q es)
find_push q [] k s h = refl
find_push q (e ∷ es) k s h =
    ap (cond (is_key q e.0) (Some e.1)) (find_push q es k s (behind k e es h))
    ∙ apart q e.0 k (Some e.1) (Some s) (find key_cmp q es) (differs k e es h)

pub place_push : (q : Key) (es : List (Key × Sums)) (k : Key) (s : Sums) → place_of k es ≡ None
    → place_of q (es ++ (k, s) ∷ []) ≡ cond (is_key q k) (Some (length es)) (place_of q es)
unfolding place_of
place_push q [] k s h = refl
place_push q (e ∷ es) k s h =
    ap (λ o. cond (is_key q e.0) (Some 0) (option_map suc o)) (place_push q es k s (behind k e es h))
    ∙ ap (cond (is_key q e.0) (Some 0))
    (elim (is_key q k) as (λ b. option_map suc (cond b (Some (length es)) (place_of q es))
    ≡ cond b (Some (suc (length es))) (option_map suc (place_of q es))) [ true ↦ refl | false ↦ refl ])
    ∙ apart q e.0 k (Some 0) (Some (suc (length es))) (option_map suc (place_of q es)) (differs k e es h)

once_push : (es : List (Key × Sums)) (k : Key) (s : Sums) → AreOnce es → place_of k es ≡ None
    → AreOnce (es ++ (k, s) ∷ [])
unfolding AreOnce place_of
once_push [] k s once h = (refl, tt)
once_push (e ∷ es) k s once h =
    let no : is_key e.0 k ≡ false = is_key-symm e.0 k ∙ differs k e es h in (
      place_push e.0 es k s (behind k e es h) ∙ ap (λ b. cond b (Some (length es)) (place_of e.0 es)) no
          ∙ once.0,
      once_push es k s once.1 (behind k e es h),
    )

-- ---- what stays true of entries and of the places of keys

abbrev pub ArePlaces : List (Key × ℕ) → List (Key × Sums) → Type 0
ArePlaces places es = AreOnce es × ((q : Key) → lookup (is_at (key_cmp q)) places ≡ place_of q es)

pub pushed : (places more : List (Key × ℕ)) (es : List (Key × Sums)) (k : Key) (s : Sums) (n : ℕ) → n ≡ length es
    → place_of k es ≡ None → ArePlaces places es
    → ((q : Key) → lookup (is_at (key_cmp q)) more
    ≡ cond (is_at (key_cmp k) q) (Some n) (lookup (is_at (key_cmp q)) places)) → ArePlaces more (es ++ (k, s) ∷ [])
pushed places more es k s n e none are updates = (
  once_push es k s are.0 none,
  λ q.
      updates q ∙ ap (λ m. cond (is_key k q) (Some m) (lookup (is_at (key_cmp q)) places)) e
      ∙ ap (cond (is_key k q) (Some (length es))) (are.1 q)
      ∙ ap (λ b. cond b (Some (length es)) (place_of q es)) (is_key-symm k q) ∙ sym (place_push q es k s none),
)

pub replaced : (places : List (Key × ℕ)) (es : List (Key × Sums)) (i : ℕ) (k : Key) (s t : Sums)
    → slice_get es i ≡ Some (k, s) → ArePlaces places es → ArePlaces places (slice_set es i (k, t))
replaced places es i k s t h are = (once_set es i k s t are.0 h, λ q. are.1 q ∙ sym (place_set q es i k s t h))

-- ---- the map of entries

pub map_at : (es : List (Key × Sums)) (i : ℕ) (k : Key) (s : Sums) → AreOnce es → slice_get es i ≡ Some (k, s)
    → get (map_of es) k ≡ Some s
map_at es i k s once h = get-from_entries keys_total es k ∙ (held es i k s once h).1

pub map_absent : (es : List (Key × Sums)) (k : Key) → place_of k es ≡ None → get (map_of es) k ≡ None
map_absent es k h = get-from_entries keys_total es k ∙ absent k es h

pub map_set : (es : List (Key × Sums)) (i : ℕ) (k : Key) (s t : Sums) → AreOnce es → slice_get es i ≡ Some (k, s)
    → map_of (slice_set es i (k, t)) ≡ insert (map_of es) k t
map_set es i k s t once h =
    same_map keys_total exact_keys (map_of (slice_set es i (k, t))) (insert (map_of es) k t) (λ q.
    get-from_entries keys_total (slice_set es i (k, t)) q ∙ find_set q es i k s t once h
    ∙ sym (get-insert keys_total (map_of es) k t q
    ∙ ap (cond (is_key q k) (Some t)) (get-from_entries keys_total es q)))

pub map_push : (es : List (Key × Sums)) (k : Key) (s : Sums) → place_of k es ≡ None
    → map_of (es ++ (k, s) ∷ []) ≡ insert (map_of es) k s
map_push es k s h = same_map keys_total exact_keys (map_of (es ++ (k, s) ∷ [])) (insert (map_of es) k s) (λ q.
    get-from_entries keys_total (es ++ (k, s) ∷ []) q ∙ find_push q es k s h
    ∙ sym (get-insert keys_total (map_of es) k s q
    ∙ ap (cond (is_key q k) (Some s)) (get-from_entries keys_total es q)))

-- ---- sums that are added

pub increased : (es : List (Key × Sums)) (i : ℕ) (k : Key) (t s sum : Sums) → AreOnce es → slice_get es i ≡ Some (k, t)
    → Fits (plus t s) → sum ≡ plus t s
    → Fits (added_to (get (map_of es) k) s)
    × (map_of (slice_set es i (k, sum)) ≡ insert (map_of es) k (added_to (get (map_of es) k) s))
increased es i k t s sum once h fits e =
    let here : get (map_of es) k ≡ Some t = map_at es i k t once h in
    rw here (fits, map_set es i k t sum once h ∙ ap (insert (map_of es) k) e)

pub refused : (es : List (Key × Sums)) (i : ℕ) (k : Key) (t s : Sums) → AreOnce es → slice_get es i ≡ Some (k, t)
    → (Fits (plus t s) → ⊥) → Fits (added_to (get (map_of es) k) s) → ⊥
refused es i k t s once h spent fits = spent (subst (λ o. Fits (added_to o s)) (map_at es i k t once h) fits)

pub added : (es more : List (Key × Sums)) (k : Key) (s : Sums) → place_of k es ≡ None → Fits s
    → more ≡ es ++ (k, s) ∷ []
    → Fits (added_to (get (map_of es) k) s) × (map_of more ≡ insert (map_of es) k (added_to (get (map_of es) k) s))
added es more k s none fits e =
    let here : get (map_of es) k ≡ None = map_absent es k none in
    rw here (fits, ap map_of e ∙ map_push es k s none)

-- ---- the entries in the order of their keys

resolved-keys : (es : List (Key × Sums)) (ps : List (Key × ℕ)) → keys_of (map (resolved es) ps) ≡ keys_of ps
unfolding resolved
resolved-keys es [] = refl
resolved-keys es (p ∷ ps) = ap (λ ks. p.0 ∷ ks) (resolved-keys es ps)

find_resolved : (q : Key) (es : List (Key × Sums)) (ps : List (Key × ℕ))
    → find key_cmp q (map (resolved es) ps)
    ≡ option_map (λ i. (slice_index_or es i nothing).1) (lookup (is_at (key_cmp q)) ps)
unfolding resolved
find_resolved q es [] = refl
find_resolved q es (p ∷ ps) =
    elim (is_key q p.0) as (λ b. cond b (Some (slice_index_or es p.1 nothing).1) (find key_cmp q (map (resolved es) ps))
    ≡ option_map (λ i. (slice_index_or es i nothing).1) (cond b (Some p.1) (lookup (is_at (key_cmp q)) ps))) [
      | true ↦ refl
      | false ↦ find_resolved q es ps
    ]

find_placed : (q : Key) (es : List (Key × Sums))
    → option_map (λ i. (slice_index_or es i nothing).1) (place_of q es) ≡ find key_cmp q es
unfolding place_of
find_placed q [] = refl
find_placed q (e ∷ es) =
    elim (is_key q e.0)
    as (λ b. option_map (λ i. (slice_index_or (e ∷ es) i nothing).1) (cond b (Some 0) (option_map suc (place_of q es)))
    ≡ cond b (Some e.1) (find key_cmp q es)) [
      | true ↦ refl
      | false ↦ elim (place_of q es) as (λ o. option_map (λ i. (slice_index_or es i nothing).1) o ≡ find key_cmp q es
          → option_map (λ i. (slice_index_or (e ∷ es) i nothing).1) (option_map suc o) ≡ find key_cmp q es) [
            | None ↦ λ h. h
            | Some i ↦ λ h. h
          ] (find_placed q es)
    ]

pub in_order : (ps : List (Key × ℕ)) (es : List (Key × Sums)) → IsStrictlySortedBy key_cmp (keys_of ps)
    → ArePlaces ps es → map (resolved es) ps ≡ entries (map_of es)
in_order ps es ordered are =
    let list = map (resolved es) ps in
    let same : map_of list ≡ map_of es = same_map keys_total exact_keys (map_of list) (map_of es) (λ q.
    get-from_entries keys_total list q ∙ find_resolved q es ps
    ∙ ap (option_map (λ i. (slice_index_or es i nothing).1)) (are.1 q) ∙ find_placed q es
    ∙ sym (get-from_entries keys_total es q)) in
    sym (entries_are list (subst (IsStrictlySortedBy key_cmp) (sym (resolved-keys es ps)) ordered)) ∙ ap entries same

pub placed : (ps : List (Key × ℕ)) (es : List (Key × Sums)) → ArePlaces ps es
    → All (λ p. lookup (is_at (key_cmp p.0)) ps ≡ Some p.1) ps
    → AllByRecursion (λ (p : Key × ℕ). place_of p.0 es ≡ Some p.1) ps
placed ps es are stands =
    part ps (recursion_from_All (λ (p : Key × ℕ). lookup (is_at (key_cmp p.0)) ps ≡ Some p.1) ps stands)
  where
    part : (qs : List (Key × ℕ)) → AllByRecursion (λ (p : Key × ℕ). lookup (is_at (key_cmp p.0)) ps ≡ Some p.1) qs
        → AllByRecursion (λ (p : Key × ℕ). place_of p.0 es ≡ Some p.1) qs
    part [] h = tt
    part (q ∷ qs) h = (sym (are.1 q.0) ∙ h.0, part qs h.1)

pub one_more : (es list new rest all : List (Key × Sums)) (k : Key) (i : ℕ) (e : Key × Sums) → place_of k es ≡ Some i
    → e ≡ slice_index_or es i e → new ≡ list ++ (k, e.1) ∷ []
    → list ++ resolved es (k, i) ∷ rest ≡ all → new ++ rest ≡ all
unfolding resolved
one_more es list new rest all k i e place is more before =
    let at = found k es i place in
    let this : e ≡ (k, at.0) = is ∙ read es i e (k, at.0) at.1 in
    let that : slice_index_or es i nothing ≡ (k, at.0) = read es i nothing (k, at.0) at.1 in
    let same : (k, e.1) ≡ (k, (slice_index_or es i nothing).1) = ap (λ (x : Key × Sums). (k, x.1)) (this ∙ sym that) in
    ap (λ xs. xs ++ rest) more ∙ append_assoc list ((k, e.1) ∷ []) rest ∙ ap (λ x. list ++ x ∷ rest) same ∙ before

-- what is left of a list, from its next entry on
pub next_is : (es : List (Key × Sums)) (i : ℕ) → i < length es
    → drop i es ≡ slice_index_or es i nothing ∷ drop (i + 1) es
next_is es i less = rw add-one (drop-cons es i nothing less)
