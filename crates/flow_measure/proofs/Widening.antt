-- Sums of sums: what was gathered by one key and then by a wider one was gathered by the wider one.
use Rattle.std.proofs.Common.{◌≡◌, ℕ, ◌+◌, Bool, true, false, cond, List, [], ◌∷◌, ◌++◌, map, Option, Some, None, refl}
use Rattle.std.proofs.Common.{sym, ap, ◌∙◌, arith, T}
use Rattle.std.specs.Ordering.{is_eq, is_lt}
use Rattle.std.specs.declared.cmp.Ordering.{Ordering}
use Rattle.std.specs.declared.cmp.Ordering.TheVariants.{Less, Equal, Greater}
use Rattle.std.specs.FinMap.{FinMap, entries, get, insert, get-entries, entries-insert, entries_sorted}
use Rattle.std.specs.FinMap.Entries.{find, put, is_sorted, below_all, by_order}
use Rattle.flow_measure.specs.declared.rows.Key.{Key}
use Rattle.flow_measure.specs.declared.rows.Sums.{Sums}
use Rattle.flow_measure.specs.Sums.{key_cmp, is_key, plus, gathered}
use Rattle.flow_measure.proofs.Keys.{keys_total, exact_keys}
use Rattle.flow_measure.proofs.Gathering.{first, second, joined, sum_at, sum_at-append, one, entries_of_none}
use Rattle.flow_measure.proofs.Gathering.{joined-none}
use Rattle.flow_measure.proofs.Gathering.{put-is_gathered, gathered-again, gathered-same}

abbrev pub rekeyed : (Key → Key) → List (Key × Sums) → List (Key × Sums)
rekeyed g es = map (λ e. (g e.0, e.1)) es

add_swap : (a b c : ℕ) → (a + b) + c ≡ (a + c) + b
add_swap a b c = omega arith

add_turn : (a b : ℕ) → a + b ≡ b + a
add_turn a b = omega arith

add_join : (a b c : ℕ) → a + (b + c) ≡ (a + b) + c
add_join a b c = omega arith

plus-swap : (a b c : Sums) → plus (plus a b) c ≡ plus (plus a c) b
plus-swap a b c =
    rw (
      add_swap a.flows b.flows c.flows,
      add_swap a.octets b.octets c.octets,
      add_swap a.packets b.packets c.packets,
    ) refl

pub joined-comm : (a b : Option Sums) → joined a b ≡ joined b a
joined-comm None None = refl
joined-comm None (Some b) = refl
joined-comm (Some a) None = refl
joined-comm (Some a) (Some b) =
    rw (add_turn a.flows b.flows, add_turn a.octets b.octets, add_turn a.packets b.packets) refl

joined-assoc : (a b c : Option Sums) → joined a (joined b c) ≡ joined (joined a b) c
joined-assoc None b c = refl
joined-assoc (Some a) None c = refl
joined-assoc (Some a) (Some b) None = refl
joined-assoc (Some a) (Some b) (Some c) =
    rw (
      add_join a.flows b.flows c.flows,
      add_join a.octets b.octets c.octets,
      add_join a.packets b.packets c.packets,
    ) refl

pub pushed : (q k : Key) (s : Sums) (es : List (Key × Sums))
    → sum_at q ((k, s) ∷ es) ≡ joined (cond (is_key q k) (Some s) None) (sum_at q es)
pushed q k s es = sum_at-append q ((k, s) ∷ []) es ∙ ap (λ a. joined a (sum_at q es)) (one q k s)

same_some : (s t : Sums) → Some s ≡ Some t → s ≡ t
same_some s t e = cc

-- a sum that grew in its place
grown : (b : Bool) (x s t : Sums) (r : Option Sums) → Some (plus x s) ≡ Some t
    → joined (cond b (Some t) None) r ≡ joined (joined (cond b (Some x) None) r) (cond b (Some s) None)
grown true x s t None e = sym e
grown true x s t (Some r) e =
    ap (λ (y : Sums). Some (plus y r)) (sym (same_some (plus x s) t e)) ∙ ap Some (plus-swap x s r)
grown false x s t r e = sym (joined-none r)

is_less : (o : Ordering) → T (is_lt o) → o ≡ Less
is_less Less p = refl
is_less Equal p = absurd p
is_less Greater p = absurd p

-- a key below the first of a list in order isn't found there
not_found : (k x : Key) (es : List (Key × Sums)) → key_cmp k x ≡ Less → T (below_all key_cmp x es)
    → find key_cmp k es ≡ None
not_found k x [] p h = refl
not_found k x (e ∷ es) p h =
    let past : key_cmp k e.0 ≡ Less = keys_total.trans k x e.0 p (is_less (key_cmp x e.0) (first _ _ h)) in
    ap (λ o. cond (is_eq o) (Some e.1) (find key_cmp k es)) past ∙ not_found k x es p (second _ _ h)

module _ (g : Key → Key) (q k : Key) (s t : Sums) where
  abbrev after : List (Key × Sums) → Option Sums
  after es = joined (sum_at q (rekeyed g es)) (cond (is_key q (g k)) (Some s) None)

  -- a sum put in a list in order is one pair more, whatever becomes of the keys
  rekeyed-put : (es : List (Key × Sums)) → T (is_sorted key_cmp es) → joined (find key_cmp k es) (Some s) ≡ Some t
      → sum_at q (rekeyed g (put key_cmp k t es)) ≡ after es
  rekeyed-put [] sorted h =
      one q (g k) t ∙ ap (λ (x : Sums). cond (is_key q (g k)) (Some x) None) (sym (same_some s t h))
  rekeyed-put (e ∷ es) sorted h =
      elim (key_cmp k e.0) as (λ o. key_cmp k e.0 ≡ o
      → joined (cond (is_eq o) (Some e.1) (find key_cmp k es)) (Some s) ≡ Some t
      → sum_at q (rekeyed g (by_order o ((k, t) ∷ e ∷ es) ((e.0, t) ∷ es) (e ∷ put key_cmp k t es)))
      ≡ after (e ∷ es)) [
        | Less ↦ λ w is.
            let none : find key_cmp k es ≡ None = not_found k e.0 es w (first _ _ sorted) in
            let same : s ≡ t = same_some s t (ap (λ a. joined a (Some s)) (sym none) ∙ is) in
            pushed q (g k) t (rekeyed g (e ∷ es))
            ∙ ap (λ (x : Sums). joined (cond (is_key q (g k)) (Some x) None) (sum_at q (rekeyed g (e ∷ es))))
            (sym same) ∙ joined-comm (cond (is_key q (g k)) (Some s) None) (sum_at q (rekeyed g (e ∷ es)))
        | Equal ↦ λ w is.
            let here : k ≡ e.0 = exact_keys k e.0 w in
            pushed q (g e.0) t (rekeyed g es) ∙ grown (is_key q (g e.0)) e.1 s t (sum_at q (rekeyed g es)) is
            ∙ ap (λ a. joined a (cond (is_key q (g e.0)) (Some s) None)) (sym (pushed q (g e.0) e.1 (rekeyed g es)))
            ∙ ap (λ x. joined (sum_at q (rekeyed g (e ∷ es))) (cond (is_key q (g x)) (Some s) None)) (sym here)
        | Greater ↦ λ w is.
            pushed q (g e.0) e.1 (rekeyed g (put key_cmp k t es))
            ∙ ap (joined (cond (is_key q (g e.0)) (Some e.1) None)) (rekeyed-put es (second _ _ sorted) is)
            ∙ joined-assoc (cond (is_key q (g e.0)) (Some e.1) None) (sum_at q (rekeyed g es))
            (cond (is_key q (g k)) (Some s) None)
            ∙ ap (λ a. joined a (cond (is_key q (g k)) (Some s) None)) (sym (pushed q (g e.0) e.1 (rekeyed g es)))
      ] refl h

abbrev pub plus_some : Option Sums → Sums → Sums
plus_some None s = s
plus_some (Some a) s = plus a s

pub joined-some : (a : Option Sums) (s : Sums) → joined a (Some s) ≡ Some (plus_some a s)
joined-some None s = refl
joined-some (Some a) s = refl

gathered-pushed : (k : Key) (s : Sums) (es : List (Key × Sums))
    → gathered ((k, s) ∷ es) ≡ insert (gathered es) k (plus_some (get (gathered es) k) s)
gathered-pushed k s es =
    gathered-same ((k, s) ∷ es) (es ++ (k, s) ∷ []) (λ q. sum_at-append q ((k, s) ∷ []) es
    ∙ joined-comm (sum_at q ((k, s) ∷ [])) (sum_at q es) ∙ sym (sum_at-append q es ((k, s) ∷ [])))
    ∙ sym (gathered-again es ((k, s) ∷ []))
    ∙ sym (put-is_gathered (gathered es) k s (plus_some (get (gathered es) k) s) (joined-some (get (gathered es) k) s))

no_entries : entries (gathered []) ≡ []
unfolding gathered
no_entries = entries_of_none

module _ (g : Key → Key) (q : Key) where
  rekeyed-insert : (m : FinMap key_cmp Sums) (k : Key) (s : Sums)
      → sum_at q (rekeyed g (entries (insert m k (plus_some (get m k) s))))
      ≡ joined (sum_at q (rekeyed g (entries m))) (cond (is_key q (g k)) (Some s) None)
  rekeyed-insert m k s =
      ap (λ es. sum_at q (rekeyed g es)) (entries-insert keys_total m k (plus_some (get m k) s))
      ∙ rekeyed-put g q k s (plus_some (get m k) s) (entries m) (entries_sorted m)
      (ap (λ a. joined a (Some s)) (sym (get-entries m k)) ∙ joined-some (get m k) s)

  pub rekeyed-gathered : (es : List (Key × Sums))
      → sum_at q (rekeyed g (entries (gathered es))) ≡ sum_at q (rekeyed g es)
  rekeyed-gathered [] = ap (λ es. sum_at q (rekeyed g es)) no_entries
  rekeyed-gathered (e ∷ es) =
      ap (λ m. sum_at q (rekeyed g (entries m))) (gathered-pushed e.0 e.1 es)
      ∙ rekeyed-insert (gathered es) e.0 e.1
      ∙ ap (λ a. joined a (cond (is_key q (g e.0)) (Some e.1) None)) (rekeyed-gathered es)
      ∙ joined-comm (sum_at q (rekeyed g es)) (cond (is_key q (g e.0)) (Some e.1) None)
      ∙ sym (pushed q (g e.0) e.1 (rekeyed g es))
