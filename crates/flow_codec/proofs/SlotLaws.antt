-- Entries in slots: where each is, and what a change of one slot changes.
use Rattle.std.proofs.Common.{◌≡◌, ℕ, zero, suc, ◌+◌, ◌<◌, Bool, true, false, cond, eqb, append_assoc, List, [], ◌∷◌}
use Rattle.std.proofs.Common.{length, set, get_or, drop, drop-cons, add-one, Option, Some, None, refl, sym, ap, subst}
use Rattle.std.proofs.Common.{◌++◌, ◌∙◌, arith, inl, inr}
use Rattle.std.specs.Prelude.{nat_eq, unwrap_or}
use Rattle.std.specs.Option.{option_map}
use Rattle.std.specs.List.{slice_get}
use Rattle.std.specs.Bool.{IsTrue}
use Rattle.std.specs.Cmp.{nat_eq_equiv}
use Rattle.std.specs.Map.{lookup}
use Rattle.std.proofs.lemmas.List.{nil_from_length}
use Rattle.std.proofs.lemmas.Map.Made.{nil_from_lookup}
use Rattle.std.proofs.lemmas.Bool.{eqb-true}
use Rattle.std.proofs.Math.Dec.{eqb-suc-zero}
use Rattle.std.proofs.lemmas.Option.{get_or_from_slice_get}
use Rattle.flow_codec.specs.Templates.{IsOnce}
use Rattle.flow_codec.specs.declared.slot_table.SlotTable.{SlotTable}
use Rattle.flow_codec.specs.Slots.{standing, place_of, AreSlots, HasRoom}
use Rattle.flow_codec.proofs.Steps.{by_bool}
use Rattle.std.proofs.lemmas.Bool.Decides.{nat_tests}
use Rattle.flow_codec.proofs.Entries.{same, without, found, with_entry, once_insert, once_remove, remove-absent}

-- the slot after an empty or another one
behind : (o : Option ℕ) (i : ℕ) → option_map suc o ≡ Some i → (j : ℕ) × (o ≡ Some j) × (i ≡ suc j)
behind None i e = absurd cc
behind (Some j) i e = (j, refl, cc)

no_behind : (o : Option ℕ) → option_map suc o ≡ None → o ≡ None
no_behind None e = refl
no_behind (Some j) e = absurd cc

apart_back : (k q : ℕ) → nat_eq k q ≡ false → nat_eq q k ≡ false
apart_back k q e = grind (arith, nat_tests)

module _ {V : Type 0} (k : ℕ) where
  -- ---- the entry in a slot

  slot_at : (ss : List (Option (ℕ × V))) (o : Option (ℕ × V)) (i j : ℕ) (v : V) → i ≡ suc j
      → slice_get ss j ≡ Some (Some (k, v)) → slice_get (o ∷ ss) i ≡ Some (Some (k, v))
  slot_at ss o i j v e is = rw e is

  pub found_at : (ss : List (Option (ℕ × V))) (i : ℕ) → place_of k ss ≡ Some i
      → (v : V) × (i < length ss) × (slice_get ss i ≡ Some (Some (k, v))) × (found k (standing ss) ≡ Some v)
  found_at [] i e = absurd cc
  found_at (None ∷ ss) i e =
      let b = behind (place_of k ss) i e in
      let h = found_at ss b.0 b.1 in
      (h.0, omega (arith, h.1, b.2), slot_at ss None i b.0 h.0 b.2 h.2, h.3)
  found_at (Some x ∷ ss) i e = elim (by_bool (nat_eq k x.0)) [
    | inl w ↦
        let is = rw w at e in
        let first : i ≡ 0 = cc in
        (x.1, omega (arith, first), at_first x i first (sym (eqb-true _ _ w)), rw w refl)
    | inr w ↦
        let is = rw w at e in
        let b = behind (place_of k ss) i is in
        let h = found_at ss b.0 b.1 in
        (h.0, omega (arith, h.1, b.2), slot_at ss (Some x) i b.0 h.0 b.2 h.2, rw w h.3)
  ]
    where
      at_first : (x : ℕ × V) (i : ℕ) → i ≡ 0 → x.0 ≡ k → slice_get (Some x ∷ ss) i ≡ Some (Some (k, x.1))
      at_first x i first key = rw (first, ← key) refl

  pub absent : (ss : List (Option (ℕ × V))) → place_of k ss ≡ None → found k (standing ss) ≡ None
  absent [] e = refl
  absent (None ∷ ss) e = absent ss (no_behind (place_of k ss) e)
  absent (Some x ∷ ss) e = elim (by_bool (nat_eq k x.0)) [
    | inl w ↦ let is = rw w at e in absurd cc
    | inr w ↦ let is = rw w at e in rw w (absent ss (no_behind (place_of k ss) is))
  ]

  pub no_place : (ss : List (Option (ℕ × V))) → found k (standing ss) ≡ None → place_of k ss ≡ None
  no_place [] e = refl
  no_place (None ∷ ss) e = rw (no_place ss e) refl
  no_place (Some x ∷ ss) e = elim (by_bool (nat_eq k x.0)) [
    | inl w ↦ let is = rw w at e in absurd cc
    | inr w ↦ let is = rw w at e in rw (w, no_place ss is) refl
  ]

  -- ---- an entry in the slot of another under its number

  pub standing-replace : (ss : List (Option (ℕ × V))) (i : ℕ) (v : V) → place_of k ss ≡ Some i
      → standing (set ss i (Some (k, v))) ≡ with_entry (standing ss) k v
  standing-replace [] i v e = absurd cc
  standing-replace (None ∷ ss) i v e =
      let b = behind (place_of k ss) i e in
      rw b.2 (standing-replace ss b.0 v b.1)
  standing-replace (Some x ∷ ss) i v e = elim (by_bool (nat_eq k x.0)) [
    | inl w ↦
        let is = rw w at e in
        let first : i ≡ 0 = cc in
        let key : k ≡ x.0 = eqb-true _ _ w in
        rw (first, w) (ap (λ (n : ℕ). (n, v) ∷ standing ss) key)
    | inr w ↦
        let is = rw w at e in
        let b = behind (place_of k ss) i is in
        rw (b.2, w) (ap (λ (t : List (ℕ × V)). x ∷ t) (standing-replace ss b.0 v b.1))
  ]

  pub place-replace : (q : ℕ) (ss : List (Option (ℕ × V))) (i : ℕ) (v : V) → place_of k ss ≡ Some i
      → place_of q (set ss i (Some (k, v))) ≡ place_of q ss
  place-replace q [] i v e = absurd cc
  place-replace q (None ∷ ss) i v e =
      let b = behind (place_of k ss) i e in
      rw b.2 (ap (option_map suc) (place-replace q ss b.0 v b.1))
  place-replace q (Some x ∷ ss) i v e = elim (by_bool (nat_eq k x.0)) [
    | inl w ↦
        let is = rw w at e in
        let first : i ≡ 0 = cc in
        let key : k ≡ x.0 = eqb-true _ _ w in
        rw first (ap (λ (n : ℕ). cond (nat_eq q n) (Some 0) (option_map suc (place_of q ss))) key)
    | inr w ↦
        let is = rw w at e in
        let b = behind (place_of k ss) i is in
        rw b.2 (ap (λ (o : Option ℕ). cond (nat_eq q x.0) (Some 0) (option_map suc o)) (place-replace q ss b.0 v b.1))
  ]

  -- ---- an entry in a new slot

  pub standing-push : (ss : List (Option (ℕ × V))) (v : V) → place_of k ss ≡ None
      → standing (ss ++ Some (k, v) ∷ []) ≡ with_entry (standing ss) k v
  standing-push [] v e = refl
  standing-push (None ∷ ss) v e = standing-push ss v (no_behind (place_of k ss) e)
  standing-push (Some x ∷ ss) v e = elim (by_bool (nat_eq k x.0)) [
    | inl w ↦ let is = rw w at e in absurd cc
    | inr w ↦ let is = rw w at e in
        rw w (ap (λ (t : List (ℕ × V)). x ∷ t) (standing-push ss v (no_behind (place_of k ss) is)))
  ]

  place-push-same : (ss : List (Option (ℕ × V))) (v : V) → place_of k ss ≡ None
      → place_of k (ss ++ Some (k, v) ∷ []) ≡ Some (length ss)
  place-push-same [] v e = rw (same k) refl
  place-push-same (None ∷ ss) v e = rw (place-push-same ss v (no_behind (place_of k ss) e)) refl
  place-push-same (Some x ∷ ss) v e = elim (by_bool (nat_eq k x.0)) [
    | inl w ↦ let is = rw w at e in absurd cc
    | inr w ↦ let is = rw w at e in rw (w, place-push-same ss v (no_behind (place_of k ss) is)) refl
  ]

  place-push-other : (q : ℕ) (ss : List (Option (ℕ × V))) (v : V) → nat_eq q k ≡ false
      → place_of q (ss ++ Some (k, v) ∷ []) ≡ place_of q ss
  place-push-other q [] v apart = rw apart refl
  place-push-other q (None ∷ ss) v apart = ap (option_map suc) (place-push-other q ss v apart)
  place-push-other q (Some x ∷ ss) v apart =
      ap (λ (o : Option ℕ). cond (nat_eq q x.0) (Some 0) (option_map suc o)) (place-push-other q ss v apart)

  pub place-push : (q : ℕ) (ss : List (Option (ℕ × V))) (v : V) → place_of k ss ≡ None
      → place_of q (ss ++ Some (k, v) ∷ []) ≡ cond (nat_eq k q) (Some (length ss)) (place_of q ss)
  place-push q ss v e = elim (by_bool (nat_eq k q)) [
    | inl w ↦ rw w (subst (λ (n : ℕ). place_of n (ss ++ Some (k, v) ∷ []) ≡ Some (length ss)) (eqb-true _ _ w)
        (place-push-same ss v e))
    | inr w ↦ rw w (place-push-other q ss v (apart_back k q w))
  ]

  -- the entry in a slot is found under its number
  pub stands : (ss : List (Option (ℕ × V))) (i : ℕ) (v : V) → IsOnce (standing ss) → slice_get ss i ≡ Some (Some (k, v))
      → found k (standing ss) ≡ Some v
  stands [] i v once is = absurd cc
  stands (None ∷ ss) zero v once is = absurd cc
  stands (None ∷ ss) (suc i) v once is = stands ss i v once is
  stands (Some x ∷ ss) zero v once is =
      let e : x ≡ (k, v) = ap (λ (o : Option (Option (ℕ × V))). unwrap_or (unwrap_or o None) x) is in
      rw (e, same k) refl
  stands (Some x ∷ ss) (suc i) v once is = elim (by_bool (nat_eq k x.0)) [
    | inl w ↦
        let key : x.0 ≡ k = sym (eqb-true _ _ w) in
        let none : found k (standing ss) ≡ None = subst (λ (n : ℕ). found n (standing ss) ≡ None) key once.0 in
        let some = stands ss i v once.1 is in
        absurd cc
    | inr w ↦ rw w (stands ss i v once.1 is)
  ]

  -- ---- a slot that is left empty

  pub standing-take : (ss : List (Option (ℕ × V))) (i : ℕ) → place_of k ss ≡ Some i
      → standing (set ss i None) ≡ without k (standing ss)
  standing-take [] i e = absurd cc
  standing-take (None ∷ ss) i e =
      let b = behind (place_of k ss) i e in
      rw b.2 (standing-take ss b.0 b.1)
  standing-take (Some x ∷ ss) i e = elim (by_bool (nat_eq k x.0)) [
    | inl w ↦
        let is = rw w at e in
        let first : i ≡ 0 = cc in
        rw (first, w) refl
    | inr w ↦
        let is = rw w at e in
        let b = behind (place_of k ss) i is in
        rw (b.2, w) (ap (λ (t : List (ℕ × V)). x ∷ t) (standing-take ss b.0 b.1))
  ]

  place-take-same : (ss : List (Option (ℕ × V))) (i : ℕ) → IsOnce (standing ss) → place_of k ss ≡ Some i
      → place_of k (set ss i None) ≡ None
  place-take-same [] i once e = absurd cc
  place-take-same (None ∷ ss) i once e =
      let b = behind (place_of k ss) i e in
      rw (b.2, place-take-same ss b.0 once b.1) refl
  place-take-same (Some x ∷ ss) i once e = elim (by_bool (nat_eq k x.0)) [
    | inl w ↦
        let is = rw w at e in
        let first : i ≡ 0 = cc in
        let key : x.0 ≡ k = sym (eqb-true _ _ w) in
        let none : found k (standing ss) ≡ None = subst (λ (n : ℕ). found n (standing ss) ≡ None) key once.0 in
        rw (first, no_place ss none) refl
    | inr w ↦
        let is = rw w at e in
        let b = behind (place_of k ss) i is in
        rw (b.2, w, place-take-same ss b.0 once.1 b.1) refl
  ]

  place-take-other : (q : ℕ) (ss : List (Option (ℕ × V))) (i : ℕ) → nat_eq q k ≡ false → place_of k ss ≡ Some i
      → place_of q (set ss i None) ≡ place_of q ss
  place-take-other q [] i apart e = absurd cc
  place-take-other q (None ∷ ss) i apart e =
      let b = behind (place_of k ss) i e in
      rw b.2 (ap (option_map suc) (place-take-other q ss b.0 apart b.1))
  place-take-other q (Some x ∷ ss) i apart e = elim (by_bool (nat_eq k x.0)) [
    | inl w ↦
        let is = rw w at e in
        let first : i ≡ 0 = cc in
        let key : k ≡ x.0 = eqb-true _ _ w in
        let other : nat_eq q x.0 ≡ false = subst (λ (n : ℕ). nat_eq q n ≡ false) key apart in
        rw (first, other) refl
    | inr w ↦
        let is = rw w at e in
        let b = behind (place_of k ss) i is in
        rw b.2 (ap (λ (o : Option ℕ). cond (nat_eq q x.0) (Some 0) (option_map suc o))
        (place-take-other q ss b.0 apart b.1))
  ]

  pub place-take : (q : ℕ) (ss : List (Option (ℕ × V))) (i : ℕ) → IsOnce (standing ss) → place_of k ss ≡ Some i
      → place_of q (set ss i None) ≡ cond (nat_eq k q) None (place_of q ss)
  place-take q ss i once e = elim (by_bool (nat_eq k q)) [
    | inl w ↦ rw w (subst (λ (n : ℕ). place_of n (set ss i None) ≡ None) (eqb-true _ _ w) (place-take-same ss i once e))
    | inr w ↦ rw w (place-take-other q ss i (apart_back k q w) e)
  ]

-- ---- slots after a change, with a map that knows the places

module _ {V : Type 0} (k : ℕ) (ss : List (Option (ℕ × V))) (place new : ℕ → Option ℕ) (h : AreSlots ss place) where
  pub replaced : (i : ℕ) (v : V) → place k ≡ Some i → AreSlots (set ss i (Some (k, v))) place
  replaced i v e =
      let there : place_of k ss ≡ Some i = sym (h.places k) ∙ e in
      record {
        once = rw (standing-replace k ss i v there) (once_insert k (standing ss) v h.once);
        places = λ q. h.places q ∙ sym (place-replace k q ss i v there);
      }

  pub pushed : (v : V) → place k ≡ None → ((q : ℕ) → new q ≡ cond (nat_eq k q) (Some (length ss)) (place q))
      → AreSlots (ss ++ Some (k, v) ∷ []) new
  pushed v e knows =
      let none : place_of k ss ≡ None = sym (h.places k) ∙ e in
      record {
        once = rw (standing-push k ss v none) (once_insert k (standing ss) v h.once);
        places = λ q. knows q ∙ ap (cond (nat_eq k q) (Some (length ss))) (h.places q) ∙ sym (place-push k q ss v none);
      }

  pub taken : (i : ℕ) → place k ≡ Some i → ((q : ℕ) → new q ≡ cond (nat_eq k q) None (place q))
      → AreSlots (set ss i None) new
  taken i e knows =
      let there : place_of k ss ≡ Some i = sym (h.places k) ∙ e in
      record {
        once = rw (standing-take k ss i there) (once_remove k (standing ss) h.once);
        places = λ q. knows q ∙ ap (cond (nat_eq k q) None) (h.places q) ∙ sym (place-take k q ss i h.once there);
      }

  -- ---- the same of the entries

  pub within : (i : ℕ) → place k ≡ Some i → i < length ss
  within i e = (found_at k ss i (sym (h.places k) ∙ e)).1

  pub seen : (i : ℕ) → place k ≡ Some i → (o : Option (ℕ × V)) → o ≡ get_or ss i o
      → (v : V) × (o ≡ Some (k, v)) × (found k (standing ss) ≡ Some v)
  seen i e o is =
      let f = found_at k ss i (sym (h.places k) ∙ e) in
      (f.0, is ∙ get_or_from_slice_get ss i (Some (k, f.0)) o f.2, f.3)

  pub seen-value : (i : ℕ) → place k ≡ Some i → (o : Option (ℕ × V)) (q : ℕ) (v : V) → o ≡ get_or ss i o
      → o ≡ Some (q, v) → found k (standing ss) ≡ Some v
  seen-value i e o q v is some =
      let s = seen i e o is in
      let same_value : s.0 ≡ v = second s.0 (sym s.1 ∙ some) in
      s.2 ∙ ap (λ (x : V). Some x) same_value
    where
      second : (x : V) → (let one : Option (ℕ × V) = Some (k, x) in one ≡ Some (q, v)) → x ≡ v
      second x e = ap (λ (c : Option (ℕ × V)). (unwrap_or c (k, x)).1) e

  pub seen-empty : (i : ℕ) → place k ≡ Some i → (o : Option (ℕ × V)) → o ≡ get_or ss i o → o ≡ None → ⊥
  seen-empty i e o is none =
      let s = seen i e o is in
      apart s.0 (sym s.1 ∙ none)
    where
      apart : (x : V) → (let one : Option (ℕ × V) = Some (k, x) in one ≡ None) → ⊥
      apart x e = cc

  pub missing : place k ≡ None → found k (standing ss) ≡ None
  missing e = absent k ss (sym (h.places k) ∙ e)

  pub standing-replaced : (i : ℕ) (v : V) → place k ≡ Some i
      → standing (set ss i (Some (k, v))) ≡ with_entry (standing ss) k v
  standing-replaced i v e = standing-replace k ss i v (sym (h.places k) ∙ e)

  pub standing-pushed : (v : V) → place k ≡ None → standing (ss ++ Some (k, v) ∷ []) ≡ with_entry (standing ss) k v
  standing-pushed v e = standing-push k ss v (sym (h.places k) ∙ e)

  pub standing-taken : (i : ℕ) → place k ≡ Some i → standing (set ss i None) ≡ without k (standing ss)
  standing-taken i e = standing-take k ss i (sym (h.places k) ∙ e)

  pub standing-kept : place k ≡ None → standing ss ≡ without k (standing ss)
  standing-kept e = sym (remove-absent k (standing ss) (missing e))

  pub kept : place k ≡ None → ((q : ℕ) → new q ≡ cond (nat_eq k q) None (place q)) → AreSlots ss new
  kept e knows = record {
    once = h.once;
    places = λ q. knows q ∙ elim (by_bool (nat_eq k q)) [
      | inl w ↦ rw w (subst (λ (n : ℕ). None ≡ place_of n ss) (eqb-true _ _ w) (sym e ∙ h.places k))
      | inr w ↦ rw w (h.places q)
    ];
  }

-- ---- one slot after the other

pub step-none : {V : Type 0} (ss : List (Option (ℕ × V))) (i : ℕ) (o : Option (ℕ × V)) → i < length ss
    → o ≡ get_or ss i o → o ≡ None → standing (drop i ss) ≡ standing (drop (i + 1) ss)
step-none ss i o lt is none =
    let here : get_or ss i o ≡ None = sym is ∙ none in
    rw (add-one, drop-cons ss i o lt, here) refl

pub step-some : {V : Type 0} (ss : List (Option (ℕ × V))) (i : ℕ) (o : Option (ℕ × V)) (e : ℕ × V) → i < length ss
    → o ≡ get_or ss i o → o ≡ Some e → standing (drop i ss) ≡ e ∷ standing (drop (i + 1) ss)
step-some ss i o e lt is some =
    let here : get_or ss i o ≡ Some e = sym is ∙ some in
    rw (add-one, drop-cons ss i o lt, here) refl

-- there are no entries where no number has a place
pub nothing-stands : {V : Type 0} (ss : List (Option (ℕ × V))) → ((q : ℕ) → place_of q ss ≡ None) → standing ss ≡ []
nothing-stands [] h = refl
nothing-stands (None ∷ ss) h = nothing-stands ss (λ q. no_behind (place_of q ss) (h q))
nothing-stands (Some x ∷ ss) h = let first = h x.0 in let is = rw (same x.0) at first in absurd cc

module _ {V : Type 0} where
  -- in a list with each number once, the entries before one don't have its number
  pub front-lacks : (front : List (ℕ × V)) (e : ℕ × V) (rest : List (ℕ × V)) → IsOnce (front ++ e ∷ rest)
      → found e.0 front ≡ None
  front-lacks [] e rest once = refl
  front-lacks (x ∷ front) e rest once = elim (by_bool (nat_eq e.0 x.0)) [
    | inl w ↦
        let here = once.0 in
        let key : x.0 ≡ e.0 = sym (eqb-true _ _ w) in
        let none : found e.0 (front ++ e ∷ rest) ≡ None =
        subst (λ (n : ℕ). found n (front ++ e ∷ rest) ≡ None) key here in
        absurd (there front none)
    | inr w ↦ rw w (front-lacks front e rest once.1)
  ]
    where
      there : (es : List (ℕ × V)) → found e.0 (es ++ e ∷ rest) ≡ None → ⊥
      there [] none = let is = rw (same e.0) at none in cc
      there (y ∷ es) none = elim (by_bool (nat_eq e.0 y.0)) [
        | inl t ↦ let is = rw t at none in cc
        | inr t ↦ there es (rw t at none)
      ]

  -- a new entry goes to the end
  pub insert-absent : (es : List (ℕ × V)) (k : ℕ) (v : V) → found k es ≡ None → with_entry es k v ≡ es ++ (k, v) ∷ []
  insert-absent [] k v e = refl
  insert-absent (x ∷ es) k v e = elim (by_bool (nat_eq k x.0)) [
    | inl w ↦ let is = rw w at e in absurd cc
    | inr w ↦ let is = rw w at e in rw w (ap (λ (t : List (ℕ × V)). x ∷ t) (insert-absent es k v is))
  ]

  -- a copy of the entries of the slots so far, and of one more slot
  pub copied-none : (copy whole : List (ℕ × V)) (ss : List (Option (ℕ × V))) (i : ℕ) (o : Option (ℕ × V))
      → i < length ss → o ≡ get_or ss i o → o ≡ None → copy ++ standing (drop i ss) ≡ whole
      → copy ++ standing (drop (i + 1) ss) ≡ whole
  copied-none copy whole ss i o lt is none so_far =
      ap (λ (t : List (ℕ × V)). copy ++ t) (sym (step-none ss i o lt is none)) ∙ so_far

  pub copied-some : (copy whole : List (ℕ × V)) (ss : List (Option (ℕ × V))) (i : ℕ) (o : Option (ℕ × V)) (e : ℕ × V)
      → i < length ss → o ≡ get_or ss i o → o ≡ Some e → IsOnce whole → copy ++ standing (drop i ss) ≡ whole
      → with_entry copy e.0 e.1 ++ standing (drop (i + 1) ss) ≡ whole
  copied-some copy whole ss i o e lt is some once so_far =
      let parts : copy ++ (e ∷ standing (drop (i + 1) ss)) ≡ whole =
      ap (λ (t : List (ℕ × V)). copy ++ t) (sym (step-some ss i o e lt is some)) ∙ so_far in
      let none : found e.0 copy ≡ None =
      front-lacks copy e (standing (drop (i + 1) ss)) (subst IsOnce (sym parts) once) in
      rw (insert-absent copy e.0 e.1 none, append_assoc) parts

-- the list is empty exactly where the map of the places is
pub empty-is : {V : Type 0} (ss : List (Option (ℕ × V))) (es : List (ℕ × ℕ)) (b : Bool)
    → AreSlots ss (λ q. lookup (nat_eq q) es) → (IsTrue b → length es ≡ 0) × (length es ≡ 0 → IsTrue b)
    → b ≡ eqb (length (standing ss)) 0
empty-is ss es true h t =
    let none : es ≡ [] = nil_from_length es (t.0 refl) in
    let nothing = nothing-stands ss (λ q. sym (h.places q) ∙ ap (lookup (nat_eq q)) none) in
    rw nothing refl
empty-is ss es false h t = elim (by_bool (eqb (length (standing ss)) 0)) [
  | inl w ↦
      let nothing : standing ss ≡ [] = nil_from_length (standing ss) (eqb-true _ _ w) in
      let none : es ≡ [] = nil_from_lookup nat_eq_equiv es (λ q. h.places q
      ∙ no_place q ss (ap (lookup (nat_eq q)) nothing)) in
      absurd (differs (t.1 (ap length none)))
  | inr w ↦ sym w
]
  where
    differs : IsTrue false → ⊥
    differs e = cc

-- room for one definition more is room
pub less_room : (n : ℕ) (table : SlotTable) → HasRoom (suc n) table → HasRoom n table
less_room n table h = record { slots = omega (arith, h.slots); places = omega (arith, h.places) }

-- in an empty list nothing is found
pub none_found : {V : Type 0} (id : ℕ) (es : List (ℕ × V)) → true ≡ eqb (length es) 0 → None ≡ lookup (nat_eq id) es
none_found id [] e = refl
none_found id (x ∷ xs) e = absurd (cc (e ∙ eqb-suc-zero (length xs)))
