-- Lists of entries under numbers: what is found after an insertion and after a removal.
use Rattle.std.proofs.Common.{◌≡◌, ℕ, suc, ◌≤◌, true, false, cond, List, [], ◌∷◌, ◌++◌, length, Option, Some, None}
use Rattle.std.proofs.Common.{refl, sym, ap, subst, ◌∙◌, arith, inl, inr}
use Rattle.std.specs.Prelude.{nat_eq}
use Rattle.std.specs.List.{AllByRecursion}
use Rattle.std.specs.Map.{lookup}
use Rattle.std.specs.Option.{option_or}
use Rattle.std.proofs.lemmas.Bool.{eq-eqb, eqb-true}
use Rattle.std.proofs.lemmas.Bool.Decides.{nat_tests}
use Rattle.indexmap.specs.IndexMap.{insert_entry, shift_remove_entry}
use Rattle.flow_codec.specs.Templates.{IsOnce}
use Rattle.flow_codec.proofs.Steps.{by_bool}

module _ {V : Type 0} where
  abbrev pub without : ℕ → List (ℕ × V) → List (ℕ × V)
  without k es = shift_remove_entry (nat_eq k) es

  abbrev pub found : ℕ → List (ℕ × V) → Option V
  found k es = lookup (nat_eq k) es

  abbrev pub with_entry : List (ℕ × V) → ℕ → V → List (ℕ × V)
  with_entry es k v = insert_entry nat_eq es k v

pub same : (k : ℕ) → nat_eq k k ≡ true
same k = eq-eqb k k refl

module _ {V : Type 0} (k : ℕ) where
  -- ---- look-ups

  pub lookup-insert : (es : List (ℕ × V)) (v : V) → found k (with_entry es k v) ≡ Some v
  lookup-insert [] v = rw (same k) refl
  lookup-insert (e ∷ es) v = elim (by_bool (nat_eq k e.0)) [
    | inl w ↦ rw (w, w) refl
    | inr w ↦ rw (w, w) (lookup-insert es v)
  ]

  pub remove-absent : (es : List (ℕ × V)) → found k es ≡ None → without k es ≡ es
  remove-absent [] none = refl
  remove-absent (e ∷ es) none = elim (by_bool (nat_eq k e.0)) [
    | inl w ↦ let h = rw w at none in absurd cc
    | inr w ↦ let h = rw w at none in rw w (ap (λ (t : List (ℕ × V)). e ∷ t) (remove-absent es h))
  ]

  pub lookup-remove : (es : List (ℕ × V)) → IsOnce es → found k (without k es) ≡ None
  lookup-remove [] once = refl
  lookup-remove (e ∷ es) once = elim (by_bool (nat_eq k e.0)) [
    | inl w ↦
        let same_key : k ≡ e.0 = eqb-true _ _ w in
        rw (w, same_key) once.0
    | inr w ↦ rw (w, w) (lookup-remove es once.1)
  ]

  -- ---- two changes of one entry

  pub insert-insert : (es : List (ℕ × V)) (v w : V) → with_entry (with_entry es k v) k w ≡ with_entry es k w
  insert-insert [] v w = rw (same k) refl
  insert-insert (e ∷ es) v w = elim (by_bool (nat_eq k e.0)) [
    | inl t ↦ rw (t, t) refl
    | inr t ↦ rw (t, t) (ap (λ (r : List (ℕ × V)). e ∷ r) (insert-insert es v w))
  ]

  pub remove-insert : (es : List (ℕ × V)) (v : V) → without k (with_entry es k v) ≡ without k es
  remove-insert [] v = rw (same k) refl
  remove-insert (e ∷ es) v = elim (by_bool (nat_eq k e.0)) [
    | inl t ↦ rw (t, t) refl
    | inr t ↦ rw (t, t) (ap (λ (r : List (ℕ × V)). e ∷ r) (remove-insert es v))
  ]

  -- the entry that is there, put in again
  pub insert-present : (es : List (ℕ × V)) (v : V) → found k es ≡ Some v → with_entry es k v ≡ es
  insert-present [] v e = absurd cc
  insert-present (x ∷ xs) v e = elim (by_bool (nat_eq k x.0)) [
    | inl w ↦
        let is = rw w at e in
        let there : x.1 ≡ v = cc in
        rw (w, ← there) refl
    | inr w ↦ let more = rw w at e in rw w (ap (λ (t : List (ℕ × V)). x ∷ t) (insert-present xs v more))
  ]

  -- ---- no number twice

  pub found-insert-other : (q : ℕ) (es : List (ℕ × V)) (v : V) → nat_eq q k ≡ false
      → found q (with_entry es k v) ≡ found q es
  found-insert-other q [] v apart = rw apart refl
  found-insert-other q (e ∷ es) v apart = elim (by_bool (nat_eq k e.0)) [
    | inl w ↦
        let other : nat_eq q e.0 ≡ false = subst (λ (n : ℕ). nat_eq q n ≡ false) (eqb-true _ _ w) apart in
        rw (w, other) refl
    | inr w ↦ rw w (ap (cond (nat_eq q e.0) (Some e.1)) (found-insert-other q es v apart))
  ]

  pub found-remove-other : (q : ℕ) (es : List (ℕ × V)) → nat_eq q k ≡ false → found q (without k es) ≡ found q es
  found-remove-other q [] apart = refl
  found-remove-other q (e ∷ es) apart = elim (by_bool (nat_eq k e.0)) [
    | inl w ↦
        let other : nat_eq q e.0 ≡ false = subst (λ (n : ℕ). nat_eq q n ≡ false) (eqb-true _ _ w) apart in
        rw (w, other) refl
    | inr w ↦ rw w (ap (cond (nat_eq q e.0) (Some e.1)) (found-remove-other q es apart))
  ]

  pub found-remove-none : (q : ℕ) (es : List (ℕ × V)) → found q es ≡ None → found q (without k es) ≡ None
  found-remove-none q [] none = refl
  found-remove-none q (e ∷ es) none = elim (by_bool (nat_eq q e.0)) [
    | inl t ↦ let h = rw t at none in absurd cc
    | inr t ↦
        let h = rw t at none in
        elim (by_bool (nat_eq k e.0)) [
          | inl w ↦ rw w h
          | inr w ↦ rw (w, t) (found-remove-none q es h)
        ]
  ]

  pub once_insert : (es : List (ℕ × V)) (v : V) → IsOnce es → IsOnce (with_entry es k v)
  once_insert [] v once = (refl, tt)
  once_insert (e ∷ es) v once = elim (by_bool (nat_eq k e.0)) [
    | inl w ↦ rw w once
    | inr w ↦
        let apart : nat_eq e.0 k ≡ false = grind (arith, nat_tests) in
        rw w (found-insert-other e.0 es v apart ∙ once.0, once_insert es v once.1)
  ]

  pub once_remove : (es : List (ℕ × V)) → IsOnce es → IsOnce (without k es)
  once_remove [] once = tt
  once_remove (e ∷ es) once = elim (by_bool (nat_eq k e.0)) [
    | inl w ↦ rw w once.1
    | inr w ↦ rw w (found-remove-none e.0 es once.0, once_remove es once.1)
  ]

  -- ---- lengths

  pub length-remove : (es : List (ℕ × V)) → length (without k es) ≤ length es
  length-remove [] = omega arith
  length-remove (e ∷ es) = elim (by_bool (nat_eq k e.0)) [
    | inl w ↦ rw w (omega arith)
    | inr w ↦ rw w (omega (arith, length-remove es))
  ]

  pub length-insert : (es : List (ℕ × V)) (v : V) → found k es ≡ None → length (with_entry es k v) ≡ suc (length es)
  length-insert [] v none = refl
  length-insert (e ∷ es) v none = elim (by_bool (nat_eq k e.0)) [
    | inl w ↦ let h = rw w at none in absurd cc
    | inr w ↦ let h = rw w at none in rw w (ap suc (length-insert es v h))
  ]

  pub length-replace : (es : List (ℕ × V)) (u v : V) → found k es ≡ Some u → length (with_entry es k v) ≡ length es
  length-replace [] u v e = absurd cc
  length-replace (x ∷ xs) u v e = elim (by_bool (nat_eq k x.0)) [
    | inl w ↦ rw w refl
    | inr w ↦ let h = rw w at e in rw w (ap suc (length-replace xs u v h))
  ]

  pub length-take_out : (es : List (ℕ × V)) (u : V) → found k es ≡ Some u → suc (length (without k es)) ≡ length es
  length-take_out [] u e = absurd cc
  length-take_out (x ∷ xs) u e = elim (by_bool (nat_eq k x.0)) [
    | inl w ↦ rw w refl
    | inr w ↦ let h = rw w at e in rw w (ap suc (length-take_out xs u h))
  ]

  -- an entry that goes to the end takes as much room as one in its place
  pub length-move : (es : List (ℕ × V)) (v : V) → IsOnce es
      → length (with_entry (without k es) k v) ≡ length (with_entry es k v)
  length-move es v once = by (found k es) refl
    where
      by : (o : Option V) → found k es ≡ o → length (with_entry (without k es) k v) ≡ length (with_entry es k v)
      by None e = ap (λ (t : List (ℕ × V)). length (with_entry t k v)) (remove-absent es e)
      by (Some u) e = length-insert (without k es) v (lookup-remove es once) ∙ length-take_out es u e
          ∙ sym (length-replace es u v e)

  -- ---- what holds of an entry that is found

  pub holds-found : (P : ℕ × V → Type 0) (es : List (ℕ × V)) (v : V) → AllByRecursion P es → found k es ≡ Some v
      → P (k, v)
  holds-found P [] v all e = absurd cc
  holds-found P (x ∷ xs) v all e = elim (by_bool (nat_eq k x.0)) [
    | inl w ↦
        let is = rw w at e in
        let there : x.1 ≡ v = cc in
        let same_key : x.0 ≡ k = sym (eqb-true _ _ w) in
        subst (λ (y : V). P (k, y)) there (subst (λ (n : ℕ). P (n, x.1)) same_key all.0)
    | inr w ↦ let more = rw w at e in holds-found P xs v all.1 more
  ]

-- an entry of two lists, one after the other
pub lookup_append : {V : Type 0} (k : ℕ) (es fs : List (ℕ × V))
    → found k (es ++ fs) ≡ option_or (found k es) (found k fs)
lookup_append k [] fs = refl
lookup_append k (e ∷ es) fs = elim (by_bool (nat_eq k e.0)) [
  | inl w ↦ rw w refl
  | inr w ↦ rw w (lookup_append k es fs)
]
