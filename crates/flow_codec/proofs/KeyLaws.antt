-- Two lists of entries with no key in both, and what holds of each entry.
use Rattle.std.proofs.Common.{◌≡◌, ◌∙◌, ℕ, List, [], ◌∷◌, ◌++◌, None, refl, sym, subst, inl, inr, ◌⊎◌}
use Rattle.std.specs.Prelude.{nat_eq}
use Rattle.std.specs.List.{AllByRecursion}
use Rattle.std.proofs.lemmas.Bool.{eqb-true}
use Rattle.flow_codec.specs.declared.templates.DomainTemplates.{DomainTemplates}
use Rattle.flow_codec.specs.Templates.{IsOnce, AreDefinitions}
use Rattle.flow_codec.proofs.Steps.{by_bool}
use Rattle.flow_codec.proofs.Entries.{same, without, found, with_entry, lookup-remove, found-insert-other}
use Rattle.flow_codec.proofs.Entries.{found-remove-none}

-- ---- two lists

-- no key is in both
abbrev pub Apart : {V : Type 0} → List (ℕ × V) → List (ℕ × V) → Type 0
Apart xs ys = (key : ℕ) → (found key xs ≡ None) ⊎ (found key ys ≡ None)

pub apart_turned : {V : Type 0} (xs ys : List (ℕ × V)) → Apart xs ys → Apart ys xs
apart_turned xs ys h key = elim (h key) [ inl a ↦ inr a | inr a ↦ inl a ]

pub none_in : {V : Type 0} (key : ℕ) (xs ys : List (ℕ × V)) → found key (xs ++ ys) ≡ None
    → (found key xs ≡ None) × (found key ys ≡ None)
none_in key [] ys none = (refl, none)
none_in key (e ∷ xs) ys none = elim (by_bool (nat_eq key e.0)) [
  | inl w ↦ let h = rw w at none in absurd cc
  | inr w ↦ let h = rw w at none in let more = none_in key xs ys h in (rw w more.0, more.1)
]

none_both : {V : Type 0} (key : ℕ) (xs ys : List (ℕ × V)) → found key xs ≡ None → found key ys ≡ None
    → found key (xs ++ ys) ≡ None
none_both key [] ys a b = b
none_both key (e ∷ xs) ys a b = elim (by_bool (nat_eq key e.0)) [
  | inl w ↦ let h = rw w at a in absurd cc
  | inr w ↦ let h = rw w at a in rw w (none_both key xs ys h b)
]

pub first_once : {V : Type 0} (xs ys : List (ℕ × V)) → IsOnce (xs ++ ys) → IsOnce xs
first_once [] ys once = tt
first_once (e ∷ xs) ys once = ((none_in e.0 xs ys once.0).0, first_once xs ys once.1)

second_once : {V : Type 0} (xs ys : List (ℕ × V)) → IsOnce (xs ++ ys) → IsOnce ys
second_once [] ys once = once
second_once (e ∷ xs) ys once = second_once xs ys once.1

pub are_apart : {V : Type 0} (xs ys : List (ℕ × V)) → IsOnce (xs ++ ys) → Apart xs ys
are_apart [] ys once key = inl refl
are_apart (e ∷ xs) ys once key = elim (by_bool (nat_eq key e.0)) [
  | inl w ↦ inr (subst (λ (k : ℕ). found k ys ≡ None) (sym (eqb-true _ _ w)) (none_in e.0 xs ys once.0).1)
  | inr w ↦ elim (are_apart xs ys once.1 key) [
    | inl a ↦ inl (rw w a)
    | inr a ↦ inr a
  ]
]

pub both_once : {V : Type 0} (xs ys : List (ℕ × V)) → IsOnce xs → IsOnce ys → Apart xs ys → IsOnce (xs ++ ys)
both_once [] ys first second apart = second
both_once (e ∷ xs) ys first second apart = (none_both e.0 xs ys first.0 head, both_once xs ys first.1 second rest)
  where
    head : found e.0 ys ≡ None
    head = elim (apart e.0) [
      | inl a ↦ let h = rw (same e.0) at a in absurd cc
      | inr a ↦ a
    ]

    rest : Apart xs ys
    rest key = elim (by_bool (nat_eq key e.0)) [
      | inl w ↦ inl (subst (λ (k : ℕ). found k xs ≡ None) (sym (eqb-true _ _ w)) first.0)
      | inr w ↦ elim (apart key) [
        | inl a ↦ let h = rw w at a in inl h
        | inr a ↦ inr a
      ]
    ]

-- one list takes a key, and the other loses it
pub apart_put : {V : Type 0} (key : ℕ) (value : V) (xs ys : List (ℕ × V)) → IsOnce ys → Apart xs ys
    → Apart (with_entry xs key value) (without key ys)
apart_put key value xs ys once apart other = elim (by_bool (nat_eq other key)) [
  | inl w ↦ inr (subst (λ (k : ℕ). found k (without key ys) ≡ None) (sym (eqb-true _ _ w)) (lookup-remove key ys once))
  | inr w ↦ elim (apart other) [
    | inl a ↦ inl (found-insert-other key other xs value w ∙ a)
    | inr a ↦ inr (found-remove-none key other ys a)
  ]
]

pub apart_left : {V : Type 0} (key : ℕ) (xs ys : List (ℕ × V)) → Apart xs ys → Apart (without key xs) ys
apart_left key xs ys apart other = elim (apart other) [ inl a ↦ inl (found-remove-none key other xs a) | inr a ↦ inr a ]

-- the definitions of a domain, with their two lists apart
pub record InTwo (here : DomainTemplates) : Type 0 where
  pub first : IsOnce here.templates
  pub second : IsOnce here.options
  pub apart : Apart here.templates here.options

pub in_two : (here : DomainTemplates) → AreDefinitions here → InTwo here
in_two here h = record {
  first = first_once here.templates here.options h.once;
  second =
      second_once here.templates here.options h.once;
  apart = are_apart here.templates here.options h.once;
}

-- ---- what holds of each entry

pub all_left : {V : Type 0} (P : ℕ × V → Type 0) (key : ℕ) (es : List (ℕ × V)) → AllByRecursion P es
    → AllByRecursion P (without key es)
all_left P key [] h = tt
all_left P key (e ∷ es) h = elim (by_bool (nat_eq key e.0)) [
  | inl w ↦ rw w h.1
  | inr w ↦ rw w (h.0, all_left P key es h.1)
]

pub all_put : {V : Type 0} (P : ℕ × V → Type 0) (key : ℕ) (value : V) (es : List (ℕ × V)) → P (key, value)
    → AllByRecursion P es → AllByRecursion P (with_entry es key value)
all_put P key value [] new h = (new, tt)
all_put P key value (e ∷ es) new h = elim (by_bool (nat_eq key e.0)) [
  | inl w ↦ rw w (subst (λ (k : ℕ). P (k, value)) (eqb-true _ _ w) new, h.1)
  | inr w ↦ rw w (h.0, all_put P key value es new h.1)
]
