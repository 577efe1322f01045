-- The numbers at the places of a plan are those of the first values that count.
use Rattle.std.proofs.Common.{◌≡◌, ℕ, ◌<◌, ◌≤◌, Bool, true, false, cond, inl, inr, List, [], ◌∷◌, ◌++◌}
use Rattle.std.proofs.Common.{length, take, drop, Option, Some, None, refl, sym, ap, ap₂, subst, ◌∙◌, eqb}
use Rattle.std.proofs.Common.{arith}
use Rattle.std.specs.Prelude.{nat_le, nat_lt, ◌&&◌, option_map}
use Rattle.std.proofs.lemmas.Bool.{ltb-true, leb-true}
use Rattle.std.proofs.lemmas.List.{length-append, take_at, drop_at, drop-drop}
use Rattle.std.proofs.lemmas.List.Concat.{flat_map-cons}
use Rattle.flow_elements.specs.declared.element.ElementId.{ElementId}
use Rattle.flow_elements.specs.Values.{number_of}
use Rattle.flow_codec.specs.declared.message.Header.{Header}
use Rattle.flow_codec.specs.declared.message.Field.{Field}
use Rattle.flow_codec.specs.declared.plan.Role.{Role}
use Rattle.flow_codec.specs.declared.plan.Role.TheVariants.{Octets, Packets, Protocol, Seconds, Milliseconds}
use Rattle.flow_codec.specs.declared.plan.Place.{Place}
use Rattle.flow_codec.specs.Fields.{IsField, AreFields, fields_in}
use Rattle.flow_codec.specs.Plan.{element_of, role_of, is_counted, least_of, most_of, counting, values_of}
use Rattle.flow_codec.specs.Plan.{counts_as, behind, place_of, places_of, are_fixed}
use Rattle.flow_codec.proofs.RoleLaws.{counts_in, counts_is}
use Rattle.flow_codec.proofs.Steps.{by_bool}
use Rattle.flow_codec.proofs.FieldLaws.{fields_are}
use Rattle.flow_measure.specs.Counting.{IsPlace, IsWide, ArePlaces, number_at, counts_at, flow_by}
use Rattle.flow_measure.specs.Flows.{number_in, flow_from}

-- ---- one value before others

in-front : (t : Bool) (x : Role × List ℕ) (rest : Option (Role × List ℕ))
    → option_map (λ v. number_of v.1) (cond t (Some x) rest)
    ≡ cond (t && true) (Some (number_of x.1)) (option_map (λ v. number_of v.1) rest)
in-front true x rest = refl
in-front false x rest = refl

no-front : (t : Bool) (a b : Option ℕ) → b ≡ cond (t && false) a b
no-front true a b = refl
no-front false a b = refl

with_role : (role r : Role) (b : Bool) (value : List ℕ) (vs : List (Role × List ℕ))
    → number_in role (cond b ((r, value) ∷ []) [] ++ vs)
    ≡ cond (eqb (element_of r) (element_of role) && b) (Some (number_of value)) (number_in role vs)
with_role role r true value vs = in-front (eqb (element_of r) (element_of role)) (r, value) _
with_role role r false value vs = no-front (eqb (element_of r) (element_of role)) _ _

module _ (role : Role) (value : List ℕ) (vs : List (Role × List ℕ)) where
  of_role : (r : Option Role) → number_in role (counting r value ++ vs)
      ≡ cond (counts_in role r (length value)) (Some (number_of value)) (number_in role vs)
  of_role None = refl
  of_role (Some r) = with_role role r (is_counted r (length value)) value vs

  one : (id : ElementId) → number_in role (counting (role_of id) value ++ vs)
      ≡ cond (counts_as role (id, length value)) (Some (number_of value)) (number_in role vs)
  one id = of_role (role_of id)
      ∙ ap (λ (b : Bool). cond b (Some (number_of value)) (number_in role vs))
      (sym (counts_is role (length value) id))

-- ---- the fields of a record of fixed lengths

both : (a b : Bool) → (a && b) ≡ true → (a ≡ true) × (b ≡ true)
both true b h = (refl, h)
both false b h = absurd cc

fixed-field : (len : ℕ) (octets value : List ℕ) → nat_lt len 65535 ≡ true → IsField len octets value
    → (octets ≡ value) × (length value ≡ len)
fixed-field len octets value short (inl h) = (h.1, h.2)
fixed-field len octets value short (inr (inl h)) =
    let less : len < 65535 = ltb-true _ _ short in absurd (omega (arith, less, h.0))
fixed-field len octets value short (inr (inr h)) =
    let less : len < 65535 = ltb-true _ _ short in absurd (omega (arith, less, h.0))

moved : (front rest : List ℕ) (n : ℕ) (place : Option Place) → length front ≡ n
    → number_at (front ++ rest) (option_map (behind n) place) ≡ number_at rest place
moved front rest n None is = refl
moved front rest n (Some place) is = ap (λ (os : List ℕ). Some (number_of (take place.len os)))
    (sym (drop-drop place.at n (front ++ rest)) ∙ ap (drop place.at) (drop_at front rest n is))

moved-in : (role : Role) (front rest : List ℕ) (n : ℕ) (place : Option Place) → length front ≡ n
    → IsPlace role rest place → IsPlace role (front ++ rest) (option_map (behind n) place)
moved-in role front rest n None is h = tt
moved-in role front rest n (Some place) is h = (omega (arith, h.0, is, length-append front rest), h.1, h.2)

AreSame : Role → List ℕ → Option Place → List (Role × List ℕ) → Type 0
AreSame role octets place vs = (number_at octets place ≡ number_in role vs) × IsPlace role octets place

module _ (role : Role) (f : ElementId × ℕ) (fs : List (ElementId × ℕ)) (x : Field) (vs : List (Role × List ℕ))
    (rest : List ℕ) (id : x.id ≡ f.0) (is : length x.octets ≡ f.1) where
  value : number_in role (counting (role_of x.id) x.octets ++ vs)
      ≡ cond (counts_as role f) (Some (number_of x.octets)) (number_in role vs)
  value = one role x.octets vs x.id
      ∙ ap (λ (g : ElementId × ℕ). cond (counts_as role g) (Some (number_of x.octets)) (number_in role vs))
      (rw (id, is) refl)

  step : AreSame role rest (place_of role fs) vs
      → AreSame role (x.octets ++ rest) (place_of role (f ∷ fs)) (counting (role_of x.id) x.octets ++ vs)
  unfolding AreSame place_of
  step (same, within) = elim (by_bool (counts_as role f)) [
    | inl w ↦
        let counted : is_counted role f.1 ≡ true = (both _ _ (both _ _ w).1).1 in
        let limits = both (nat_le (least_of role) f.1) _ counted in
        let least : least_of role ≤ f.1 = leb-true _ _ limits.0 in
        let most : f.1 ≤ most_of role = leb-true _ _ limits.1 in
        let number : number_in role (counting (role_of x.id) x.octets ++ vs) ≡ Some (number_of x.octets) =
        value ∙ rw w refl in
        rw w (
          ap (λ (os : List ℕ). Some (number_of os)) (take_at x.octets rest f.1 is) ∙ sym number,
          (omega (arith, is, length-append x.octets rest), least, most),
        )
    | inr w ↦
        let number : number_in role (counting (role_of x.id) x.octets ++ vs) ≡ number_in role vs = value ∙ rw w refl in
        rw w (
          moved x.octets rest f.1 (place_of role fs) is ∙ same ∙ sym number,
          moved-in role x.octets rest f.1 (place_of role fs) is within,
        )
  ]

same : (role : Role) (fs : List (ElementId × ℕ)) (octets : List ℕ) (xs : List Field) → AreFields fs octets xs
    → are_fixed fs ≡ true → AreSame role octets (place_of role fs) (values_of xs)
unfolding AreSame place_of
same role [] octets [] h fixed = (refl, tt)
same role [] octets (x ∷ xs) h fixed = absurd h
same role (f ∷ fs) octets [] h fixed = absurd h
same role (f ∷ fs) octets (x ∷ xs) h fixed =
    let short = both (nat_lt f.1 65535) (are_fixed fs) fixed in
    let first = fixed-field f.1 h.0 x.octets short.0 h.4 in
    let more = same role fs h.1 xs h.5 short.1 in
    let whole : octets ≡ x.octets ++ h.1 = h.2 ∙ ap (λ (os : List ℕ). os ++ h.1) first.0 in
    let values : values_of (x ∷ xs) ≡ counting (role_of x.id) x.octets ++ values_of xs =
    flat_map-cons (λ (y : Field). counting (role_of y.id) y.octets) x xs in
    subst (λ (os : List ℕ). AreSame role os (place_of role (f ∷ fs)) (values_of (x ∷ xs))) (sym whole)
    (subst (AreSame role (x.octets ++ h.1) (place_of role (f ∷ fs))) (sym values)
    (step role f fs x (values_of xs) h.1 h.3 first.1 more))

-- a role that counts in one length alone
wide : (role : Role) (width : ℕ) (octets : List ℕ) (place : Option Place) → least_of role ≡ width
    → most_of role ≡ width → IsPlace role octets place → IsWide width octets place
wide role width octets None least most h = tt
wide role width octets (Some place) least most h =
    let is : place.len ≡ width = omega (arith, h.1, least, most) in (omega (arith, h.0, is), is)

module _ (fs : List (ElementId × ℕ)) (octets : List ℕ) (xs : List Field) (h : AreFields fs octets xs)
    (fixed : are_fixed fs ≡ true) where
  pub are_places : ArePlaces octets (places_of fs)
  unfolding AreSame
  are_places = (
    (same Octets fs octets xs h fixed).1,
    (same Packets fs octets xs h fixed).1,
    wide Protocol 1 octets (place_of Protocol fs) refl refl (same Protocol fs octets xs h fixed).1,
    wide Seconds 4 octets (place_of Seconds fs) refl refl (same Seconds fs octets xs h fixed).1,
    wide Milliseconds 8 octets (place_of Milliseconds fs) refl refl (same Milliseconds fs octets xs h fixed).1,
  )

  pub flow_at_places : (header : Header)
      → flow_by header (counts_at octets (places_of fs)) ≡ flow_from header (values_of (fields_in fs octets))
  unfolding AreSame
  flow_at_places header =
      let at_places : flow_by header (counts_at octets (places_of fs)) ≡ flow_from header (values_of xs) =
      rw (
        (same Octets fs octets xs h fixed).0,
        (same Packets fs octets xs h fixed).0,
        (same Protocol fs octets xs h fixed).0,
        (same Seconds fs octets xs h fixed).0,
        (same Milliseconds fs octets xs h fixed).0,
      ) refl in
      at_places ∙ ap (λ (ys : List Field). flow_from header (values_of ys)) (fields_are fs octets xs h)

  -- what the starts alone decide
  pub by_starts_at_places : {X : Type 0} (own : Option ℕ → Option ℕ → X)
      → own (number_at octets (place_of Milliseconds fs)) (number_at octets (place_of Seconds fs))
      ≡ own (number_in Milliseconds (values_of (fields_in fs octets))) (number_in Seconds (values_of (fields_in fs octets)))
  unfolding AreSame
  by_starts_at_places own =
      ap₂ own (same Milliseconds fs octets xs h fixed).0 (same Seconds fs octets xs h fixed).0
      ∙ ap (λ (ys : List Field). own (number_in Milliseconds (values_of ys)) (number_in Seconds (values_of ys)))
      (fields_are fs octets xs h)
