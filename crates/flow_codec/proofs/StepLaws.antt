-- The values that the steps of a plan find in a whole record are those of its fields.
use Rattle.std.proofs.Common.{◌≡◌, ℕ, true, false, eqb, List, [], ◌∷◌, ◌++◌, length, Option, Some, None, refl, sym, ap}
use Rattle.std.proofs.Common.{subst, ◌∙◌, eq-eqb, inl, inr, ◌⊎◌}
use Rattle.std.proofs.lemmas.Bool.{ne_eqb}
use Rattle.std.proofs.lemmas.List.{take_at, drop_at, drop-drop}
use Rattle.std.proofs.lemmas.List.Concat.{flat_map-cons}
use Rattle.flow_elements.specs.declared.element.ElementId.{ElementId}
use Rattle.flow_codec.specs.declared.plan.Role.{Role}
use Rattle.flow_codec.specs.declared.plan.FieldStep.{FieldStep}
use Rattle.flow_codec.specs.declared.plan.FieldStep.TheVariants.{Skip, Fixed, Variable}
use Rattle.flow_codec.specs.declared.message.Field.{Field}
use Rattle.flow_codec.specs.Fields.{IsField, AreFields, value_of, fields_in}
use Rattle.flow_codec.specs.Plan.{role_of, is_counted, counting, values_of, before_steps, fixed_step, step_of, steps_of}
use Rattle.flow_codec.specs.Plan.{values_by}
use Rattle.flow_codec.proofs.Steps.{by_bool}
use Rattle.flow_codec.proofs.FieldLaws.{value_again, fields_are}

-- adjacent skips become one
before-is : (step : FieldStep) (steps : List FieldStep) (octets : List ℕ)
    → values_by (before_steps step steps) octets ≡ values_by (step ∷ steps) octets
unfolding values_by
before-is (Skip count) [] octets = refl
before-is (Skip count) (Skip more ∷ steps) octets = ap (values_by steps) (sym (drop-drop more count octets))
before-is (Skip count) (Fixed role len ∷ steps) octets = refl
before-is (Skip count) (Variable role ∷ steps) octets = refl
before-is (Fixed role len) steps octets = refl
before-is (Variable role) steps octets = refl

-- the step over a field, whose octets come first
fixed-is : (role : Option Role) (len : ℕ) (steps : List FieldStep) (value rest : List ℕ) → length value ≡ len
    → values_by (fixed_step role len ∷ steps) (value ++ rest) ≡ counting role value ++ values_by steps rest
unfolding values_by
fixed-is None len steps value rest is = ap (values_by steps) (drop_at value rest len is)
fixed-is (Some role) len steps value rest is = elim (by_bool (is_counted role len)) [
  | inl w ↦
      let same : is_counted role (length value) ≡ true = ap (is_counted role) is ∙ w in
      rw (w, same, take_at value rest len is, drop_at value rest len is) refl
  | inr w ↦
      let same : is_counted role (length value) ≡ false = ap (is_counted role) is ∙ w in
      rw (w, same) (ap (values_by steps) (drop_at value rest len is))
]

variable-is : (role : Option Role) (steps : List FieldStep) (octets value rest : List ℕ)
    → value_of 65535 octets ≡ (value, rest)
    → values_by (Variable role ∷ steps) octets ≡ counting role value ++ values_by steps rest
unfolding values_by
variable-is role steps octets value rest is = ap (λ (x : List ℕ × List ℕ). counting role x.0 ++ values_by steps x.1) is

step-is : (id : ElementId) (len : ℕ) (steps : List FieldStep) (octets value rest : List ℕ) → IsField len octets value
    → values_by (step_of id len ∷ steps) (octets ++ rest) ≡ counting (role_of id) value ++ values_by steps rest
step-is id len steps octets value rest (inl (fixed, same, is)) =
    let test : eqb len 65535 ≡ false = ne_eqb len 65535 fixed in
    rw (test, same) (fixed-is (role_of id) len steps value rest is)
step-is id len steps octets value rest (inr h) =
    let variable = is_variable h in
    let test : eqb len 65535 ≡ true = eq-eqb len 65535 variable in
    let whole : IsField 65535 octets value = subst (λ (n : ℕ). IsField n octets value) variable (inr h) in
    rw test (variable-is (role_of id) steps (octets ++ rest) value rest (value_again 65535 octets value rest whole))
  where
    is_variable : {X Y Z W : Type 0} → ((len ≡ 65535) × X × Y) ⊎ ((len ≡ 65535) × Z × W) → len ≡ 65535
    is_variable (inl x) = x.0
    is_variable (inr x) = x.0

steps-are : (fs : List (ElementId × ℕ)) (octets : List ℕ) (xs : List Field) → AreFields fs octets xs
    → values_by (steps_of fs) octets ≡ values_of xs
unfolding steps_of values_by
steps-are [] octets [] h = refl
steps-are [] octets (x ∷ xs) h = absurd h
steps-are (f ∷ fs) octets [] h = absurd h
steps-are (f ∷ fs) octets (x ∷ xs) h =
    let step = step_of f.0 f.1 in
    let first = before-is step (steps_of fs) octets in
    let second : values_by (step ∷ steps_of fs) octets ≡ counting (role_of f.0) x.octets ++ values_by
    (steps_of fs) h.1 =
    ap (values_by (step ∷ steps_of fs)) h.2 ∙ step-is f.0 f.1 (steps_of fs) h.0 x.octets h.1 h.4 in
    let third : counting (role_of f.0) x.octets ++ values_by (steps_of fs) h.1 ≡ counting
    (role_of x.id) x.octets ++ values_of xs =
    rw (h.3, steps-are fs h.1 xs h.5) refl in
    first ∙ second ∙ third ∙ sym (flat_map-cons (λ (y : Field). counting (role_of y.id) y.octets) x xs)

pub values_same : (fs : List (ElementId × ℕ)) (octets : List ℕ) (xs : List Field) → AreFields fs octets xs
    → values_by (steps_of fs) octets ≡ values_of (fields_in fs octets)
values_same fs octets xs h = steps-are fs octets xs h ∙ ap values_of (fields_are fs octets xs h)
