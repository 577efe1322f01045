-- What the way of a plan says of its fields.
use Rattle.std.proofs.Common.{◌≡◌, ℕ, Bool, true, false, cond, List, refl, sym, ap, ◌∙◌}
use Rattle.flow_elements.specs.declared.element.ElementId.{ElementId}
use Rattle.flow_codec.specs.declared.plan.FieldStep.{FieldStep}
use Rattle.flow_codec.specs.declared.plan.Places.{Places}
use Rattle.flow_codec.specs.declared.plan.Plan.{Plan}
use Rattle.flow_codec.specs.declared.plan.Way.TheVariants.{ByPlaces, BySteps}
use Rattle.flow_codec.specs.Plan.{are_fixed, places_of, steps_of, plan_of}

places_by : (fixed : Bool) (some places : Places) (steps : List FieldStep)
    → cond fixed (ByPlaces some) (BySteps steps) ≡ ByPlaces places → (fixed ≡ true) × (some ≡ places)
places_by true some places steps e = (refl, cc)
places_by false some places steps e = absurd cc

steps_by : (fixed : Bool) (places : Places) (some steps : List FieldStep)
    → cond fixed (ByPlaces places) (BySteps some) ≡ BySteps steps → some ≡ steps
steps_by true places some steps e = absurd cc
steps_by false places some steps e = cc

module _ (fs : List (ElementId × ℕ)) (plan : Plan) (is : plan ≡ plan_of fs) where
  its_way : plan.way ≡ cond (are_fixed fs) (ByPlaces (places_of fs)) (BySteps (steps_of fs))
  its_way = ap (λ (p : Plan). p.way) is

  pub its_places : (places : Places) → plan.way ≡ ByPlaces places → (are_fixed fs ≡ true) × (places_of fs ≡ places)
  its_places places e = places_by (are_fixed fs) (places_of fs) places (steps_of fs) (sym its_way ∙ e)

  pub its_steps : (steps : List FieldStep) → plan.way ≡ BySteps steps → steps_of fs ≡ steps
  its_steps steps e = steps_by (are_fixed fs) (places_of fs) (steps_of fs) steps (sym its_way ∙ e)
