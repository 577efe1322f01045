use Rattle.std.proofs.Common.{sym, ap, subst, ◌∙◌}
use Rattle.std.specs.List.{AllByRecursion}
use Rattle.flow_codec.specs.Plan.{values_by}
use Rattle.flow_codec.proofs.StepLaws.{values_same}
use Rattle.flow_codec.proofs.Ways.{its_places, its_steps}
use Rattle.flow_measure.specs.Counting.{IsStep, ArePlaces, no_counts, counts_with, counts_at, flow_by}
use Rattle.flow_measure.proofs.CountLoop.{are_steps, flow_of_counts}
use Rattle.flow_measure.proofs.NumberPlaces.{are_places, flow_at_places}
use Rattle.flow_measure.proofs.counts.flow_of.Goals as goal

pub flow_at-requires : goal.flow_at-requires
flow_at-requires c =
    let places = its_places c.args.definition.now.fields c.plan.result.now c.plan.ensures _ c.in-ByPlaces.is in
    subst (ArePlaces c.args.octets.now) places.1
    (are_places c.args.definition.now.fields c.args.octets.now c.requires.0 c.requires.1 places.0)

pub flow_by-requires : goal.flow_by-requires
flow_by-requires c =
    let steps = its_steps c.args.definition.now.fields c.plan.result.now c.plan.ensures _ c.in-BySteps.is in
    subst (AllByRecursion IsStep) (steps ∙ sym c.as_slice.ensures) (are_steps c.args.definition.now.fields)

pub returns-in-ByPlaces : goal.returns-in-ByPlaces
returns-in-ByPlaces c =
    let places = its_places c.args.definition.now.fields c.plan.result.now c.plan.ensures _ c.in-ByPlaces.is in
    c.flow_at.ensures
    ∙ ap (λ p. flow_by c.args.header.now (counts_at c.args.octets.now p)) (sym places.1)
    ∙ flow_at_places c.args.definition.now.fields c.args.octets.now c.requires.0 c.requires.1 places.0 c.args.header.now

pub returns-in-BySteps : goal.returns-in-BySteps
returns-in-BySteps c =
    let steps = its_steps c.args.definition.now.fields c.plan.result.now c.plan.ensures _ c.in-BySteps.is in
    let values = ap (λ s. values_by s c.args.octets.now) (c.as_slice.ensures ∙ sym steps)
    ∙ values_same c.args.definition.now.fields c.args.octets.now c.requires.0 c.requires.1 in
    c.flow_by.ensures ∙ ap (λ v. flow_by c.args.header.now (counts_with no_counts v)) values
    ∙ flow_of_counts c.args.header.now _
