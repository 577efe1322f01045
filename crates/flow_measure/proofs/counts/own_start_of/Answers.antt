use Rattle.std.proofs.Common.{sym, ap, subst, ◌∙◌}
use Rattle.std.specs.List.{AllByRecursion}
use Rattle.flow_codec.specs.Plan.{values_by}
use Rattle.flow_codec.proofs.StepLaws.{values_same}
use Rattle.flow_codec.proofs.Ways.{its_places, its_steps}
use Rattle.flow_measure.specs.Caveats.{own_start}
use Rattle.flow_measure.specs.Counting.{IsStep, ArePlaces, no_counts, counts_with, counts_at}
use Rattle.flow_measure.proofs.CountLoop.{are_steps, by_starts}
use Rattle.flow_measure.proofs.NumberPlaces.{are_places, by_starts_at_places}
use Rattle.flow_measure.proofs.counts.own_start_of.Goals as goal

pub own_start_at-requires : goal.own_start_at-requires
own_start_at-requires c =
    let places = its_places c.args.definition.now.fields c.plan.result.now c.plan.ensures _ c.in-ByPlaces.is in
    subst (ArePlaces c.args.octets.now) places.1
    (are_places c.args.definition.now.fields c.args.octets.now c.requires.0 c.requires.1 places.0)

pub own_start_by-requires : goal.own_start_by-requires
own_start_by-requires c =
    let steps = its_steps c.args.definition.now.fields c.plan.result.now c.plan.ensures _ c.in-BySteps.is in
    subst (AllByRecursion IsStep) (steps ∙ sym c.as_slice.ensures) (are_steps c.args.definition.now.fields)

pub returns-in-ByPlaces : goal.returns-in-ByPlaces
returns-in-ByPlaces c =
    let places = its_places c.args.definition.now.fields c.plan.result.now c.plan.ensures _ c.in-ByPlaces.is in
    c.own_start_at.ensures
    ∙ ap (λ p. own_start (counts_at c.args.octets.now p).milliseconds (counts_at c.args.octets.now p).seconds)
    (sym places.1)
    ∙ by_starts_at_places c.args.definition.now.fields c.args.octets.now c.requires.0 c.requires.1 places.0
    own_start

pub returns-in-BySteps : goal.returns-in-BySteps
returns-in-BySteps c =
    let steps = its_steps c.args.definition.now.fields c.plan.result.now c.plan.ensures _ c.in-BySteps.is in
    let values = ap (λ s. values_by s c.args.octets.now) (c.as_slice.ensures ∙ sym steps)
    ∙ values_same c.args.definition.now.fields c.args.octets.now c.requires.0 c.requires.1 in
    c.own_start_by.ensures
    ∙ ap (λ vs. own_start (counts_with no_counts vs).milliseconds (counts_with no_counts vs).seconds) values
    ∙ by_starts own_start _
