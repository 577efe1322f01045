use Rattle.std.proofs.Common.{refl, get_or}
use Rattle.flow_codec.specs.declared.plan.FieldStep.{FieldStep}
use Rattle.flow_codec.specs.declared.plan.FieldStep.TheVariants.{Skip}
use Rattle.flow_measure.proofs.CountLoop.{goes_on, first_step, is_done}
use Rattle.flow_measure.proofs.counts.counts_by.Goals as goal

pub loop-step-preserved : goal.loop-step-preserved
loop-step-preserved c =
    let step : FieldStep = get_or c.args.steps.now c.loop-step.step-index (Skip 0) in
    let here = first_step c.args.steps.now c.args.octets.now c.loop-step.step-index c.loop-step.counts
    c.loop-step.rest.now (Skip 0) c.loop-step-test.true step refl c.loop-step.invariant.steps in
    record {
      same = goes_on c.args.steps.now c.args.octets.now c.loop-step.step-index c.loop-step.counts c.loop-step.rest.now
          (Skip 0) c.loop-step-test.true step c.count_step-rest.new.self c.count_step-rest.result.now refl
          c.count_step-rest.ensures.counts c.count_step-rest.ensures.rest c.loop-step.invariant.same;
      steps = here.1;
    }

pub returns : goal.returns
returns c = is_done c.args.steps.now c.args.octets.now c.loop-step.step-index c.loop-step.counts c.loop-step.rest.now
    c.loop-step-test.false c.loop-step.invariant.same
