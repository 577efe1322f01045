use Rattle.std.proofs.lemmas.Result.{err_from_is_err_and}
use Rattle.flow_codec.proofs.StepLoop.{starts, goes_on, ends, shorter, is_done}
use Rattle.flow_codec.proofs.walk.stepped_over.Goals as goal

pub loop-step-init : goal.loop-step-init
loop-step-init c = starts c.args.at c.args.steps.now c.args.octets.now

pub returns-in_err-after : goal.returns-in_err-after
returns-in_err-after c =
    let p = err_from_is_err_and c.from_residual.result c.from_residual.ensures.1 in
    rw (p.1, p.2) (ends c.args.at c.args.steps.now c.loop-step.step-index c.loop-step.rest.now c.args.octets.now
    c.loop-step.invariant _ c.loop-step-test.true c.in_err-after.field-0.0 c.in_err-after.ensures)

pub loop-step-preserved : goal.loop-step-preserved
loop-step-preserved c =
    goes_on c.args.at c.args.steps.now c.loop-step.step-index c.loop-step.rest.now c.args.octets.now
    c.loop-step.invariant _ c.loop-step-test.true c.in_ok-after.field-0-0.now c.in_ok-after.after.now
    c.in_ok-after.ensures

pub overflow_sub-octets : goal.overflow_sub-octets
overflow_sub-octets c =
    shorter c.args.at c.args.steps.now c.loop-step.step-index c.loop-step.rest.now c.args.octets.now
    c.loop-step.invariant

pub returns : goal.returns
returns c = rw (c.split_at.ensures.front, c.split_at.ensures.back)
    (is_done c.args.at c.args.steps.now c.loop-step.step-index c.loop-step.rest.now c.args.octets.now
    c.loop-step.invariant c.loop-step-test.false)
