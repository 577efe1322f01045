use Rattle.std.proofs.Common.{rules}
use Rattle.flow_segment.proofs.Batches.{message_leaves, no_sets_leave, sets_leave}
use Rattle.flow_segment.proofs.defining.may_define.Goals as goal

pub sets-preserved : goal.sets-preserved
sets-preserved c = λ leave.
    c.sets.invariant (sets_leave c.sets.rest.now c.in-Some.after.now c.in-Some.ensures leave)

pub returns : goal.returns
returns c = λ _.
    message_leaves c.args.octets.now (c.sets.invariant (no_sets_leave c.sets.rest.now (search rules)))
