use Rattle.flow_segment.proofs.Carrying.{taken_only, was_taken}
use Rattle.flow_segment.proofs.carry.Carry.take.Goals as goal

pub returns-clause-taken : goal.returns-clause-taken
returns-clause-taken c =
    was_taken c.in_ok-restate.field-0 c.args.octets.now c.args.self.now c.restate.new.self c.in_ok-restate.ensures.taken

pub returns-clause-only : goal.returns-clause-only
returns-clause-only c = λ a same is.
    taken_only c.args.octets.now c.args.self.now c.restate.new.self a
    (was_taken c.in_ok-restate.field-0 c.args.octets.now c.args.self.now c.restate.new.self
    c.in_ok-restate.ensures.taken) is same
