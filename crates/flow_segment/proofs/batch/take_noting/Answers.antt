use Rattle.std.proofs.Common.{arith}
use Rattle.flow_segment.proofs.Carrying.{was_taken}
use Rattle.flow_segment.proofs.batch.take_noting.Goals as goal

pub returns-clause-taken : goal.returns-clause-taken
returns-clause-taken c =
    let was = was_taken c.in_ok-restate.field-0 c.args.octets.now c.args.carry.now c.restate.new.self
    c.in_ok-restate.ensures.taken in (
      λ i. omega (arith, c.type_inv.octets i),
      was.0,
      was.1,
      was.2,
      was.3,
      c.in_ok-restate.ensures.noted was.0 was.1 was.2,
    )
