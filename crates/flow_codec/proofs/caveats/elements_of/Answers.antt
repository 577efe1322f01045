use Rattle.std.proofs.Common.{None}
use Rattle.flow_codec.proofs.ElementsLoop.{goes_on, is_done}
use Rattle.flow_codec.proofs.caveats.elements_of.Goals as goal

pub loop-id-preserved : goal.loop-id-preserved
loop-id-preserved c =
    rw c.with_element-found.ensures (goes_on c.args.fields.now c.loop-id.id-index _ c.loop-id.found c.loop-id.invariant
    c.loop-id-test.true)

pub returns : goal.returns
returns c =
    is_done c.args.fields.now c.loop-id.id-index (
      record { enterprise = None; number = 0 },
      0,
    ) c.loop-id.found c.loop-id.invariant c.loop-id-test.false
