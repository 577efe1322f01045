use Rattle.std.proofs.Common.{None}
use Rattle.flow_codec.specs.Fields.{fields_in}
use Rattle.flow_inspect.specs.Lasting.{ends_of}
use Rattle.flow_inspect.proofs.EndsLoop.{goes_on, is_done, starts}
use Rattle.flow_inspect.proofs.lasting.ends_of.Goals as goal

pub loop-id-init : goal.loop-id-init
loop-id-init c = starts (fields_in c.args.definition.now.fields c.args.octets.now)

pub loop-id-preserved : goal.loop-id-preserved
loop-id-preserved c =
    rw (c.with_field-ends.ensures, c.split_field.ensures.value, c.split_field.ensures.rest, c.fields-id-items.ensures)
    (goes_on c.args.definition.now.fields c.loop-id.id-index _ c.loop-id.ends c.loop-id.rest.now
    (ends_of (fields_in c.args.definition.now.fields c.args.octets.now)) c.loop-id.invariant
    (rw c.fields-id-items.ensures at c.loop-id-test.true))

pub returns : goal.returns
returns c =
    is_done c.args.definition.now.fields c.loop-id.id-index (
      record { enterprise = None; number = 0 },
      0,
    ) c.loop-id.ends c.loop-id.rest.now
    (ends_of (fields_in c.args.definition.now.fields c.args.octets.now)) c.loop-id.invariant
    (rw c.fields-id-items.ensures at c.loop-id-test.false)
