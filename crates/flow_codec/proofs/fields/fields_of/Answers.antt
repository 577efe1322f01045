use Rattle.std.proofs.Common.{None}
use Rattle.flow_codec.specs.Fields.{fields_in}
use Rattle.flow_codec.proofs.FieldLoop.{goes_on, is_done}
use Rattle.flow_codec.proofs.fields.fields_of.Goals as goal

pub loop-id-preserved : goal.loop-id-preserved
loop-id-preserved c =
    rw (
      c.in_ok-push.ensures.items,
      c.from_vec.ensures,
      c.in_ok-from_slice.ensures.items,
      c.split_field.ensures.value,
      c.split_field.ensures.rest,
    )
    (goes_on c.args.specifiers.now c.loop-id.id-index _ c.loop-id.fields.items c.loop-id.rest.now
    (fields_in c.args.specifiers.now c.args.octets.now) c.loop-id.invariant c.loop-id-test.true)

pub returns : goal.returns
returns c = rw c.from_vec-2.ensures
    (is_done c.args.specifiers.now c.loop-id.id-index (
      record { enterprise = None; number = 0 },
      0,
    ) c.loop-id.fields.items c.loop-id.rest.now
    (fields_in c.args.specifiers.now c.args.octets.now) c.loop-id.invariant c.loop-id-test.false)
