use Rattle.std.proofs.Common.{arith}
use Rattle.flow_codec.specs.Working.{current}
use Rattle.flow_codec.proofs.MessageLaws.{message_takes}
use Rattle.flow_codec.proofs.Kept.{in_force}
use Rattle.flow_codec.proofs.walk.message_of.Goals as goal

pub put_in-requires-clause-in_force : goal.put_in-requires-clause-in_force
put_in-requires-clause-in_force g c =
    let given = c.in_ok-walked.ensures.exact in
    let after = current c.in_ok-walked.walked.header.domain c.args.templates.now c.divided.new.changed in
    in_force c.args.templates.now c.args.octets.now (record {
      header = c.in_ok-walked.walked.header;
      records =
          given.0;
    }) after c.are_in_force.ensures
    (message_takes c.args.templates.now c.args.octets.now (
      record {
        header = c.in_ok-walked.walked.header;
        records =
            given.0;
      },
      after,
    ) (λ i. omega (arith, c.type_inv.octets i)) given.1)
