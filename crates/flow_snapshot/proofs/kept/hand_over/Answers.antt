use Rattle.std.proofs.Common.{refl}
use Rattle.flow_snapshot.proofs.kept.hand_over.Goals as goal

pub returns-in-Ok-clause-found : goal.returns-in-Ok-clause-found
returns-in-Ok-clause-found g c =
    let w = c.in-Ok.ensures.found in (
      record {
        octets = c.args.octets.now;
        message = record { header = c.in-Ok.field-0; records = w.0 };
        after = c.walk_message.new.templates;
      },
      refl,
      w.1,
    )
