use Rattle.std.proofs.Common.{inl}
use Rattle.flow_commands.proofs.Endings.{done_created, refused_created}
use Rattle.flow_commands.proofs.creating.create_over.Goals as goal

pub returns : goal.returns
returns g c =
    record {
      told = inl (
        c.new-disk.result,
        c.create.result,
        record {
          made = c.create.ensures.made;
          stands = c.create.ensures.stands;
          was_empty = c.create.ensures.was_empty;
          refused = c.create.ensures.refused;
          cause = c.create.ensures.cause;
        },
        done_created c.create.result c.in_ok-left.ensures,
      );
    }

pub returns-in_err-left : goal.returns-in_err-left
returns-in_err-left g c =
    record {
      told = inl (
        c.new-disk.result,
        c.create.result,
        record {
          made = c.create.ensures.made;
          stands = c.create.ensures.stands;
          was_empty = c.create.ensures.was_empty;
          refused = c.create.ensures.refused;
          cause = c.create.ensures.cause;
        },
        refused_created c.create.result (c.in_err-left.field-0).0 c.from_residual.result c.in_err-left.ensures
            c.from_residual.ensures.1,
      );
    }
