use Rattle.std.proofs.Common.{inr}
use Rattle.flow_commands.specs.Archives.{of_folder}
use Rattle.flow_commands.proofs.Endings.{error_is}
use Rattle.flow_commands.proofs.creating.create_in.Goals as goal

pub returns-in_err-system : goal.returns-in_err-system
returns-in_err-system g c =
    let why = (c.in_err-system.field-0).0 in
    record { told = inr (why, error_is c.from_residual.result (of_folder why) c.from_residual.ensures.1) }
