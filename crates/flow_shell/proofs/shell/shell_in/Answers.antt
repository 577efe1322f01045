use Rattle.std.proofs.Common.{inr}
use Rattle.std.proofs.KnownBytes.{Keeps-refl}
use Rattle.flow_shell.proofs.Unserved.{no_folder_passed_on}
use Rattle.flow_shell.proofs.shell.shell_in.Goals as goal

pub returns-in_err-system-clause-asked : goal.returns-in_err-system-clause-asked
returns-in_err-system-clause-asked g c =
    inr (
      no_folder_passed_on c.from_residual.result (c.in_err-system.field-0).0 c.from_residual.ensures.1,
      Keeps-refl (g.W.Write.contents c.args.output.now),
    )
