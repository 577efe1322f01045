use Rattle.std.proofs.Common.{inr}
use Rattle.std.proofs.KnownBytes.{Keeps-refl}
use Rattle.flow_disk.proofs.Results.{passed_on}
use Rattle.flow_commands.specs.Archives.{of_folder}
use Rattle.flow_commands.specs.Asking.{WritesOrNot}
use Rattle.flow_commands.specs.Rolling.{IsJobLine}
use Rattle.flow_commands.proofs.Jobs.{folder_unwritten}
use Rattle.flow_commands.proofs.Endings.{error_is}
use Rattle.flow_commands.proofs.rolling.roll_in.Goals as goal

pub returns-in_err-system-clause-kept : goal.returns-in_err-system-clause-kept
returns-in_err-system-clause-kept g c =
    let output = g.W.Write.contents c.args.output.now in
    passed_on c.from_residual.result (of_folder (c.in_err-system.field-0).0)
    (λ e. WritesOrNot (IsJobLine c.args.kind) e output output) c.from_residual.ensures.1
    (folder_unwritten (IsJobLine c.args.kind) output (c.in_err-system.field-0).0)

pub returns-in_err-system-clause-told : goal.returns-in_err-system-clause-told
returns-in_err-system-clause-told g c =
    let why = (c.in_err-system.field-0).0 in
    inr (
      (why, error_is c.from_residual.result (of_folder why) c.from_residual.ensures.1),
      Keeps-refl (g.W.Write.contents c.args.output.now),
    )
