use Rattle.std.proofs.Common.{inr}
use Rattle.std.proofs.KnownBytes.{Keeps-refl}
use Rattle.std.specs.Prelude.{length}
use Rattle.flow_disk.proofs.Results.{passed_on}
use Rattle.flow_commands.specs.Archives.{of_folder}
use Rattle.flow_commands.specs.Feeding.{KeepsOrFeeds}
use Rattle.flow_commands.proofs.Lines.{folder_kept, passed_err}
use Rattle.flow_commands.proofs.feeding.feed_in.Goals as goal

pub returns-in_err-system-clause-kept : goal.returns-in_err-system-clause-kept
returns-in_err-system-clause-kept g c =
    let output = g.W.Write.contents c.args.output.now in
    passed_on c.from_residual.result (of_folder (c.in_err-system.field-0).0)
    (λ e. KeepsOrFeeds (length c.args.paths.now) e output output) c.from_residual.ensures.1
    (folder_kept (length c.args.paths.now) output (c.in_err-system.field-0).0)

pub returns-in_err-system-clause-asked : goal.returns-in_err-system-clause-asked
returns-in_err-system-clause-asked g c =
    inr (
      passed_err c.from_residual.result (of_folder (c.in_err-system.field-0).0) c.from_residual.ensures.1,
      Keeps-refl (g.W.Write.contents c.args.output.now),
    )
