use Rattle.std.proofs.Common.{◌++◌, [], refl}
use Rattle.std.specs.Prelude.{IfErr}
use Rattle.flow_commands.specs.declared.checking.Standing.{Standing}
use Rattle.flow_commands.specs.ArchiveFiles.{AreListings}
use Rattle.flow_commands.specs.Check.{standing_line}
use Rattle.flow_commands.specs.Asking.{WritesOrNot}
use Rattle.flow_commands.proofs.OpenedAnswers.{away_kept}
use Rattle.flow_commands.proofs.archive_files.check_files_in.Goals as goal

pub returns-in_err-view-clause-kept : goal.returns-in_err-view-clause-kept
returns-in_err-view-clause-kept g c =
    let output = g.W.Write.contents c.args.output.now in
    let none : Standing = record { position = 0; cut = 0; rolled = 0; sealed = 0 } in
    let kept : IfErr c.from_residual.result (λ e. WritesOrNot AreListings e output output) =
    away_kept c.from_residual.result AreListings output (standing_line none ++ []) (none, [], refl) in
    kept
