use Rattle.std.specs.Prelude.{IfErr}
use Rattle.flow_commands.specs.Check.{KeepsOrChecks}
use Rattle.flow_commands.proofs.Unwritten.{kept_anyway, on_any_refusal}
use Rattle.flow_commands.proofs.checking.check_in.Goals as goal

pub returns-in_err-view-clause-kept : goal.returns-in_err-view-clause-kept
returns-in_err-view-clause-kept g c =
    let output = g.W.Write.contents c.args.output.now in
    let kept : IfErr c.from_residual.result (λ e. KeepsOrChecks e output output) =
    on_any_refusal c.from_residual.result (λ e. KeepsOrChecks e output output) (λ e. kept_anyway e output) in
    kept
