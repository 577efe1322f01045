use Rattle.std.specs.Prelude.{IfErr}
use Rattle.flow_commands.specs.Asking.{WritesUpTo}
use Rattle.flow_records.specs.Listing.{AreRecordsIn}
use Rattle.flow_records.proofs.Lines.{away_up_to}
use Rattle.flow_records.proofs.asking.records_in.Goals as goal

pub returns-in_err-view-clause-kept : goal.returns-in_err-view-clause-kept
returns-in_err-view-clause-kept g c =
    let output = g.W.Write.contents c.args.output.now in
    let kept : IfErr c.from_residual.result
    (λ e. WritesUpTo (AreRecordsIn c.args.format.now c.args.span.now.from c.args.span.now.to) e output output) =
    away_up_to c.args.format.now c.args.span.now c.from_residual.result output in
    kept
