use Rattle.std.proofs.Common.{inr}
use Rattle.flow_export.proofs.AskedFor.{away}
use Rattle.flow_export.proofs.by_time.export_by_time_in.Goals as goal

pub returns-in_err-view-clause-asked : goal.returns-in_err-view-clause-asked
returns-in_err-view-clause-asked g c =
    inr (away (g.W.Write.contents c.args.output.now) (c.in_err-view.field-0).0 c.from_residual.result
    c.from_residual.ensures.1)
