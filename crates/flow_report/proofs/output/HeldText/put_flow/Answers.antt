use Rattle.std.proofs.Common.{[]}
use Rattle.std.proofs.lemmas.Result.{err_from_is_err_and}
use Rattle.flow_report.specs.ArchiveLines.{flow_line}
use Rattle.flow_report.proofs.Joining.{stops_more}
use Rattle.flow_report.proofs.output.HeldText.put_flow.Goals as goal

pub returns-in_err-flush-clause-front : goal.returns-in_err-flush-clause-front
returns-in_err-flush-clause-front g c =
    let p = err_from_is_err_and c.from_residual.result c.from_residual.ensures.1 in
    rw p.1 (stops_more _ _ c.args.self.now.text.items [] (flow_line c.args.format c.args.flow) c.in_err-flush.ensures.front)
