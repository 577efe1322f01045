use Rattle.flow_several.specs.Refusals.{of_sum}
use Rattle.flow_several.specs.Several.{AreTotalsUnwritten, WritesTotals}
use Rattle.flow_several.proofs.LinesWritten.{sums_unwritten}
use Rattle.flow_several.proofs.OneByOne.{err_matched}
use Rattle.flow_several.proofs.writing.write_sums.Goals as goal

pub returns-in_err-rows-clause-totals : goal.returns-in_err-rows-clause-totals
returns-in_err-rows-clause-totals g c = λ reads are.
    let known = g.W.Write.contents c.args.output.now in
    let e = (c.in_err-rows.field-0).0 in
    err_matched c.from_residual.result (of_sum e)
    (λ x. WritesTotals c.args.format c.args.from c.args.to reads known known)
    (AreTotalsUnwritten c.args.format c.args.from c.args.to reads known known) c.from_residual.ensures.1
    (sums_unwritten c.args.format c.args.from c.args.to known reads are.0 are.1 e
    (c.in_err-rows.ensures.views are.0 are.2))
