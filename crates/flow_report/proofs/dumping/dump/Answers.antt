use Rattle.std.proofs.lemmas.Result.{err_from_is_err_and}
use Rattle.flow_report.proofs.Printing.{ends_at_once}
use Rattle.flow_report.proofs.dumping.dump.Goals as goal

pub returns-in_err-reader-clause-refused : goal.returns-in_err-reader-clause-refused
returns-in_err-reader-clause-refused g c =
    let p = err_from_is_err_and c.from_residual.result c.from_residual.ensures.1 in
    rw (p.1, p.2) (ends_at_once _ (g.R.Read.remaining c.args.input.now) _)

pub returns-in_err-lines-clause-refused : goal.returns-in_err-lines-clause-refused
returns-in_err-lines-clause-refused g c =
    let p = err_from_is_err_and c.from_residual-in_err-lines.result c.from_residual-in_err-lines.ensures.1 in
    rw (p.1, p.2) (ends_at_once _ (g.R.Read.remaining c.args.input.now) _)
