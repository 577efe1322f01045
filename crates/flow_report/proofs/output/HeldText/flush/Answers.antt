use Rattle.std.proofs.lemmas.Result.{err_from_is_err_and}
use Rattle.flow_report.proofs.Joining.{front_told}
use Rattle.flow_report.proofs.output.HeldText.flush.Goals as goal

pub returns-in_err-write_patiently-clause-front : goal.returns-in_err-write_patiently-clause-front
returns-in_err-write_patiently-clause-front g c =
    let p = err_from_is_err_and c.from_residual.result c.from_residual.ensures.1 in
    rw p.1 (front_told _ _ c.args.self.now.text.items
    (rw c.as_slice.ensures.value at c.in_err-write_patiently.ensures.front))
