use Rattle.std.proofs.KnownBytes.{Keeps-refl}
use Rattle.flow_report.proofs.Summing.{err_of, kept}
use Rattle.flow_report.proofs.measuring.measure.Goals as goal

pub returns-in_err-rows-clause-kept : goal.returns-in_err-rows-clause-kept
returns-in_err-rows-clause-kept g c =
    err_of c.from_residual.result _ _ c.from_residual.ensures.1
    (kept _ _ _ _ _ c.in_err-rows.field-0.0 c.in_err-rows.ensures.unwritten (Keeps-refl _))
