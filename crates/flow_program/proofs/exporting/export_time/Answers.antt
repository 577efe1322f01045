use Rattle.std.proofs.Common.{inl, inr, refl}
use Rattle.std.proofs.KnownBytes.{Keeps-refl}
use Rattle.flow_program.proofs.exporting.export_time.Goals as goal

pub returns-in-Ok-clause-runs : goal.returns-in-Ok-clause-runs
returns-in-Ok-clause-runs g c =
    inl (refl, Keeps-refl (g.E.Write.contents c.args.errors.now), (c.in-Ok.ensures.written, c.in-Ok.ensures.asked))

pub returns-in-Err-clause-runs : goal.returns-in-Err-clause-runs
returns-in-Err-clause-runs g c =
    inr (
      c.in-Err.refusal,
      c.report_export.ensures.status,
      c.report_export.ensures.reported,
      (c.in-Err.ensures.some, c.in-Err.ensures.asked),
    )
