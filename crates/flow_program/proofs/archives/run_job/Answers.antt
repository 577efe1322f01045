use Rattle.std.proofs.Common.{inl, refl}
use Rattle.std.proofs.KnownBytes.{Keeps-refl}
use Rattle.flow_program.proofs.archives.run_job.Goals as goal

pub returns-in-Merge-clause-runs : goal.returns-in-Merge-clause-runs
returns-in-Merge-clause-runs g c =
    inl (refl, Keeps-refl (g.E.Write.contents c.args.errors.now), c.in-Ok.ensures.written, c.in-Ok.ensures.told)

pub returns-in_default-clause-runs : goal.returns-in_default-clause-runs
returns-in_default-clause-runs g c =
    inl (refl, Keeps-refl (g.E.Write.contents c.args.errors.now), c.in-Ok.ensures.written, c.in-Ok.ensures.told)
