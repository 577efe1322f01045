use Rattle.std.proofs.Common.{inl}
use Rattle.std.proofs.KnownBytes.{Keeps-refl}
use Rattle.flow_program.proofs.archives.run_feed.Goals as goal

pub returns-in-Ok-clause-runs : goal.returns-in-Ok-clause-runs
returns-in-Ok-clause-runs g c =
    inl (Keeps-refl (g.E.Write.contents c.args.errors.now), c.in-Ok.ensures.written, c.in-Ok.ensures.asked)
