use Rattle.std.proofs.Common.{◌∙◌}
use Rattle.flow_snapshot.proofs.directory.Directory.try_copy.Goals as goal

pub returns : goal.returns
returns g c = c.in_ok-try_copy.ensures c.self.inside.width c.self.inside.wide ∙ c.self.view_is
