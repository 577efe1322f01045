use Rattle.std.proofs.Common.{inl}
use Rattle.flow_commands.proofs.feeding.feed_over.Goals as goal

pub returns-clause-asked : goal.returns-clause-asked
returns-clause-asked g c = inl (c.new-disk.result, c.feed_on.ensures.asked)
