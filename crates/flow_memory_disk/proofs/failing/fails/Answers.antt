use Rattle.std.proofs.Common.{sym, ◌∙◌}
use Rattle.flow_memory_disk.proofs.failing.fails.Goals as goal

pub returns-else-fails-clause-fails : goal.returns-else-fails-clause-fails
returns-else-fails-clause-fails g c = c.asks-fails.ensures.fails
