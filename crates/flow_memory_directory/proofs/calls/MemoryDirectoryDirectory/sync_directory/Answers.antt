use Rattle.flow_memory_directory.proofs.Results.{log_time}
use Rattle.flow_memory_directory.proofs.calls.MemoryDirectoryDirectory.sync_directory.Goals as goal

pub returns-clause-time : goal.returns-clause-time
returns-clause-time c h = log_time c.args.self.now c.sync_names.new.self c.sync_names.ensures.log _
