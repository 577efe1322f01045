use Rattle.std.proofs.Common.{rules}
use Rattle.flow_memory_directory.proofs.AllFiles.{no_room}
use Rattle.flow_memory_directory.proofs.calls.MemoryDirectoryDirectory.take_back.Goals as goal

pub returns-in_default-clause-lent : goal.returns-in_default-clause-lent
returns-in_default-clause-lent c h = no_room c.args.self.now c.args.reader.number (search rules)
