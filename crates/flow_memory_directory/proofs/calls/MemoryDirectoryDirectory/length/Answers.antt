use Rattle.std.proofs.Common.{rules, length, sym, ap}
use Rattle.flow_directory.specs.File.{File}
use Rattle.flow_memory_directory.proofs.At.{file_at}
use Rattle.flow_memory_directory.proofs.calls.MemoryDirectoryDirectory.length.Goals as goal

pub returns-clause-count : goal.returns-clause-count
returns-clause-count c h = search (rules, sym (ap (λ (f : File). length f.held.reads) (file_at c.args.self.now c.in_ok-index.index c.args.file c.index.result.now c.in_ok-index.ensures.found.0 c.in_ok-index.ensures.found.1 c.index.ensures)), c.index.result.now.octets.ok.0)
