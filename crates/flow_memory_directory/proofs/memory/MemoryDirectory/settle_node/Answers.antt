use Rattle.std.proofs.Common.{rules, subst, sym}
use Rattle.flow_directory.specs.File.{File}
use Rattle.flow_memory_directory.specs.Bound.{bound}
use Rattle.flow_memory_directory.specs.Memory.{deeds_of}
use Rattle.flow_memory_directory.proofs.At.{file_at}
use Rattle.flow_memory_directory.proofs.At.{keeps_none}
use Rattle.flow_memory_directory.specs.Memory.{Settles}
use Rattle.flow_memory_directory.proofs.Settling.{settles_not}
use Rattle.flow_memory_directory.proofs.memory.MemoryDirectory.settle_node.Goals as goal

pub returns-then-not-is_settled-clause-done : goal.returns-then-not-is_settled-clause-done
returns-then-not-is_settled-clause-done c = keeps_none c.args.self.now c.args.file (λ was now. Settles was now)
    (subst (λ (f : File). Settles f f) (sym (file_at c.args.self.now c.in_ok-index.index c.args.file c.index.result.now c.in_ok-index.ensures.found.0 c.in_ok-index.ensures.found.1 c.index.ensures))
    (settles_not (bound (deeds_of c.args.self.now) c.args.file) c.index.result.now (c.is_settled.ensures.other (search rules))))
