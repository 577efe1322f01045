use Rattle.std.proofs.Common.{◌∙◌, sym, ap}
use Rattle.flow_directory.specs.File.{File}
use Rattle.flow_memory_directory.proofs.At.{file_at}
use Rattle.flow_memory_directory.proofs.memory.MemoryDirectory.octets_of.Goals as goal

pub returns : goal.returns
returns c = c.in_ok-octets.ensures.items_if_clones_equal (λ x y same. same)
    ∙ c.deref.ensures.value ∙ sym (ap (λ (f : File). f.held.reads) (file_at c.args.self.now c.in_ok-index.index c.args.file c.index.result.now c.in_ok-index.ensures.found.0 c.in_ok-index.ensures.found.1 c.index.ensures))
