use Rattle.std.proofs.Common.{◌≡◌, ◌∙◌, ℕ, List, length, take, drop, sym, ap, subst, OnOk}
use Rattle.flow_directory.specs.File.{File}
use Rattle.flow_memory_directory.proofs.At.{file_at}
use Rattle.flow_memory_directory.proofs.calls.MemoryDirectoryDirectory.read.Goals as goal

pub returns-clause-octets : goal.returns-clause-octets
returns-clause-octets c h = subst (λ (l : List ℕ). OnOk c.copy.result (c.copy.new.to ≡ take (length c.args.octets.now)
    (drop c.args.at l))) (c.deref.ensures.value ∙ sym (ap (λ (f : File). f.held.reads) (file_at c.args.self.now c.in_ok-index.index c.args.file c.index.result.now c.in_ok-index.ensures.found.0 c.in_ok-index.ensures.found.1 c.index.ensures))) c.copy.ensures
