use Rattle.std.proofs.Common.{◌≡◌, ◌∙◌, length, sym, ap, subst}
use Rattle.flow_directory.specs.File.{File}
use Rattle.flow_memory_directory.proofs.At.{file_at}
use Rattle.flow_memory_directory.proofs.calls.MemoryDirectoryDirectory.open.Goals as goal

pub returns-clause-linked : goal.returns-clause-linked
returns-clause-linked c h = ap (λ (f : File). f.linked) (file_at c.args.self.now c.in_ok-index.index c.args.file c.index.result.now c.in_ok-index.ensures.found.0 c.in_ok-index.ensures.found.1 c.index.ensures) ∙ sym c.in-Some.ensures.linked

pub returns-clause-status : goal.returns-clause-status
returns-clause-status c h = subst (λ (f : File). (c.in-Some.status.length ≡ length f.held.reads)
    × (c.in-Some.status.read_only ≡ f.read_only)) (sym (file_at c.args.self.now c.in_ok-index.index c.args.file c.index.result.now c.in_ok-index.ensures.found.0 c.in_ok-index.ensures.found.1 c.index.ensures)) c.in-Some.ensures.status
