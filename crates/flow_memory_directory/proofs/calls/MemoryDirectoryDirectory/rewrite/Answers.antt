use Rattle.std.proofs.Common.{refl}
use Rattle.flow_memory_directory.proofs.Results.{keeps_rule, keeps_others, keeps_time, rewriting_not}
use Rattle.std.proofs.Common.{length}
use Rattle.flow_directory.specs.Calls.{Rewriting}
use Rattle.flow_memory_directory.proofs.calls.MemoryDirectoryDirectory.rewrite.Goals as goal

pub returns-clause-written : goal.returns-clause-written
returns-clause-written c h = keeps_rule c.args.self.now c.rewrite_node.new.self c.args.file c.rewrite_node.result (λ r was now. Rewriting was now c.args.at (length c.args.octets.now) r)
    c.rewrite_node.ensures.done c.rewrite_node.ensures.failed (λ e f. rewriting_not e f c.args.at (length c.args.octets.now))

pub returns-clause-others : goal.returns-clause-others
returns-clause-others c h = keeps_others c.args.self.now c.rewrite_node.new.self c.args.file c.rewrite_node.result _
    c.rewrite_node.ensures.done c.rewrite_node.ensures.failed

pub returns-clause-time : goal.returns-clause-time
returns-clause-time c h = keeps_time c.args.self.now c.rewrite_node.new.self c.args.file c.rewrite_node.result _
    c.rewrite_node.ensures.done c.rewrite_node.ensures.failed

pub rewrite_node-requires : goal.rewrite_node-requires
rewrite_node-requires c = c.requires.equal refl
