use Rattle.std.proofs.Common.{refl}
use Rattle.flow_memory_directory.proofs.Results.{keeps_rule, keeps_others, keeps_time, retruncating_not}
use Rattle.flow_directory.specs.Calls.{Retruncating}
use Rattle.flow_memory_directory.proofs.calls.MemoryDirectoryDirectory.retruncate.Goals as goal

pub returns-clause-cut : goal.returns-clause-cut
returns-clause-cut c h = keeps_rule c.args.self.now c.recut_node.new.self c.args.file c.recut_node.result (λ r was now. Retruncating was now r)
    c.recut_node.ensures.done c.recut_node.ensures.failed (λ e f. retruncating_not e f)

pub returns-clause-others : goal.returns-clause-others
returns-clause-others c h = keeps_others c.args.self.now c.recut_node.new.self c.args.file c.recut_node.result _
    c.recut_node.ensures.done c.recut_node.ensures.failed

pub returns-clause-time : goal.returns-clause-time
returns-clause-time c h = keeps_time c.args.self.now c.recut_node.new.self c.args.file c.recut_node.result _
    c.recut_node.ensures.done c.recut_node.ensures.failed

pub recut_node-requires : goal.recut_node-requires
recut_node-requires c = c.requires.size refl
