use Rattle.std.proofs.Common.{refl}
use Rattle.flow_memory_directory.proofs.Results.{keeps_rule, keeps_others, keeps_time, unlinking_empty_not}
use Rattle.flow_directory.specs.Calls.{UnlinkingEmpty}
use Rattle.flow_memory_directory.proofs.calls.MemoryDirectoryDirectory.unlink_empty.Goals as goal

pub returns-clause-unlinked : goal.returns-clause-unlinked
returns-clause-unlinked c h = keeps_rule c.args.self.now c.unlink_empty_node.new.self c.args.file c.unlink_empty_node.result (λ r was now. UnlinkingEmpty was now r)
    c.unlink_empty_node.ensures.done c.unlink_empty_node.ensures.failed (λ e f. unlinking_empty_not e f)

pub returns-clause-others : goal.returns-clause-others
returns-clause-others c h = keeps_others c.args.self.now c.unlink_empty_node.new.self c.args.file c.unlink_empty_node.result _
    c.unlink_empty_node.ensures.done c.unlink_empty_node.ensures.failed

pub returns-clause-time : goal.returns-clause-time
returns-clause-time c h = keeps_time c.args.self.now c.unlink_empty_node.new.self c.args.file c.unlink_empty_node.result _
    c.unlink_empty_node.ensures.done c.unlink_empty_node.ensures.failed

pub unlink_empty_node-requires : goal.unlink_empty_node-requires
unlink_empty_node-requires c = c.requires.empty refl
