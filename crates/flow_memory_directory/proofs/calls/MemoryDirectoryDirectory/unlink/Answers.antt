use Rattle.flow_memory_directory.proofs.Results.{changes_rule, changes_others, changes_time, changes_covered, unlinking_not}
use Rattle.flow_directory.specs.Calls.{Unlinking}
use Rattle.flow_memory_directory.proofs.calls.MemoryDirectoryDirectory.unlink.Goals as goal

pub returns-clause-unlinked : goal.returns-clause-unlinked
returns-clause-unlinked c h = changes_rule c.args.self.now c.unlink_node.new.self c.args.file c.unlink_node.result (λ r was now. Unlinking was now r) _
    c.unlink_node.ensures.done c.unlink_node.ensures.failed (λ e f. unlinking_not e f)

pub returns-clause-others : goal.returns-clause-others
returns-clause-others c h = changes_others c.args.self.now c.unlink_node.new.self c.args.file c.unlink_node.result _ _
    c.unlink_node.ensures.done c.unlink_node.ensures.failed

pub returns-clause-time : goal.returns-clause-time
returns-clause-time c h = changes_time c.args.self.now c.unlink_node.new.self c.args.file c.unlink_node.result _ _
    c.unlink_node.ensures.done c.unlink_node.ensures.failed

pub returns-clause-covered : goal.returns-clause-covered
returns-clause-covered c h = changes_covered c.args.self.now c.unlink_node.new.self c.args.file c.unlink_node.result _ _ c.unlink_node.ensures.done
