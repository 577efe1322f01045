use Rattle.flow_memory_directory.proofs.Results.{changes_rule, changes_others, changes_time, changes_covered, writing_not}
use Rattle.flow_directory.specs.Calls.{Writing}
use Rattle.flow_memory_directory.proofs.calls.MemoryDirectoryDirectory.write.Goals as goal

pub returns-clause-written : goal.returns-clause-written
returns-clause-written c h = changes_rule c.args.self.now c.write_node.new.self c.args.file c.write_node.result (λ r was now. Writing was now c.args.at c.args.octets.now r) _
    c.write_node.ensures.done c.write_node.ensures.failed (λ e f. writing_not e f c.args.at c.args.octets.now)

pub returns-clause-others : goal.returns-clause-others
returns-clause-others c h = changes_others c.args.self.now c.write_node.new.self c.args.file c.write_node.result _ _
    c.write_node.ensures.done c.write_node.ensures.failed

pub returns-clause-time : goal.returns-clause-time
returns-clause-time c h = changes_time c.args.self.now c.write_node.new.self c.args.file c.write_node.result _ _
    c.write_node.ensures.done c.write_node.ensures.failed

pub returns-clause-covered : goal.returns-clause-covered
returns-clause-covered c h = changes_covered c.args.self.now c.write_node.new.self c.args.file c.write_node.result _ _ c.write_node.ensures.done
