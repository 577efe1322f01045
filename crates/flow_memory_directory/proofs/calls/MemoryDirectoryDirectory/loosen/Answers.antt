use Rattle.flow_memory_directory.proofs.Results.{changes_rule, changes_others, changes_time, changes_covered, loosening_not}
use Rattle.flow_directory.specs.Calls.{Loosening}
use Rattle.flow_memory_directory.proofs.calls.MemoryDirectoryDirectory.loosen.Goals as goal

pub returns-clause-loosened : goal.returns-clause-loosened
returns-clause-loosened c h = changes_rule c.args.self.now c.loosen_node.new.self c.args.file c.loosen_node.result (λ r was now. Loosening was now r) _
    c.loosen_node.ensures.done c.loosen_node.ensures.failed (λ e f. loosening_not e f)

pub returns-clause-others : goal.returns-clause-others
returns-clause-others c h = changes_others c.args.self.now c.loosen_node.new.self c.args.file c.loosen_node.result _ _
    c.loosen_node.ensures.done c.loosen_node.ensures.failed

pub returns-clause-time : goal.returns-clause-time
returns-clause-time c h = changes_time c.args.self.now c.loosen_node.new.self c.args.file c.loosen_node.result _ _
    c.loosen_node.ensures.done c.loosen_node.ensures.failed

pub returns-clause-covered : goal.returns-clause-covered
returns-clause-covered c h = changes_covered c.args.self.now c.loosen_node.new.self c.args.file c.loosen_node.result _ _ c.loosen_node.ensures.done
