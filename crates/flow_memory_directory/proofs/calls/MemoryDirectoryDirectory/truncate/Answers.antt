use Rattle.flow_memory_directory.proofs.Results.{changes_rule, changes_others, changes_time, changes_covered, truncating_not}
use Rattle.flow_directory.specs.Calls.{Truncating}
use Rattle.flow_memory_directory.proofs.calls.MemoryDirectoryDirectory.truncate.Goals as goal

pub returns-clause-cut : goal.returns-clause-cut
returns-clause-cut c h = changes_rule c.args.self.now c.cut_node.new.self c.args.file c.cut_node.result (λ r was now. Truncating was now c.args.count r) _
    c.cut_node.ensures.done c.cut_node.ensures.failed (λ e f. truncating_not e f c.args.count)

pub returns-clause-others : goal.returns-clause-others
returns-clause-others c h = changes_others c.args.self.now c.cut_node.new.self c.args.file c.cut_node.result _ _
    c.cut_node.ensures.done c.cut_node.ensures.failed

pub returns-clause-time : goal.returns-clause-time
returns-clause-time c h = changes_time c.args.self.now c.cut_node.new.self c.args.file c.cut_node.result _ _
    c.cut_node.ensures.done c.cut_node.ensures.failed

pub returns-clause-covered : goal.returns-clause-covered
returns-clause-covered c h = changes_covered c.args.self.now c.cut_node.new.self c.args.file c.cut_node.result _ _ c.cut_node.ensures.done
