use Rattle.flow_memory_directory.proofs.Results.{keeps_rule, keeps_others, keeps_time, changing_mode_not}
use Rattle.flow_directory.specs.Calls.{ChangingMode}
use Rattle.flow_memory_directory.proofs.calls.MemoryDirectoryDirectory.set_read_only.Goals as goal

pub returns-clause-changed : goal.returns-clause-changed
returns-clause-changed c h = keeps_rule c.args.self.now c.set_mode_of_node.new.self c.args.file c.set_mode_of_node.result (λ r was now. ChangingMode was now c.args.read_only r)
    c.set_mode_of_node.ensures.done c.set_mode_of_node.ensures.failed (λ e f. changing_mode_not e f c.args.read_only)

pub returns-clause-others : goal.returns-clause-others
returns-clause-others c h = keeps_others c.args.self.now c.set_mode_of_node.new.self c.args.file c.set_mode_of_node.result _
    c.set_mode_of_node.ensures.done c.set_mode_of_node.ensures.failed

pub returns-clause-time : goal.returns-clause-time
returns-clause-time c h = keeps_time c.args.self.now c.set_mode_of_node.new.self c.args.file c.set_mode_of_node.result _
    c.set_mode_of_node.ensures.done c.set_mode_of_node.ensures.failed
