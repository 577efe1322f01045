use Rattle.flow_memory_directory.proofs.Results.{keeps_rule, keeps_others, keeps_time, creating_not}
use Rattle.flow_directory.specs.Calls.{Creating}
use Rattle.flow_memory_directory.proofs.calls.MemoryDirectoryDirectory.create.Goals as goal

pub returns-clause-created : goal.returns-clause-created
returns-clause-created c h = keeps_rule c.args.self.now c.create_node.new.self c.args.file c.create_node.result (λ r was now. Creating was now r)
    c.create_node.ensures.done c.create_node.ensures.failed (λ e f. creating_not e f)

pub returns-clause-others : goal.returns-clause-others
returns-clause-others c h = keeps_others c.args.self.now c.create_node.new.self c.args.file c.create_node.result _
    c.create_node.ensures.done c.create_node.ensures.failed

pub returns-clause-time : goal.returns-clause-time
returns-clause-time c h = keeps_time c.args.self.now c.create_node.new.self c.args.file c.create_node.result _
    c.create_node.ensures.done c.create_node.ensures.failed
