use Rattle.flow_memory_directory.proofs.Results.{keeps_others, keeps_time}
use Rattle.flow_memory_directory.proofs.Settling.{settling}
use Rattle.flow_memory_directory.proofs.calls.MemoryDirectoryDirectory.settle.Goals as goal

pub returns-clause-settled : goal.returns-clause-settled
returns-clause-settled c h = settling c.args.self.now c.settle_node.new.self c.args.file c.settle_node.result c.settle_node.ensures.done
    c.settle_node.ensures.failed

pub returns-clause-others : goal.returns-clause-others
returns-clause-others c h = keeps_others c.args.self.now c.settle_node.new.self c.args.file c.settle_node.result _ c.settle_node.ensures.done
    c.settle_node.ensures.failed

pub returns-clause-time : goal.returns-clause-time
returns-clause-time c h = keeps_time c.args.self.now c.settle_node.new.self c.args.file c.settle_node.result _ c.settle_node.ensures.done
    c.settle_node.ensures.failed
