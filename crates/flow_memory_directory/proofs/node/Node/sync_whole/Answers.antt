use Rattle.std.proofs.Common.{rules, arith}
use Rattle.flow_memory_directory.proofs.Devices.{device_whole}
use Rattle.flow_memory_directory.proofs.node.Node.sync_whole.Goals as goal

pub returns-clause-same : goal.returns-clause-same
returns-clause-same c = device_whole c.args.self.now c.sync.new.self c.in_ok-sync.ensures.done
    (omega (arith, c.sync.new.self.end_within, c.sync.new.self.blocks.ok.0)) (search rules)
