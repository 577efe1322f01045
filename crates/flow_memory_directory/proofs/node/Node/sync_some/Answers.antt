use Rattle.std.proofs.Common.{arith}
use Rattle.flow_memory_directory.proofs.Devices.{device_some}
use Rattle.flow_memory_directory.proofs.node.Node.sync_some.Goals as goal

pub returns-clause-between : goal.returns-clause-between
returns-clause-between c = device_some c.args.self.now c.sync.new.self c.in_ok-sync.ensures.done
    (omega (arith, c.sync.new.self.end_within, c.sync.new.self.blocks.ok.0))
    (omega (arith, c.args.self.now.end_within, c.args.self.now.blocks.ok.0))
