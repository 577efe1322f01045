use Rattle.std.proofs.Common.{◌≡◌, sym, subst, List, ℕ}
use Rattle.flow_memory_directory.specs.Bound.{IsBetween}
use Rattle.flow_memory_directory.specs.Nodes.{device_in}
use Rattle.flow_memory_directory.proofs.Devices.{kept_between}
use Rattle.flow_memory_directory.proofs.Falling.{falls_kept, falls_either}
use Rattle.flow_memory_directory.proofs.node.Node.fail.Goals as goal

pub returns-then-not-drops : goal.returns-then-not-drops
returns-then-not-drops c = falls_kept c.args.self.now c.lose.new.self c.lose.ensures

pub returns : goal.returns
returns c = falls_either c.args.self.now c.lose.new.self c.revert.new.self c.lose.ensures c.revert.result
    c.revert.ensures.done c.revert.ensures.failed
