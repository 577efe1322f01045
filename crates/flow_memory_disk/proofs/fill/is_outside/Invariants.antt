use Rattle.std.proofs.Common.{◌≡◌, take, reverse}
use Rattle.flow_memory_disk.specs.Stopped.{outside}
use Rattle.flow_memory_disk.proofs.fill.is_outside.Given as goal

abbrev pub invariant-loop-range : goal.invariant-loop-range
invariant-loop-range l = l.is ≡ outside (reverse (take l.range-index l.touched)) l.place
