use Rattle.std.proofs.Common.{◌≡◌, replicate}
use Rattle.flow_memory_directory.specs.declared.mark.Mark.TheVariants.{Dirty}
use Rattle.flow_memory_directory.proofs.lists.dirty.Given as goal

abbrev pub invariant-marks : goal.invariant-marks
invariant-marks l = l.made.items ≡ replicate l._place Dirty
