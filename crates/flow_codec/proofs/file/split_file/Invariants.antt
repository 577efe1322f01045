use Rattle.std.proofs.Common.{length, ◌-◌}
use Rattle.flow_codec.proofs.Dividing.{Walked}
use Rattle.flow_codec.proofs.file.split_file.Given as goal

abbrev pub invariant-loop-at : goal.invariant-loop-at
invariant-loop-at l = Walked l.octets l.at l.spans.items

abbrev pub decreases-loop-at : goal.decreases-loop-at
decreases-loop-at l = length l.octets - l.at
