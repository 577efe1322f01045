use Rattle.std.proofs.Common.{length, drop}
use Rattle.flow_segment.proofs.Batches.{SetsLeave}
use Rattle.flow_segment.proofs.defining.may_define.Given as goal

-- what the rest defines is all
abbrev pub invariant-sets : goal.invariant-sets
invariant-sets l = SetsLeave l.rest → SetsLeave (drop 16 l.octets)

abbrev pub decreases-sets : goal.decreases-sets
decreases-sets l = length l.rest
