use Rattle.std.proofs.Common.{◌≡◌, ◌++◌}
use Rattle.flow_segment.proofs.carry.pairs_of.Given as goal

abbrev pub invariant-loop-domain : goal.invariant-loop-domain
invariant-loop-domain l = l.pairs.items ++ l.domain-iterator ≡ l.due.entries
