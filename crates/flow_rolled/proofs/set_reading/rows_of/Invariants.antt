use Rattle.std.proofs.Common.{length}
use Rattle.flow_rolled.proofs.RowSets.{AreRead}
use Rattle.flow_rolled.proofs.set_reading.rows_of.Given as goal

abbrev pub invariant-loop-rest : goal.invariant-loop-rest
invariant-loop-rest l = AreRead l.width l.domain l.with l.octets l.rest l.rows.items

abbrev pub decreases-loop-rest : goal.decreases-loop-rest
decreases-loop-rest l = length l.rest
