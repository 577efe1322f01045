use Rattle.std.proofs.Common.{List, length}
use Rattle.flow_rolled.specs.Messages.{RolledMessage}
use Rattle.flow_rolled.proofs.SoFar.{IsSoFar}
use Rattle.flow_rolled.proofs.decoding.decode_rows.Given as goal

abbrev pub invariant-loop-rest : goal.invariant-loop-rest
invariant-loop-rest l = (front : List RolledMessage) × IsSoFar l.width l.octets l.rest l.before l.rows front

abbrev pub decreases-loop-rest : goal.decreases-loop-rest
decreases-loop-rest l = length l.rest
