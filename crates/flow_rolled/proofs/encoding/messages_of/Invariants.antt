use Rattle.std.proofs.Common.{◌≤◌}
use Rattle.std.specs.Prelude.{IfSome}
use Rattle.flow_rolled.specs.Messages.{messages_with}
use Rattle.flow_rolled.specs.Octets.{messages_octets}
use Rattle.flow_rolled.proofs.WrittenParts.{IsWritten, work}
use Rattle.flow_rolled.proofs.encoding.messages_of.Given as goal

abbrev pub invariant-loop-left : goal.invariant-loop-left
invariant-loop-left l = record {
  few : IfSome l.before (λ p. p.count ≤ 1000);
  written : IsWritten l.width l.time (messages_octets l.width (messages_with l.time l.rows)) l.octets.items l.before
      l.left;
}

abbrev pub decreases-loop-left : goal.decreases-loop-left
decreases-loop-left l = work l.before l.left
