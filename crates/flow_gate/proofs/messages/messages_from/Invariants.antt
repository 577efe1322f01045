use Rattle.std.proofs.Common.{◌≡◌, ◌+◌, ◌-◌, ◌≤◌, length}
use Rattle.flow_gate.specs.Gate.{StandInRow, octet_sum}
use Rattle.flow_gate.specs.Scan.{texts}
use Rattle.flow_gate.proofs.messages.messages_from.Given as goal

abbrev pub invariant-messages : goal.invariant-messages
invariant-messages l = record {
  row : StandInRow l.octets l.from (texts l.messages.items);
  place : l.at ≡ l.from + octet_sum (texts l.messages.items);
  within : l.at ≤ length l.octets;
}

abbrev pub decreases-messages : goal.decreases-messages
decreases-messages l = length l.octets - l.at
