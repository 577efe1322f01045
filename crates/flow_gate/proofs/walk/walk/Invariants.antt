use Rattle.std.proofs.Common.{◌≡◌, ◌≢◌, ◌+◌, ◌-◌, ◌≤◌, [], length}
use Rattle.flow_gate.specs.Gate.{StandInRow, octet_sum}
use Rattle.flow_gate.specs.Scan.{texts}
use Rattle.flow_gate.proofs.walk.walk.Given as goal

abbrev pub invariant-messages : goal.invariant-messages
invariant-messages l = record {
  row : StandInRow l.octets 0 (texts l.messages.items);
  place : l.at ≡ 0 + octet_sum (texts l.messages.items);
  fits : texts l.messages.items ≢ [] → l.at + 2 ≤ length l.octets;
}

abbrev pub decreases-messages : goal.decreases-messages
decreases-messages l = length l.octets - l.at
