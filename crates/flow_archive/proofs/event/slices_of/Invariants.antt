use Rattle.std.proofs.Common.{◌≡◌, ◌≤◌, length, take, vec_len}
use Rattle.std.specs.Prelude.{vec_capacity}
use Rattle.flow_gate.specs.Scan.{texts}
use Rattle.flow_gate.specs.Steps.{slices}
use Rattle.flow_archive.proofs.event.slices_of.Given as goal

abbrev pub invariant-loop-message : goal.invariant-loop-message
invariant-loop-message l = record {
  done : slices l.octets.items ≡ texts (take l.message-index l.messages);
  count : vec_len l.octets ≡ l.message-index;
  room : length l.messages ≤ vec_capacity l.octets;
}
