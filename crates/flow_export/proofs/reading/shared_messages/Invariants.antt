use Rattle.std.proofs.Common.{◌≡◌, ◌+◌, ◌≤◌, ◌++◌, length, vec_len, vec_capacity}
use Rattle.flow_gate.specs.Scan.{texts}
use Rattle.flow_export.proofs.reading.shared_messages.Given as goal

abbrev pub invariant-loop-message : goal.invariant-loop-message
invariant-loop-message l = record {
  done : l.shared.items ++ texts l.message-iterator.rest.items ≡ texts l.fn.messages.items;
  room : vec_len l.shared + length l.message-iterator.rest.items ≤ vec_capacity l.shared;
}
