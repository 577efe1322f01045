use Rattle.std.proofs.Common.{◌≡◌, ◌≤◌, drop, length, take, vec_len}
use Rattle.std.specs.Prelude.{vec_capacity}
use Rattle.flow_codec.specs.Message.{joined}
use Rattle.flow_gate.specs.Steps.{slices}
use Rattle.flow_archive.proofs.append.parts_of.Given as goal

abbrev pub invariant-loop-message : goal.invariant-loop-message
invariant-loop-message l = record {
  done : l.parts.items ≡ slices (take l.message-index l.messages);
  left : l.rest ≡ joined (slices (drop l.message-index l.messages));
  count : vec_len l.parts ≡ l.message-index;
  room : length l.messages ≤ vec_capacity l.parts;
}
