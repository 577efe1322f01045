use Rattle.std.proofs.Common.{◌≡◌, ◌≤◌, length, take, vec_len}
use Rattle.std.specs.Prelude.{vec_capacity}
use Rattle.flow_archive.proofs.share.shared_all.Given as goal

abbrev pub invariant-loop-message : goal.invariant-loop-message
invariant-loop-message l = record {
  done : l.shared.items ≡ take l.message-index l.messages;
  count : vec_len l.shared ≡ l.message-index;
  room : length l.messages ≤ vec_capacity l.shared;
}
