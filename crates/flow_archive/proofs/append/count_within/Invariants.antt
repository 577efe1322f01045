use Rattle.std.proofs.Common.{◌≡◌, ◌≤◌, take}
use Rattle.flow_gate.specs.Gate.{octet_sum}
use Rattle.flow_gate.specs.Steps.{slices}
use Rattle.flow_archive.proofs.append.count_within.Given as goal

abbrev pub invariant-loop-message : goal.invariant-loop-message
invariant-loop-message l = record {
  count : l.count ≡ octet_sum (slices (take l.message-index l.messages));
  within : l.count ≤ l.room;
}
