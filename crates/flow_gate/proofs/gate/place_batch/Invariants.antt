use Rattle.std.proofs.Common.{◌≡◌, ◌≢◌, ◌⊎◌, ℕ, ◌+◌, ◌≤◌, max, false, IsTrue, take}
use Rattle.flow_gate.specs.Gate.{octet_sum}
use Rattle.flow_gate.specs.Steps.{slices, put_behind}
use Rattle.flow_gate.proofs.Placing.{IsUnderWay}
use Rattle.flow_gate.proofs.gate.place_batch.Given as goal

abbrev pub invariant-loop-message : goal.invariant-loop-message
invariant-loop-message g l = let D = g.D.Disk in record {
  place : l.at ≡ l.end + octet_sum (slices (take l.message-index l.messages));
  first : (l.at ≡ l.end) ⊎ (l.end + 16 ≤ l.at);
  some : 1 ≤ l.message-index → l.end + 16 ≤ l.at;
  honest : D.honest l.disk ≡ D.honest l.fn.disk;
  clock : D.moment l.fn.disk ≤ D.moment l.disk;
  faults : D.faults l.disk ≡ D.faults l.fn.disk;
  other_marks : (n : ℕ) → n ≢ l.file → D.marks l.disk n ≡ D.marks l.fn.disk n;
  thawed : (D.marks l.disk l.file).frozen ≡ false;
  size : (D.marks l.disk l.file).size ≡ max (D.marks l.fn.disk l.file).size l.at;
  under_way : IsTrue (D.honest l.fn.disk) → IsUnderWay D l.fn.disk l.file l.end l.disk;
  reads : IsTrue (D.honest l.fn.disk)
      → (D.held l.disk l.file).reads ≡ put_behind (D.held l.fn.disk l.file).reads l.end
      (slices (take l.message-index l.messages));
}
