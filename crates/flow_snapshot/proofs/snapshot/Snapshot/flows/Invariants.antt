use Rattle.std.proofs.Common.{◌≡◌, take}
use Rattle.std.specs.Prelude.{IsTrue}
use Rattle.flow_snapshot.specs.Found.{kept_by_file, AreOwnFlows}
use Rattle.flow_snapshot.proofs.snapshot.Snapshot.flows.Given as goal

-- the flows of the files so far were collected
abbrev pub invariant-loop-at : goal.invariant-loop-at
invariant-loop-at g l = record {
  faults : l.faults ≡ l.fn.faults;
  found : IsTrue l.self.honest → AreOwnFlows l.from l.to (take l.at (kept_by_file l.self.shelf)) l.flows.items;
}
