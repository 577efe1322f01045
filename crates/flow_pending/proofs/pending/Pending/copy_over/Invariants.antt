use Rattle.std.proofs.Common.{◌≡◌, ◌-◌, ◌≤◌, max, IsTrue}
use Rattle.flow_pending.proofs.Copying.{Copied}
use Rattle.flow_pending.proofs.pending.Pending.copy_over.Given as goal

abbrev pub invariant-pieces : goal.invariant-pieces
invariant-pieces g l = record {
  honest : g.D.Directory.honest l.dir ≡ g.D.Directory.honest l.fn.dir;
  begun : l.from ≤ l.at;
  ended : l.at ≤ max l.from l.to;
  copied : IsTrue (g.D.Directory.honest l.fn.dir)
      → Copied g.D.Directory.files g.D.Directory.moment g.D.Directory.left_since l.fn.dir l.dir l.self.file l.from l.at;
}

abbrev pub decreases-pieces : goal.decreases-pieces
decreases-pieces g l = l.to - l.at
