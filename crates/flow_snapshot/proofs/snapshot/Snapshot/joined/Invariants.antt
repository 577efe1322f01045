use Rattle.std.proofs.Common.{◌≡◌, ◌<◌, ℕ, List, length}
use Rattle.std.specs.Prelude.{IsTrue}
use Rattle.std.specs.FinMap.{FinMap}
use Rattle.flow_measure.specs.declared.rows.Sums.{Sums}
use Rattle.flow_measure.specs.Sums.{key_cmp}
use Rattle.flow_snapshot.specs.Shares.{AreNarrow, AreWide, IsOwnRead}
use Rattle.flow_snapshot.proofs.Joining.{Joined}
use Rattle.flow_snapshot.proofs.snapshot.Snapshot.joined.Given as goal

-- the shares so far were added
abbrev pub invariant-loop-share : goal.invariant-loop-share
invariant-loop-share g l = record {
  faults : l.faults ≡ l.fn.faults;
  read : IsTrue l.self.honest → (n : ℕ) → n < length l.yielded
      → IsOwnRead l.self.shelf (length l.fn.shares.items) n;
  joined : IsTrue l.self.honest → (wide narrow : List (FinMap key_cmp Sums)) → AreWide l.self.shelf wide
      → AreNarrow l.self.shelf narrow
      → Joined l.self.shelf (length l.fn.shares.items) (length l.yielded) wide narrow l.sums;
}
