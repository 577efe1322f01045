use Rattle.std.proofs.Common.{◌≡◌, ◌<◌, List, drop, length, map, take}
use Rattle.std.specs.Prelude.{IsTrue}
use Rattle.std.specs.FinMap.{FinMap}
use Rattle.std.specs.List.{list_all, AllZip}
use Rattle.flow_measure.specs.declared.rows.Sums.{Sums}
use Rattle.flow_measure.specs.Sums.{key_cmp}
use Rattle.flow_snapshot.specs.Files.{is_honest_sum, rollup_of, shared}
use Rattle.flow_snapshot.specs.Shares.{own, turn_after, IsFileSum}
use Rattle.flow_snapshot.specs.Totals.{with_maps}
use Rattle.flow_snapshot.proofs.Dealing.{Left}
use Rattle.flow_snapshot.proofs.Dealt.{ReadSoFar}
use Rattle.flow_snapshot.proofs.shares.add_own_files.Given as goal

-- what falls to the worker of the parts so far was added
abbrev pub invariant-loop-part : goal.invariant-loop-part
invariant-loop-part g l = record {
  faults : l.faults ≡ l.fn.faults;
  within : l.next < l.workers;
  turn : turn_after l.workers (length (drop l.part-index l.parts)) l.next
      ≡ turn_after l.workers (length l.parts) l.turn;
  width : l.rows.width ≡ l.fn.rows.width;
  found : IsTrue (list_all is_honest_sum (shared l.parts))
      → ReadSoFar (IsFileSum l.fn.rows.width) l.workers l.worker l.turn
      (map rollup_of (shared (take l.part-index l.parts))) l.next;
  left : IsTrue (list_all is_honest_sum (shared l.parts)) → (maps : List (FinMap key_cmp Sums))
      → AllZip (IsFileSum l.fn.rows.width) (map rollup_of (shared l.parts)) maps
      → Left (IsFileSum l.fn.rows.width) l.workers l.worker (map rollup_of (shared (drop l.part-index l.parts)))
      l.next l.rows
      (with_maps (own l.workers l.worker l.turn maps) l.fn.rows);
}
