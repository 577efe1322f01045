use Rattle.std.proofs.Common.{◌≡◌, List, drop, map, take}
use Rattle.std.specs.Prelude.{IsTrue}
use Rattle.std.specs.FinMap.{FinMap}
use Rattle.std.specs.List.{list_all}
use Rattle.flow_measure.specs.declared.rows.Sums.{Sums}
use Rattle.flow_measure.specs.Sums.{key_cmp}
use Rattle.flow_snapshot.specs.Files.{is_honest_sum, rollup_of, shared}
use Rattle.flow_model.specs.Views.{AreRolled}
use Rattle.flow_snapshot.proofs.Adding.{Summed}
use Rattle.flow_snapshot.proofs.Finding.{AreSummed}
use Rattle.flow_snapshot.proofs.summing.add_rolled.Given as goal

-- the sums of the files so far were added
abbrev pub invariant-loop-part : goal.invariant-loop-part
invariant-loop-part g l = record {
  faults : l.faults ≡ l.fn.faults;
  found : IsTrue (list_all is_honest_sum (shared l.parts)) → AreSummed l.fn.rows
      (map rollup_of (shared (take l.part-index l.parts))) l.rows;
  summed : IsTrue (list_all is_honest_sum (shared l.parts)) → (maps : List (FinMap key_cmp Sums))
      → AreRolled l.fn.rows.width (map rollup_of (shared l.parts)) maps
      → Summed l.fn.rows maps (map rollup_of (shared (drop l.part-index l.parts))) l.rows;
}
