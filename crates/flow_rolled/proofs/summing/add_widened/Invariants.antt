use Rattle.std.proofs.Common.{◌≡◌, ◌++◌, drop}
use Rattle.std.specs.FinMap.{entries}
use Rattle.flow_measure.specs.Sums.{gathered, AllFit, widened_entries}
use Rattle.flow_rolled.specs.Rows.{entries_in}
use Rattle.flow_rolled.specs.Stored.{AreCounted}
use Rattle.flow_rolled.proofs.summing.add_widened.Given as goal

-- what was added and what is left, gathered, are all sums
abbrev pub invariant-loop-row : goal.invariant-loop-row
invariant-loop-row l = record {
  width : l.rows.width ≡ l.fn.rows.width;
  fit : AllFit l.rows;
  same : gathered (entries l.rows.sums ++ widened_entries l.fn.rows.width (entries_in (drop l.row-index l.list)))
      ≡ gathered (entries l.fn.rows.sums ++ widened_entries l.fn.rows.width (entries_in l.list));
  counted : AreCounted l.rows (drop l.row-index l.list);
}
