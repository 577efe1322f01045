use Rattle.std.proofs.Common.{◌≡◌, ◌++◌, ◌<◌, length}
use Rattle.std.specs.List.{AllByRecursion}
use Rattle.std.specs.FinMap.{entries}
use Rattle.flow_measure.specs.Sums.{gathered, AllFit, widened_entries}
use Rattle.flow_snapshot.proofs.shares.add_rows.Given as goal

-- what was added and what is left, gathered, are all sums
abbrev pub invariant-rows : goal.invariant-rows
invariant-rows l = record {
  width : l.rows.width ≡ l.fn.rows.width;
  fit : AllFit l.rows;
  same : gathered (entries l.rows.sums ++ widened_entries l.fn.rows.width l.walk)
      ≡ gathered (entries l.fn.rows.sums ++ widened_entries l.fn.rows.width (entries l.fn.other.sums));
  counted : AllByRecursion (λ e. 0 < e.1.flows) l.walk;
}

abbrev pub decreases-rows : goal.decreases-rows
decreases-rows l = length l.walk
