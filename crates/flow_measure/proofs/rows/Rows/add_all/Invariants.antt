use Rattle.std.proofs.Common.{◌≡◌, ◌++◌, ◌<◌, drop}
use Rattle.std.specs.List.{AllByRecursion}
use Rattle.std.specs.FinMap.{entries}
use Rattle.flow_measure.specs.Sums.{gathered, AllFit, widened_entries}
use Rattle.flow_measure.proofs.rows.Rows.add_all.Given as goal

-- what was added and what is left, gathered, are all sums
abbrev pub invariant-loop-entry : goal.invariant-loop-entry
invariant-loop-entry l = record {
  width : l.self.width ≡ l.fn.self.width;
  fit : AllFit l.self;
  same : gathered (entries l.self.sums ++ widened_entries l.fn.self.width (drop l.entry-index l.entries))
      ≡ gathered (entries l.fn.self.sums ++ widened_entries l.fn.self.width l.entries);
  counted : AllByRecursion (λ e. 0 < e.1.flows) (drop l.entry-index l.entries);
}
