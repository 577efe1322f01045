use Rattle.std.proofs.Common.{◌≡◌, ◌++◌, length}
use Rattle.std.specs.FinMap.{entries}
use Rattle.flow_measure.specs.Sums.{AllFit, gathered}
use Rattle.flow_measure.specs.Entries.{map_of, table_at, all_undone}
use Rattle.flow_measure.proofs.entries.Entries.merge.Given as goal

-- what was added and what is left, gathered, are all sums; and the changes lead back
abbrev pub invariant-loop-key : goal.invariant-loop-key
invariant-loop-key l = record {
  fit : AllFit (table_at 0 l.self);
  same : gathered (entries (map_of l.self) ++ l.walk)
      ≡ gathered (entries (map_of l.fn.self) ++ entries (map_of l.fn.other));
  back : all_undone l.changes.items l.self ≡ l.fn.self;
}

abbrev pub decreases-loop-key : goal.decreases-loop-key
decreases-loop-key l = length l.walk
