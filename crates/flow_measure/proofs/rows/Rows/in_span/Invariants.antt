use Rattle.std.proofs.Common.{◌≡◌, ◌++◌, length, map}
use Rattle.std.specs.Prelude.{filter}
use Rattle.flow_measure.specs.Sums.{table_row, is_within, rows_between}
use Rattle.flow_measure.proofs.rows.Rows.in_span.Given as goal

-- the rows so far and those of what is left are all of them
abbrev pub invariant-loop-key : goal.invariant-loop-key
invariant-loop-key l =
    l.rows.items ++ map (table_row l.fn.self.width) (filter (λ e. is_within l.fn.from l.fn.to e.0) l.walk)
    ≡ rows_between l.fn.from l.fn.to l.fn.self

abbrev pub decreases-loop-key : goal.decreases-loop-key
decreases-loop-key l = length l.walk
