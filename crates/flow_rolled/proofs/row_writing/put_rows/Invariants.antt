use Rattle.std.proofs.Common.{◌≡◌, ◌++◌}
use Rattle.flow_rolled.specs.Rows.{further, rows_from}
use Rattle.flow_rolled.proofs.row_writing.put_rows.Given as goal

abbrev pub invariant-loop-left : goal.invariant-loop-left
invariant-loop-left l =
    l.rows.items ++ rows_from (further l.left) l.key l.left ≡ l.initial.rows.items ++ rows_from
    (further l.fn.sums) l.key l.fn.sums

abbrev pub decreases-loop-left : goal.decreases-loop-left
decreases-loop-left l = further l.left
