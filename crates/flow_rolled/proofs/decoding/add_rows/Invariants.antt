use Rattle.std.proofs.Common.{◌≡◌, List, ◌++◌, take}
use Rattle.flow_rolled.specs.declared.row.RolledRow.{RolledRow}
use Rattle.flow_rolled.specs.Rows.{sums_of}
use Rattle.flow_rolled.proofs.decoding.add_rows.Given as goal

abbrev pub invariant-loop-row : goal.invariant-loop-row
invariant-loop-row l = (earlier : List RolledRow) → l.fn.rows.sums ≡ sums_of earlier
    → l.rows ≡ record { width = l.fn.rows.width; sums = sums_of (earlier ++ take l.row-index l.list) }
