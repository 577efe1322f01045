use Rattle.std.proofs.Common.{◌≤◌, ◌+◌, ◌-◌, ℕ, length, drop}
use Rattle.flow_measure.specs.Query.{interleaved}
use Rattle.flow_snapshot.proofs.BothRows.{Rest}
use Rattle.flow_several.proofs.interleaving.interleaved.Given as goal

-- what was taken, and after it what is left, interleaved, is all
abbrev pub invariant-rows : goal.invariant-rows
invariant-rows l = record {
  left : l.row ≤ length l.rows;
  right : l.other ≤ length l.others;
  rest : (steps : ℕ) → length l.rows + length l.others ≤ steps
      → Rest l.all.items (drop l.row l.rows) (drop l.other l.others) (interleaved steps l.rows l.others);
}

abbrev pub decreases-rows : goal.decreases-rows
decreases-rows l = (length l.rows - l.row) + (length l.others - l.other)
