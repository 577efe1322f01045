use Rattle.std.proofs.Common.{drop}
use Rattle.flow_rolled.specs.Rows.{AllMayFollow}
use Rattle.flow_rolled.proofs.judging.are_in_order.Given as goal

abbrev pub invariant-loop-row : goal.invariant-loop-row
invariant-loop-row l = (AllMayFollow l.last (drop l.row-index l.rows) → AllMayFollow l.fn.before l.rows)
    × (AllMayFollow l.fn.before l.rows → AllMayFollow l.last (drop l.row-index l.rows))
