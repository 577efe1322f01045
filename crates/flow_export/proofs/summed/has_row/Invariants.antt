use Rattle.std.proofs.Common.{◌≡◌, length}
use Rattle.flow_export.specs.Span.{meets}
use Rattle.std.specs.FinMap.{entries}
use Rattle.std.specs.List.{list_any}
use Rattle.flow_export.proofs.summed.has_row.Given as goal

-- the rows so far don't meet the span
abbrev pub invariant-rows : goal.invariant-rows
invariant-rows l =
    list_any (λ e. meets l.fn.span.from l.fn.span.to l.fn.rows.width e.0) (entries l.fn.rows.sums)
    ≡ list_any (λ e. meets l.fn.span.from l.fn.span.to l.fn.rows.width e.0) l.walk

abbrev pub decreases-rows : goal.decreases-rows
decreases-rows l = length l.walk
