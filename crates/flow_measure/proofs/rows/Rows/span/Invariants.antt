use Rattle.std.proofs.Common.{◌≡◌, length, map}
use Rattle.flow_measure.specs.Span.{span_of, starts_in, with_starts}
use Rattle.flow_measure.proofs.rows.Rows.span.Given as goal

-- the span so far, with the starts of what is left, is that of all
abbrev pub invariant-loop-key : goal.invariant-loop-key
invariant-loop-key l = with_starts l.span (map (λ e. e.0.start) l.walk) ≡ span_of (starts_in l.fn.self.sums)

abbrev pub decreases-loop-key : goal.decreases-loop-key
decreases-loop-key l = length l.walk
