use Rattle.std.proofs.Common.{◌≡◌, IsTrue, subst, sym}
use Rattle.flow_rolled.specs.Spans.{HasSpan}
use Rattle.flow_rolled.specs.Stored.{Rollup}
use Rattle.flow_rolled.proofs.part.RolledPart.with_span.Goals as goal

pub invariant_of-result : goal.invariant_of-result
invariant_of-result g c = (
  c.self.invariant.0,
  subst (λ (r : Rollup). IsTrue r.honest → HasSpan c.args.span r.octets) (sym c.self.view_is) c.requires,
)
