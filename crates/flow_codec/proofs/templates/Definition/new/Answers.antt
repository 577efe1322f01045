use Rattle.std.proofs.Common.{ap}
use Rattle.flow_codec.specs.declared.caveats.Elements.{Elements}
use Rattle.flow_codec.proofs.templates.Definition.new.Goals as goal

pub invariant_of-result : goal.invariant_of-result
invariant_of-result c =
    rw c.in_ok-new.ensures.ok (
      c.requires,
      rw c.as_slice.ensures at c.in_ok-plan.ensures,
      rw c.as_slice-2.ensures at (c.size_of-size.ensures.exact c.args.scope),
      c.size_of-size.ensures.bound,
      rw (c.elements_of-elements.ensures, c.as_slice-3.ensures) at c.are_uncounted.ensures,
      rw c.as_slice-3.ensures at (ap (λ (e : Elements). e.rate) c.elements_of-elements.ensures),
    )
