use Rattle.std.proofs.Common.{◌≡◌, true, take, IsTrue, Option, ap, subst, sym, ◌∙◌}
use Rattle.std.specs.Prelude.{IfSome}
use Rattle.flow_rolled.specs.declared.row_span.RowSpan.{RowSpan}
use Rattle.flow_rolled.specs.Spans.{HasSpan, IsPassedOver}
use Rattle.flow_rolled.specs.Stored.{Rollup}
use Rattle.flow_rolled.proofs.RowSpans.{passed_by}
use Rattle.flow_rolled.proofs.part.RolledPart.is_outside.Goals as goal

pub returns-then-known-width-clause-whole : goal.returns-then-known-width-clause-whole
returns-then-known-width-clause-whole g c out =
    let S = g.S.SealedFile in
    let p = c.self.inside in
    let octets = take p.length (S.octets p.reader) in
    let width = c.args.width in
    let from = c.args.from in
    let to = c.args.to in
    subst (λ (r : Rollup). IsTrue r.honest → IsPassedOver width from to r.octets) c.self.view_is
    (λ h. passed_by c.in-Some.known octets width from to c.requires
    (subst (λ (o : Option RowSpan). IfSome o (λ s. HasSpan s octets)) c.in-Some.is (c.self.invariant.1 h))
    c.if-known-width.true (sym c.is_outside.ensures ∙ out))
