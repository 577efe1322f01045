use Rattle.std.proofs.Common.{◌∙◌, subst, sym}
use Rattle.flow_codec.specs.Templates.{AllTemplates}
use Rattle.flow_measure.specs.History.{AreAcceptedFrom}
use Rattle.flow_snapshot.proofs.KeptFlows.{answered_err}
use Rattle.flow_export.specs.Span.{IsFound}
use Rattle.flow_refusals.specs.declared.read_refusal.ReadRefusal.TheVariants as query
use Rattle.flow_export.proofs.Written.{quiet_cause}
use Rattle.flow_export.proofs.FoundInBoth.{answered_as, outside_none}
use Rattle.flow_export.proofs.places.find_sealed.Goals as goal

pub returns-then-is_outside-clause-given : goal.returns-then-is_outside-clause-given
returns-then-is_outside-clause-given g c = λ honest before list restated accepted octets.
    let span = c.args.span in
    outside_none c.args.part.now span.from span.to (c.is_outside.ensures.whole c.if-is_outside.true honest) before list
    restated accepted octets

pub returns-in_err-own-clause-given : goal.returns-in_err-own-clause-given
returns-in_err-own-clause-given g c = λ honest before list restated accepted octets.
    answered_err _ c.from_residual.result (c.in_err-own.field-0).0 c.from_residual.ensures.1
    (c.in_err-own.ensures.given honest before list restated accepted octets)

pub returns-clause-given : goal.returns-clause-given
returns-clause-given g c = λ honest before list restated accepted octets.
    let span = c.args.span in
    let own = c.in_ok-own.ensures.given honest before list restated accepted octets in
    answered_as _ (IsFound span.from span.to list) c.find_in.result (λ found is. is.1)
    (c.find_in.ensures.given list (subst (λ (t : AllTemplates). AreAcceptedFrom t list) (sym own.0) accepted)
    (octets ∙ sym (c.as_slice-messages.ensures.value ∙ own.1)))

pub returns-clause-cause : goal.returns-clause-cause
returns-clause-cause g c =
    quiet_cause query.Fault c.args.faults.now c.read_own.new.faults c.find_in.result c.in_ok-own.ensures.cause.done
    c.find_in.ensures.quiet
