use Rattle.std.proofs.Common.{◌∙◌, subst, sym}
use Rattle.flow_codec.specs.Templates.{AllTemplates}
use Rattle.flow_disk.proofs.Results.{passed_on}
use Rattle.flow_measure.specs.History.{AreAcceptedFrom}
use Rattle.flow_refusals.specs.declared.read_refusal.ReadRefusal.TheVariants as query
use Rattle.flow_export.specs.declared.refusal.ExportRefusal.TheVariants as refusal
use Rattle.flow_export.specs.Export.{IsBlameless}
use Rattle.flow_export.proofs.Choosing.{none_is_prefix}
use Rattle.flow_export.proofs.SpanWritten.{no_part}
use Rattle.flow_export.proofs.Written.{on_err_always, quiet_cause}
use Rattle.flow_export.proofs.selecting.write_sealed.Goals as goal

pub returns-in_err-own-clause-part : goal.returns-in_err-own-clause-part
returns-in_err-own-clause-part g c =
    let span = c.args.asked.span in
    on_err_always c.from_residual.result _ (no_part span.from span.to (g.W.Write.contents c.args.output.now))

pub returns-in_err-own-clause-some : goal.returns-in_err-own-clause-some
returns-in_err-own-clause-some g c = λ honest before list restated accepted octets.
    on_err_always c.from_residual.result _ (none_is_prefix (g.W.Write.contents c.args.output.now) _)

pub returns-in_err-own-clause-given : goal.returns-in_err-own-clause-given
returns-in_err-own-clause-given g c = λ honest before list restated accepted octets.
    passed_on c.from_residual.result (refusal.Query (c.in_err-own.field-0).0) IsBlameless c.from_residual.ensures.1
    (c.in_err-own.ensures.given honest before list restated accepted octets)

pub returns-clause-all : goal.returns-clause-all
returns-clause-all g c = λ honest before list restated accepted octets.
    let own = c.in_ok-own.ensures.given honest before list restated accepted octets in
    c.write_chosen.ensures.all list (subst (λ (t : AllTemplates). AreAcceptedFrom t list) (sym own.0) accepted)
    (octets ∙ sym (c.as_slice-messages.ensures.value ∙ own.1))

pub returns-clause-some : goal.returns-clause-some
returns-clause-some g c = λ honest before list restated accepted octets.
    let own = c.in_ok-own.ensures.given honest before list restated accepted octets in
    c.write_chosen.ensures.some list (subst (λ (t : AllTemplates). AreAcceptedFrom t list) (sym own.0) accepted)
    (octets ∙ sym (c.as_slice-messages.ensures.value ∙ own.1))

pub returns-clause-given : goal.returns-clause-given
returns-clause-given g c = λ honest before list restated accepted octets.
    let own = c.in_ok-own.ensures.given honest before list restated accepted octets in
    c.write_chosen.ensures.blameless list (subst (λ (t : AllTemplates). AreAcceptedFrom t list) (sym own.0) accepted)
    (octets ∙ sym (c.as_slice-messages.ensures.value ∙ own.1))

pub returns-clause-cause : goal.returns-clause-cause
returns-clause-cause g c =
    quiet_cause (refusal.Query query.Fault) c.args.faults.now c.read_own.new.faults c.write_chosen.result
    c.in_ok-own.ensures.cause.done c.write_chosen.ensures.quiet
