use Rattle.std.proofs.Common.{subst, sym}
use Rattle.flow_codec.specs.Templates.{AllTemplates}
use Rattle.flow_measure.specs.History.{AreAcceptedFrom}
use Rattle.flow_snapshot.proofs.KeptFlows.{answered_err}
use Rattle.flow_export.specs.Span.{IsFound}
use Rattle.flow_export.proofs.FoundInBoth.{answered_as}
use Rattle.flow_export.proofs.places.find_active.Goals as goal

pub returns-in_err-templates-clause-given : goal.returns-in_err-templates-clause-given
returns-in_err-templates-clause-given c = λ before list restated accepted octets.
    answered_err _ c.from_residual.result (c.in_err-templates.field-0).0 c.from_residual.ensures.1
    (c.in_err-templates.ensures.given before restated)

pub returns-clause-given : goal.returns-clause-given
returns-clause-given c = λ before list restated accepted octets.
    let span = c.args.span in
    answered_as _ (IsFound span.from span.to list) c.find_in.result (λ found is. is.1)
    (c.find_in.ensures.given list (subst (λ (t : AllTemplates). AreAcceptedFrom t list)
    (sym (c.in_ok-templates.ensures.given before restated)) accepted) octets)
