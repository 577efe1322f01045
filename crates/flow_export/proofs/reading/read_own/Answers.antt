use Rattle.std.proofs.Common.{subst}
use Rattle.std.specs.List.{AllByRecursion}
use Rattle.flow_codec.specs.Cutting.{IsCutOff}
use Rattle.flow_model.proofs.Accepting.{all_cut}
use Rattle.flow_snapshot.proofs.Asking.{templates_blameless}
use Rattle.flow_snapshot.proofs.KeptFlows.{answered_err}
use Rattle.flow_export.proofs.reading.read_own.Goals as goal

pub returns-in_err-templates-clause-given : goal.returns-in_err-templates-clause-given
returns-in_err-templates-clause-given g c = λ honest before list restated accepted octets.
    answered_err _ c.from_residual.result _ c.from_residual.ensures.1
    (templates_blameless c.in_err-templates.field-0.0 before (c.in_err-templates.ensures.given honest before restated))

pub returns-in_err-messages-clause-given : goal.returns-in_err-messages-clause-given
returns-in_err-messages-clause-given g c = λ honest before list restated accepted octets.
    answered_err _ c.from_residual-in_err-messages.result (c.in_err-messages.field-0).0
    c.from_residual-in_err-messages.ensures.1
    (c.in_err-messages.ensures.given honest (subst (AllByRecursion IsCutOff) octets (all_cut before list accepted)))

pub returns-clause-given : goal.returns-clause-given
returns-clause-given g c = λ honest before list restated accepted octets.
    (c.in_ok-templates.ensures.given honest before restated, c.in_ok-messages.ensures.found honest)
