use Rattle.std.proofs.Common.{sym, subst}
use Rattle.flow_codec.specs.Templates.{AllTemplates}
use Rattle.flow_measure.specs.History.{AreAcceptedFrom}
use Rattle.flow_snapshot.proofs.ByFile.{active_file, appended, right_of}
use Rattle.flow_snapshot.proofs.KeptFlows.{answered_err}
use Rattle.flow_snapshot.proofs.kept.collect_active.Goals as goal

pub returns-in_err-templates-clause-given : goal.returns-in_err-templates-clause-given
returns-in_err-templates-clause-given c = λ own has.
    answered_err _ c.from_residual.result _ c.from_residual.ensures.1 (c.in_err-templates.ensures.given has.0 has.2)

pub returns-clause-found : goal.returns-clause-found
returns-clause-found c =
    appended c.args.from c.args.to (active_file c.args.prefix.now c.args.messages.now) c.in_ok-templates.templates
    c.collect_after.new.templates c.args.flows.now.items c.collect_after.new.flows.items c.collect_after.result
    c.in_ok-templates.ensures.found c.collect_after.ensures.found c.collect_after.ensures.given

pub returns-clause-given : goal.returns-clause-given
returns-clause-given c = λ own has.
    right_of c.args.from c.args.to c.collect_after.new.templates c.in_ok-templates.templates has.1 c.args.flows.now.items
    c.collect_after.new.flows.items own c.collect_after.result has.5
    (c.collect_after.ensures.given has.1
    (subst (λ (t : AllTemplates). AreAcceptedFrom t has.1) (sym (c.in_ok-templates.ensures.given has.0 has.2)) has.3)
    has.4)
