use Rattle.std.proofs.Common.{◌≡◌, Bool, true, ◌∙◌, subst, sym}
use Rattle.flow_codec.specs.Templates.{AllTemplates}
use Rattle.flow_measure.specs.History.{flows_in, AreAcceptedFrom}
use Rattle.flow_measure.specs.Sums.{AllFit}
use Rattle.flow_segment.specs.PartFlows.{with_flows}
use Rattle.flow_snapshot.specs.Shares.{added_if}
use Rattle.flow_snapshot.specs.Totals.{IsMade}
use Rattle.flow_snapshot.proofs.Adding.{made_blameless}
use Rattle.flow_snapshot.proofs.Dealing.{flows_added, made_as}
use Rattle.flow_snapshot.proofs.Dealt.{own_sum, then_ok}
use Rattle.flow_snapshot.proofs.shares.add_own_active.Goals as goal

pub returns-in_err-templates-clause-given : goal.returns-in_err-templates-clause-given
returns-in_err-templates-clause-given c = λ sums is.
    made_blameless _ c.args.first (AllFit (added_if c.args.mine sums c.args.rows.now)) c.from_residual.result _
    c.from_residual.ensures.1 (c.in_err-templates.ensures.given is.0 is.2)

pub returns-clause-given : goal.returns-clause-given
returns-clause-given c = λ sums is.
    let old = c.args.rows.now in
    let list = is.1 in
    let same = flows_added sums old list is.5 in
    let start = c.in_ok-templates.ensures.given is.0 is.2 in
    subst (λ (b : Bool). IsMade c.args.first (AllFit (added_if b sums old))
    (λ _. c.add_active.new.rows ≡ added_if b sums old) c.add_active.result) (sym c.if-not-mine.false)
    (made_as c.args.first (AllFit (with_flows (flows_in list) old)) (AllFit (added_if true sums old)) _
    (λ _. c.add_active.new.rows ≡ added_if true sums old) c.add_active.result (subst AllFit (sym same))
    (λ _ h. h.1 ∙ same) (c.add_active.ensures.given list
    (subst (λ (t : AllTemplates). AreAcceptedFrom t list) (sym start) is.3) is.4))

pub returns-clause-found : goal.returns-clause-found
returns-clause-found c = then_ok _ _ c.add_active.result (λ found _. own_sum c.args.rows.now.width c.args.prefix.now
    c.args.messages.now c.in_ok-templates.templates c.in_ok-templates.ensures.found found) c.add_active.ensures.found
