use Rattle.std.proofs.Common.{true, ◌∙◌, arith, subst, sym}
use Rattle.flow_measure.specs.History.{flows_in}
use Rattle.flow_measure.specs.Sums.{AllFit}
use Rattle.flow_segment.specs.PartFlows.{with_flows}
use Rattle.flow_snapshot.specs.Shares.{added_if}
use Rattle.flow_snapshot.proofs.Adding.{made_blameless}
use Rattle.flow_snapshot.proofs.Asking.{templates_blameless}
use Rattle.flow_snapshot.proofs.Dealing.{flows_added, made_as, nothing_of_empty, part_list}
use Rattle.flow_snapshot.proofs.Dealt.{empty_sum, segment_sum, then_ok}
use Rattle.flow_snapshot.proofs.shares.add_whole.Goals as goal

pub returns-in_err-templates-clause-given : goal.returns-in_err-templates-clause-given
returns-in_err-templates-clause-given g c = λ honest sums is.
    made_blameless _ c.args.first (AllFit (added_if true sums c.args.rows.now)) c.from_residual.result _
    c.from_residual.ensures.1 (templates_blameless c.in_err-templates.field-0.0 is.0
    (c.in_err-templates.ensures.given honest is.0 is.2))

pub returns-clause-given : goal.returns-clause-given
returns-clause-given g c = λ honest sums is.
    let old = c.args.rows.now in
    let start = c.in_ok-templates.ensures.given honest is.0 is.2 in
    let list = is.1 in
    let same = flows_added sums old list is.5 in
    made_as c.args.first (AllFit (with_flows (flows_in list) old)) (AllFit (added_if true sums old)) _ _
    c.add_part.result (subst AllFit (sym same)) (λ _ h. h.1 ∙ same)
    (c.add_part.ensures.given honest list
    (part_list c.args.part.now c.in_ok-templates.templates is.0 list
    (omega (arith, c.if-part-eq0.false)) start is.3 is.4))

pub returns-clause-found : goal.returns-clause-found
returns-clause-found g c = λ honest.
    then_ok _ _ c.add_part.result (segment_sum c.args.part.now c.args.rows.now.width c.in_ok-templates.templates
    (c.in_ok-templates.ensures.found honest)) (c.add_part.ensures.found honest)

pub returns-then-part-eq0-clause-given : goal.returns-then-part-eq0-clause-given
returns-then-part-eq0-clause-given g c = λ honest sums is.
    nothing_of_empty c.args.part.now sums c.args.rows.now c.if-part-eq0.true is

pub returns-then-part-eq0-clause-found : goal.returns-then-part-eq0-clause-found
returns-then-part-eq0-clause-found g c = λ honest.
    empty_sum c.args.part.now c.args.rows.now.width c.in_ok-templates.templates (c.in_ok-templates.ensures.found honest)
    c.if-part-eq0.true
