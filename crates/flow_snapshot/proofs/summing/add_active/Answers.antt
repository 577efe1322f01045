use Rattle.std.proofs.Common.{[], false, subst, refl}
use Rattle.std.proofs.lemmas.List.{drop_all, take_all}
use Rattle.flow_measure.specs.History.{flows_in}
use Rattle.flow_measure.specs.Sums.{AllFit}
use Rattle.flow_segment.specs.PartFlows.{with_flows}
use Rattle.flow_snapshot.specs.Answered.{IsNoDamage}
use Rattle.flow_snapshot.proofs.Finding.{all_accepted, message_behind, none_behind, AreBehind}
use Rattle.flow_snapshot.proofs.KeptFlows.{message_told, next_item, taken_all, Taken}
use Rattle.flow_snapshot.proofs.Adding.{added_all, adding_step, made_blameless, nothing_added, spent_all, HasAddedFlows}
use Rattle.flow_snapshot.proofs.summing.add_active.Goals as goal

pub loop-message-preserved : goal.loop-message-preserved
loop-message-preserved c = record {
  found = message_behind c.args.templates.now c.loop-message.templates c.hand_over.new.templates c.args.messages.now
      c.loop-message.message-index c.message-item.result c.as_slice.result.now c.loop-message-test.true
      c.message-item.is c.as_slice.ensures c.loop-message.invariant.found c.in_ok-hand_over.ensures.found
      (λ a octets accepted. (c.in_ok-hand_over.ensures.given a octets accepted).0);
  taken = λ list accepted octets.
      let Has = HasAddedFlows c.args.rows.now c.loop-message.adding in
      let here = next_item c.args.messages.now c.loop-message.message-index c.message-item.result
      c.as_slice.result.now c.loop-message-test.true c.message-item.is c.as_slice.ensures in
      let t = subst (λ left. Taken Has c.args.templates.now list left c.loop-message.templates) here
      (c.loop-message.invariant.taken list accepted octets) in
      adding_step c.args.rows.now c.args.templates.now c.loop-message.templates c.hand_over.new.templates list
      c.loop-message.adding c.hand_over.new.sink c.as_slice.result.now _ accepted t c.in_ok-hand_over.ensures.given;
}

pub loop-message-init : goal.loop-message-init
loop-message-init c = record {
  found = none_behind c.args.templates.now;
  taken = λ list accepted octets. record {
    front = [];
    rest = list;
    whole = refl;
    octets = octets;
    moved = refl;
    has = nothing_added c.args.rows.now (record { rows = c.replace.result; spent = false }) c.replace.ensures.value
        refl;
  };
}

pub returns-clause-found : goal.returns-clause-found
returns-clause-found c = all_accepted c.args.templates.now c.loop-message.templates c.args.messages.now
    (subst (λ os. AreBehind c.args.templates.now os c.loop-message.templates)
    (take_all c.loop-message.message-index c.args.messages.now c.loop-message-test.false)
    c.loop-message.invariant.found)

pub returns-in_err-hand_over-clause-given : goal.returns-in_err-hand_over-clause-given
returns-in_err-hand_over-clause-given c = λ list accepted octets.
    let Has = HasAddedFlows c.args.rows.now c.loop-message.adding in
    let here = next_item c.args.messages.now c.loop-message.message-index c.message-item.result c.as_slice.result.now
    c.loop-message-test.true c.message-item.is c.as_slice.ensures in
    let t = subst (λ left. Taken Has c.args.templates.now list left c.loop-message.templates) here
    (c.loop-message.invariant.taken list accepted octets) in
    let e = c.in_err-hand_over.field-0.0 in
    let told = message_told Has (λ _. IsNoDamage e) c.args.templates.now c.loop-message.templates list
    c.as_slice.result.now _ accepted t c.in_err-hand_over.ensures.given in
    made_blameless _ c.args.first (AllFit (with_flows (flows_in list) c.args.rows.now)) c.from_residual.result e
    c.from_residual.ensures.1 told.3

pub returns-then-adding-clause-given : goal.returns-then-adding-clause-given
returns-then-adding-clause-given c = λ list accepted octets.
    let adding = c.loop-message.adding in
    let all = taken_all (HasAddedFlows c.args.rows.now adding) c.args.templates.now list _ c.loop-message.templates
    (drop_all c.loop-message.message-index c.args.messages.now c.loop-message-test.false)
    (c.loop-message.invariant.taken list accepted octets) in
    (refl, refl, spent_all c.args.rows.now adding.rows list adding.spent c.if-adding.true all.1)

pub returns-clause-given : goal.returns-clause-given
returns-clause-given c = λ list accepted octets.
    let adding = c.loop-message.adding in
    let all = taken_all (HasAddedFlows c.args.rows.now adding) c.args.templates.now list _ c.loop-message.templates
    (drop_all c.loop-message.message-index c.args.messages.now c.loop-message-test.false)
    (c.loop-message.invariant.taken list accepted octets) in
    (all.0, added_all c.args.rows.now adding.rows list adding.spent c.if-adding.false all.1)
