use Rattle.std.proofs.Common.{[], ap, refl, subst, ◌∙◌, Vec, Global}
use Rattle.std.proofs.lemmas.List.{drop_all, take_all}
use Rattle.flow_measure.specs.declared.flow.Flow.{Flow}
use Rattle.flow_snapshot.proofs.Finding.{all_accepted, message_behind, none_behind, AreBehind}
use Rattle.flow_snapshot.proofs.KeptFlows.{active_err, active_step, next_item, no_flows, taken_all}
use Rattle.flow_snapshot.proofs.KeptFlows.{HasChosenFlows, Taken}
use Rattle.flow_snapshot.proofs.kept.collect_after.Goals as goal

pub returns-in_err-hand_over-clause-given : goal.returns-in_err-hand_over-clause-given
returns-in_err-hand_over-clause-given c = λ list accepted octets.
    let Has = HasChosenFlows c.args.from c.args.to c.args.flows.now.items c.loop-message.chosen in
    let here = next_item c.args.messages.now c.loop-message.message-index c.message-item.result c.as_slice.result.now
    c.loop-message-test.true c.message-item.is c.as_slice.ensures in
    let t = subst (λ left. Taken Has c.args.templates.now list left c.loop-message.templates) here
    (c.loop-message.invariant.taken list accepted octets) in
    active_err _ Has c.args.templates.now c.loop-message.templates list c.as_slice.result.now _
    c.from_residual.result c.in_err-hand_over.field-0.0 accepted t c.from_residual.ensures.1
    c.in_err-hand_over.ensures.given

pub loop-message-init : goal.loop-message-init
loop-message-init c = record {
  found = none_behind c.args.templates.now;
  taken = λ list accepted octets. record {
    front = [];
    rest = list;
    whole = refl;
    octets = octets;
    moved = refl;
    has = (
      refl,
      refl,
      ap (λ (v : Vec Flow Global). v.items) c.replace.ensures.value
          ∙ no_flows c.args.from c.args.to c.args.flows.now.items,
    );
  };
}

pub loop-message-preserved : goal.loop-message-preserved
loop-message-preserved c = record {
  found = message_behind c.args.templates.now c.loop-message.templates c.hand_over.new.templates c.args.messages.now
      c.loop-message.message-index c.message-item.result c.as_slice.result.now c.loop-message-test.true
      c.message-item.is c.as_slice.ensures c.loop-message.invariant.found c.in_ok-hand_over.ensures.found
      (λ a octets accepted. (c.in_ok-hand_over.ensures.given a octets accepted).0);
  taken = λ list accepted octets.
      let Has = HasChosenFlows c.args.from c.args.to c.args.flows.now.items c.loop-message.chosen in
      let here = next_item c.args.messages.now c.loop-message.message-index c.message-item.result
      c.as_slice.result.now c.loop-message-test.true c.message-item.is c.as_slice.ensures in
      let t = subst (λ left. Taken Has c.args.templates.now list left c.loop-message.templates) here
      (c.loop-message.invariant.taken list accepted octets) in
      active_step c.args.from c.args.to c.args.flows.now.items c.args.templates.now c.loop-message.templates
      c.hand_over.new.templates list c.loop-message.chosen c.hand_over.new.sink c.as_slice.result.now _ accepted t
      c.in_ok-hand_over.ensures.given;
}

pub returns-clause-found : goal.returns-clause-found
returns-clause-found c = all_accepted c.args.templates.now c.loop-message.templates c.args.messages.now
    (subst (λ os. AreBehind c.args.templates.now os c.loop-message.templates)
    (take_all c.loop-message.message-index c.args.messages.now c.loop-message-test.false)
    c.loop-message.invariant.found)

pub returns-clause-given : goal.returns-clause-given
returns-clause-given c = λ list accepted octets.
    let all = taken_all (HasChosenFlows c.args.from c.args.to c.args.flows.now.items c.loop-message.chosen)
    c.args.templates.now list _ c.loop-message.templates
    (drop_all c.loop-message.message-index c.args.messages.now c.loop-message-test.false)
    (c.loop-message.invariant.taken list accepted octets) in
    (all.0, all.1.2)
