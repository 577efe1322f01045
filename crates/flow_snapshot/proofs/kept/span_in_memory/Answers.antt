use Rattle.std.proofs.Common.{arith, subst, Some}
use Rattle.std.proofs.lemmas.List.{take_all}
use Rattle.flow_segment.specs.Spans.{AreNotedSoFar}
use Rattle.flow_segment.proofs.Noted.{none_so_far}
use Rattle.flow_snapshot.proofs.NotedSpans.{all_so_far, one_more}
use Rattle.flow_snapshot.proofs.kept.span_in_memory.Goals as goal

pub loop-message-init : goal.loop-message-init
loop-message-init c = rw c.none-span.ensures (none_so_far c.args.prefix.now c.in-Ok.templates c.in-Ok.ensures.found)

pub loop-message-preserved : goal.loop-message-preserved
loop-message-preserved c =
    one_more c.args.prefix.now c.args.messages.now c.loop-message.message-index c.message-item.result
    c.as_slice.result.now c.loop-message.templates c.is_noted.new.templates (Some c.loop-message.span)
    (Some c.is_noted.new.span) c.loop-message-test.true c.message-item.is c.as_slice.ensures c.loop-message.invariant
    (c.is_noted.ensures c.if-not-is_noted.false)

pub returns : goal.returns
returns c =
    let all = take_all c.loop-message.message-index c.args.messages.now c.loop-message-test.false in
    all_so_far c.args.prefix.now c.args.messages.now c.loop-message.templates (Some c.loop-message.span)
    (λ i. omega (arith, c.type_inv.prefix i))
    (subst (λ l. AreNotedSoFar c.args.prefix.now l c.loop-message.templates (Some c.loop-message.span)) all
    c.loop-message.invariant)
