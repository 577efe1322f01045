use Rattle.std.proofs.Common.{◌≡◌, ◌+◌, ◌<◌, ◌≤◌, length, map, subst, sym, ◌∙◌, arith}
use Rattle.std.proofs.lemmas.List.{take_all}
use Rattle.flow_snapshot.specs.Files.{segment_of, shared}
use Rattle.flow_model.specs.Shelf.{messages_in}
use Rattle.flow_snapshot.proofs.Asking.{sealed_more}
use Rattle.flow_snapshot.proofs.KeptFlows.{answered_err}
use Rattle.flow_snapshot.proofs.Places.{is_own_honest, own_fill, own_place, passed_by}
use Rattle.flow_snapshot.proofs.Standing.{stands_in}
use Rattle.flow_snapshot.proofs.numbered.sealed_message.Goals as goal

pub returns-in_err-message_behind-clause-given : goal.returns-in_err-message_behind-clause-given
returns-in_err-message_behind-clause-given g c = λ honest each.
    let parts = c.args.parts.now in
    let i = c.loop-part.part-index in
    let item = c.part-item.result in
    let part = c.deref-then-left-deref.result.now in
    let same = c.deref-then-left-deref.ensures in
    let own : c.loop-part.left < part.messages = subst (λ p. c.loop-part.left < p.messages)
    (c.deref.ensures ∙ sym same) c.if-left-deref.true in
    let fill = own_fill parts i item part c.loop-part-test.true c.part-item.is same each (omega (arith, own)) in
    answered_err _ c.from_residual.result c.in_err-message_behind.field-0.0 c.from_residual.ensures.1
    (c.in_err-message_behind.ensures.given
    (is_own_honest parts i item part c.loop-part-test.true c.part-item.is same honest) _ fill own)

pub returns-then-left-deref-clause-given : goal.returns-then-left-deref-clause-given
returns-then-left-deref-clause-given g c = λ honest each.
    let parts = c.args.parts.now in
    let i = c.loop-part.part-index in
    let item = c.part-item.result in
    let part = c.deref-then-left-deref.result.now in
    let same = c.deref-then-left-deref.ensures in
    let own : c.loop-part.left < part.messages = subst (λ p. c.loop-part.left < p.messages)
    (c.deref.ensures ∙ sym same) c.if-left-deref.true in
    let fill = own_fill parts i item part c.loop-part-test.true c.part-item.is same each (omega (arith, own)) in
    c.in_ok-message_behind.ensures.given
    (is_own_honest parts i item part c.loop-part-test.true c.part-item.is same honest) _ fill own
    ∙ own_place parts i item part c.loop-part-test.true c.part-item.is same c.loop-part.left own
    ∙ c.loop-part.invariant.there

pub loop-part-preserved : goal.loop-part-preserved
loop-part-preserved g c =
    let part = c.deref-in-loop-part.result.now in
    let same = c.deref-in-loop-part.ensures in
    let past : part.messages ≤ c.loop-part.left = subst (λ p. p.messages ≤ c.loop-part.left)
    (c.deref.ensures ∙ sym same) c.if-left-deref.false in
    record {
      faults = c.loop-part.invariant.faults;
      before = omega (
        arith,
        past,
        c.loop-part.invariant.before,
        sealed_more c.args.parts.now c.loop-part.part-index
            c.part-item.result part c.loop-part-test.true c.part-item.is same,
      );
      there = passed_by c.args.parts.now c.loop-part.part-index c.part-item.result part c.loop-part-test.true
          c.part-item.is same c.loop-part.left past ∙ c.loop-part.invariant.there;
    }

pub returns-then-left-deref-clause-found : goal.returns-then-left-deref-clause-found
returns-then-left-deref-clause-found g c = λ honest.
    let parts = c.args.parts.now in
    let i = c.loop-part.part-index in
    let item = c.part-item.result in
    let part = c.deref-then-left-deref.result.now in
    let same = c.deref-then-left-deref.ensures in
    let own : c.loop-part.left < part.messages = subst (λ p. c.loop-part.left < p.messages)
    (c.deref.ensures ∙ sym same) c.if-left-deref.true in
    stands_in parts i item part c.loop-part-test.true c.part-item.is same c.args.place c.loop-part.left _
    c.loop-part.invariant.before own (c.in_ok-message_behind.ensures.found
    (is_own_honest parts i item part c.loop-part-test.true c.part-item.is same honest))

pub returns-clause-found : goal.returns-clause-found
returns-clause-found g c = λ honest.
    let parts = c.args.parts.now in
    let all = take_all c.loop-part.part-index parts c.loop-part-test.false in
    let before = subst (λ ps. length (messages_in (map (segment_of {files = g.S.SealedFile}) (shared ps)))
    + c.loop-part.left ≡ c.args.place) all c.loop-part.invariant.before in
    omega (arith, before)
