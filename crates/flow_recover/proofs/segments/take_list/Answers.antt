use Rattle.std.proofs.Common.{◌≡◌, ℕ, suc, ◌+◌, List, [], ◌∷◌, ◌++◌, take, drop, sym, ◌∙◌, ap, subst, arith}
use Rattle.flow_disk.proofs.Results.{passed_on}
use Rattle.flow_gate.specs.Scan.{texts}
use Rattle.flow_manifest.specs.declared.error.OpenError.TheVariants.{OutOfMemory}
use Rattle.flow_recover.proofs.Accepting.{next_taken, taken_more, texts_at, texts_more, AreTakenIn}
use Rattle.flow_recover.proofs.segments.take_list.Goals as goal

pub returns-in_err-take_message-clause-refused : goal.returns-in_err-take_message-clause-refused
returns-in_err-take_message-clause-refused c all same accepted =
    let ms = c.args.messages.now in
    let i = c.messages.message-index in
    let v = c.message-item.result in
    let one = c.as_slice.result.now in
    let e = (c.in_err-take_message.field-0).0 in
    let next = next_taken (texts (take i ms)) (texts (drop (suc i) ms)) one c.args.carry.now c.messages.carry all
    c.messages.invariant
    (same ∙ texts_at ms i v c.messages-test.true c.message-item.is
    ∙ ap (λ (o : List ℕ). texts (take i ms) ++ o ∷ texts (drop (suc i) ms)) (sym c.as_slice.ensures.value)) accepted in
    passed_on c.from_residual.result e (λ x. x ≡ OutOfMemory) c.from_residual.ensures.1
    (c.in_err-take_message.ensures.refused next.0 next.1 tt)

pub messages-preserved : goal.messages-preserved
messages-preserved c =
    let ms = c.args.messages.now in
    let i = c.messages.message-index in
    let v = c.message-item.result in
    let one = c.as_slice.result.now in
    let old = c.args.carry.now in
    let new = c.take_message.new.carry in
    let step : suc i ≡ i + 1 = omega arith in
    let list : texts (take i ms) ++ one ∷ [] ≡ texts (take (i + 1) ms) =
    ap (λ (o : List ℕ). texts (take i ms) ++ o ∷ []) c.as_slice.ensures.value
    ∙ sym (texts_more ms i v c.messages-test.true c.message-item.is)
    ∙ ap (λ (n : ℕ). texts (take n ms)) step in
    subst (λ (l : List (List ℕ)). AreTakenIn l old new) list
    (taken_more (texts (take i ms)) one old c.messages.carry new c.messages.invariant
    c.in_ok-take_message.ensures.taken)
