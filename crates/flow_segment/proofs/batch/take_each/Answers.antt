use Rattle.std.proofs.Common.{◌≡◌, ◌⊎◌, ℕ, ◌+◌, Bor, List, [], get_or, take, drop, sym, subst, ◌∙◌}
use Rattle.std.proofs.lemmas.List.{map_more}
use Rattle.flow_codec.specs.declared.error.MessageError.TheVariants.{OutOfMemory}
use Rattle.flow_gate.specs.Steps.{slices}
use Rattle.flow_segment.specs.Batch.{AreTakenNoting, IsFirstFault}
use Rattle.flow_segment.proofs.Batches.{first_fault, kept_on, one_of}
use Rattle.flow_segment.proofs.Carrying.{err_of}
use Rattle.flow_segment.proofs.Noted.{are_taken, is_taken, taken_more}
use Rattle.flow_segment.proofs.batch.take_each.Goals as goal

pub returns-in_err-take_noting-clause-refused : goal.returns-in_err-take_noting-clause-refused
returns-in_err-take_noting-clause-refused c =
    let ms = c.args.messages.now in
    let i = c.loop-message.message-index in
    let none : Bor (List ℕ) = record { ref_ptr = (0, 0); now = [] } in
    let e = c.in_err-take_noting.field-0.0 in
    err_of c.from_residual-in_err-take_noting.result _
    (λ e. (e ≡ OutOfMemory) ⊎ IsFirstFault (slices ms) c.args.carry.now.templates e)
    c.from_residual-in_err-take_noting.ensures.1
    (first_fault (slices ms) (slices (take i ms)) (slices (drop (i + 1) ms)) (get_or ms i none).now c.args.carry.now
    c.loop-message.carry e (one_of ms i none c.loop-message-test.true)
    (are_taken (slices (take i ms)) c.args.carry.now c.loop-message.carry c.args.span.now c.loop-message.span
    c.loop-message.invariant.taken)
    c.in_err-take_noting.ensures.refused)

pub loop-message-preserved : goal.loop-message-preserved
loop-message-preserved c =
    let ms = c.args.messages.now in
    let i = c.loop-message.message-index in
    let none : Bor (List ℕ) = record { ref_ptr = (0, 0); now = [] } in
    let one = (get_or ms i none).now in
    let old = c.args.carry.now in
    let mid = c.loop-message.carry in
    let new = c.take_noting.new.carry in
    record {
      taken = subst (λ (l : List (List ℕ)). AreTakenNoting l old new c.args.span.now c.take_noting.new.span)
          (sym (map_more (λ (m : Bor (List ℕ)). m.now) ms i none c.loop-message-test.true))
          (taken_more (slices (take i ms)) one old mid new c.args.span.now c.loop-message.span c.take_noting.new.span
          c.loop-message.invariant.taken c.in_ok-take_noting.ensures.taken);
      kept = kept_on c.keep_before.new.undo one old mid new
          (c.keep_before.ensures.same ∙ c.loop-message.invariant.kept) c.in_ok-keep_before.ensures.ready
          (is_taken one mid new c.loop-message.span c.take_noting.new.span c.in_ok-take_noting.ensures.taken);
    }
