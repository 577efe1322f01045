use Rattle.std.proofs.Common.{◌≡◌, ◌⊎◌, List, [], ◌∷◌, ℕ, sym, subst}
use Rattle.std.proofs.lemmas.Result.{IfErr-weaker, on_ok_weaker}
use Rattle.flow_codec.specs.declared.error.MessageError.TheVariants.{OutOfMemory}
use Rattle.flow_gate.specs.Steps.{slices}
use Rattle.flow_segment.specs.Batch.{AreTakenNoting, IsFirstFault}
use Rattle.flow_segment.proofs.Batches.{fault_before, first_fault, kept_by, last_of}
use Rattle.flow_segment.proofs.Carrying.{err_of}
use Rattle.flow_segment.proofs.Noted.{are_taken, taken_more}
use Rattle.flow_segment.proofs.batch.take_through.Goals as goal

pub returns-in_err-take_each-clause-refused : goal.returns-in_err-take_each-clause-refused
returns-in_err-take_each-clause-refused c =
    let ms = c.args.messages.now in
    let all = last_of ms c.in-Some.front.now c.in-Some.last.now c.in-Some.ensures.cases.0 in
    let before = c.args.carry.now.templates in
    err_of c.from_residual.result _ (λ e. (e ≡ OutOfMemory) ⊎ IsFirstFault (slices ms) before e)
    c.from_residual.ensures.1
    (fault_before (slices ms) (slices c.in-Some.front.now) (c.in-Some.last.now.now ∷ []) before
    c.in_err-take_each.field-0.0 all c.in_err-take_each.ensures.refused)

pub returns-clause-taken : goal.returns-clause-taken
returns-clause-taken c =
    let ms = c.args.messages.now in
    let old = c.args.carry.now in
    let new = c.take_noting.new.carry in
    let all = last_of ms c.in-Some.front.now c.in-Some.last.now c.in-Some.ensures.cases.0 in
    on_ok_weaker c.take_noting.result
    (λ one. subst (λ (l : List (List ℕ)). AreTakenNoting l old new c.args.span.now c.take_noting.new.span) (sym all)
    (taken_more (slices c.in-Some.front.now) c.in-Some.last.now.now old c.take_each.new.carry new c.args.span.now
    c.take_each.new.span c.take_noting.new.span c.in_ok-take_each.ensures.taken one)) c.take_noting.ensures.taken

pub returns-clause-kept : goal.returns-clause-kept
returns-clause-kept c =
    kept_by c.take_noting.result c.take_each.new.undo c.args.carry.now c.take_each.new.carry c.take_noting.new.carry
    c.take_noting.ensures.kept c.take_each.ensures.kept

pub returns-clause-refused : goal.returns-clause-refused
returns-clause-refused c =
    let ms = c.args.messages.now in
    let old = c.args.carry.now in
    let all = last_of ms c.in-Some.front.now c.in-Some.last.now c.in-Some.ensures.cases.0 in
    IfErr-weaker c.take_noting.result _ _
    (λ e h. first_fault (slices ms) (slices c.in-Some.front.now) [] c.in-Some.last.now.now old c.take_each.new.carry e
    all (are_taken (slices c.in-Some.front.now) old c.take_each.new.carry c.args.span.now c.take_each.new.span
    c.in_ok-take_each.ensures.taken) h) c.take_noting.ensures.refused
