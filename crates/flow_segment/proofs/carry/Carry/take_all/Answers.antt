use Rattle.std.proofs.Common.{ℕ, Bor, List, [], get_or, sym, subst}
use Rattle.std.proofs.lemmas.Result.{IfErr-weaker, on_ok_weaker}
use Rattle.flow_gate.specs.Steps.{slices}
use Rattle.flow_segment.specs.Batch.{AreTakenNoting}
use Rattle.flow_segment.proofs.Batches.{alone_of, first_fault, none_taken}
use Rattle.flow_segment.proofs.Noted as noted
use Rattle.flow_segment.proofs.carry.Carry.take_all.Goals as goal

pub returns-in-len1-clause-taken : goal.returns-in-len1-clause-taken
returns-in-len1-clause-taken c =
    let ms = c.args.messages.now in
    let old = c.args.self.now in
    let none : Bor (List ℕ) = record { ref_ptr = (0, 0); now = [] } in
    on_ok_weaker c.take_noting.result
    (λ one. subst (λ (l : List (List ℕ)). AreTakenNoting l old c.take_noting.new.carry c.args.span.now
    c.take_noting.new.span) (sym (alone_of ms none c.in-len1.len_at_least c.in-len1.len_below))
    (noted.taken_more [] (get_or ms 0 none).now old old c.take_noting.new.carry c.args.span.now c.args.span.now
    c.take_noting.new.span (noted.none_taken old c.args.span.now) one)) c.take_noting.ensures.taken

pub returns-in-len1-clause-refused : goal.returns-in-len1-clause-refused
returns-in-len1-clause-refused c =
    let ms = c.args.messages.now in
    let old = c.args.self.now in
    let none : Bor (List ℕ) = record { ref_ptr = (0, 0); now = [] } in
    IfErr-weaker c.take_noting.result _ _
    (λ e h. first_fault (slices ms) [] [] (get_or ms 0 none).now old old e
    (alone_of ms none c.in-len1.len_at_least c.in-len1.len_below) (none_taken old) h) c.take_noting.ensures.refused
