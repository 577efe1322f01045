use Rattle.std.proofs.Common.{ℕ, List, None, length, take, sym, subst, arith}
use Rattle.std.proofs.lemmas.List.{take_all}
use Rattle.flow_gate.specs.Steps.{slices}
use Rattle.flow_feed.specs.Given.{HasTaken, IsGivenTogether}
use Rattle.flow_feed.proofs.Batches.{slices_long}
use Rattle.flow_feed.proofs.Taking.{batch_refused, batch_singly, batch_taken, not_of_messages, not_several, several}
use Rattle.flow_feed.proofs.giving.take_batch.Goals.{else-count-gt1-via-then-count-gt1+else-is_of_messages}
use Rattle.flow_feed.proofs.giving.take_batch.Goals.{else-count-gt1-via-else-count-gt1}
use Rattle.flow_feed.proofs.giving.take_batch.Goals as goal

pub returns-in_default-clause-taken : goal.returns-in_default-clause-taken
returns-in_default-clause-taken g c =
    let ms = c.args.messages.now in
    let appends = g.A.Appender.appends in
    let old = c.args.appender.now in
    let new = c.append_batch.new.self in
    let long = slices_long ms in
    subst (λ (l : List (List ℕ)). HasTaken appends (IsGivenTogether (slices ms)) old new l None)
    (sym (take_all (length ms) (slices ms) (omega (arith, long))))
    (batch_taken appends old new (slices ms) c.in_default.field-0 c.in_default.ensures)

pub returns-then-is_of_messages-clause-taken : goal.returns-then-is_of_messages-clause-taken
returns-then-is_of_messages-clause-taken g c =
    let messages = slices c.args.messages.now in
    let long = slices_long c.args.messages.now in
    let more = c.if-count-gt1.true in
    batch_singly g.A.Appender.appends c.args.appender.now c.take_singly.new.appender messages c.in-Err.error
    c.append_batch.new.self (take c.take_singly.result.count messages) c.take_singly.result.stop
    (several (length messages) c.in-Err.error (omega (arith, long, more)) (sym c.if-is_of_messages.ensures))
    c.in-Err.ensures c.take_singly.ensures.taken

pub returns-clause-taken : goal.returns-clause-taken
returns-clause-taken g c =
    let messages = slices c.args.messages.now in
    let long = slices_long c.args.messages.now in
    batch_refused g.A.Appender.appends c.args.appender.now c.append_batch.new.self messages c.in-Err.error
    (elim c.else-count-gt1.branch [
      | else-count-gt1-via-then-count-gt1+else-is_of_messages w ↦
          not_of_messages (length messages) c.in-Err.error (sym w.if-is_of_messages.ensures)
      | else-count-gt1-via-else-count-gt1 w ↦
          let few = w.if-count-gt1.false in not_several (length messages) c.in-Err.error (omega (arith, long, few))
    ])
    c.in-Err.ensures
