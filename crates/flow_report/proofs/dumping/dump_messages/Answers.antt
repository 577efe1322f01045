use Rattle.std.proofs.lemmas.Result.{err_from_is_err_and}
use Rattle.flow_codec.specs.Stream.{progress}
use Rattle.flow_report.proofs.Reached.{opened}
use Rattle.flow_report.proofs.Printing.{short_by, begins, dumps_next, cuts_next, cuts_held, ends_whole, ends_refused}
use Rattle.flow_report.proofs.dumping.dump_messages.Goals as goal

pub messages-init : goal.messages-init
messages-init g c = begins _ _ (progress c.args.reader.now (g.R.Read.remaining c.args.input.now))
    c.args.templates.now c.args.lines.now.text.items
    (opened _ _ c.requires.opened) c.requires.undefined c.requires.none

pub returns-in_err-put_message-in-Ok-Some-clause-refused : goal.returns-in_err-put_message-in-Ok-Some-clause-refused
returns-in_err-put_message-in-Ok-Some-clause-refused g c =
    let p = err_from_is_err_and c.from_residual.result
    c.from_residual.ensures.1 in
    let next = rw c.in-Ok-Some.field-0-is at (c.in-Ok-Some.ensures.next c.messages.invariant.fresh) in
    rw (p.1, p.2) (cuts_next _ _ (progress c.messages.reader (g.R.Read.remaining c.messages.input))
    c.messages.templates _ c.messages.lines.text.items
    c.messages.invariant _ c.in-Ok-Some.message
    (progress c.next_message.new.reader (g.R.Read.remaining c.next_message.new.input))
    c.next_message.new.templates _ _ next
    c.in_err-put_message-in-Ok-Some.ensures.front)

pub messages-preserved : goal.messages-preserved
messages-preserved g c =
    let next = rw c.in-Ok-Some.field-0-is at (c.in-Ok-Some.ensures.next c.messages.invariant.fresh) in
    dumps_next _ _ (progress c.messages.reader (g.R.Read.remaining c.messages.input)) c.messages.templates _
    c.messages.lines.text.items c.messages.invariant
    c.in-Ok-Some.message (progress c.next_message.new.reader (g.R.Read.remaining c.next_message.new.input))
    c.next_message.new.templates _ _ next
    c.in_ok-put_message-in-Ok-Some.ensures.told

pub returns-in_err-flush-in-Ok-None-clause-refused : goal.returns-in_err-flush-in-Ok-None-clause-refused
returns-in_err-flush-in-Ok-None-clause-refused g c =
    let p = err_from_is_err_and c.from_residual-in_err-flush-in-Ok-None.result
    c.from_residual-in_err-flush-in-Ok-None.ensures.1 in
    rw p.1 (cuts_held _ _ (progress c.messages.reader (g.R.Read.remaining c.messages.input)) c.messages.templates _
    c.messages.lines.text.items c.messages.invariant _ _
    p.0 (_, p.2) c.in_err-flush-in-Ok-None.ensures.front)

pub returns-in-Ok-None-clause-dumped : goal.returns-in-Ok-None-clause-dumped
returns-in-Ok-None-clause-dumped g c =
    let next = rw c.in-Ok-None.field-0-is at (c.in-Ok-None.ensures.next c.messages.invariant.fresh) in
    ends_whole _ _ (progress c.messages.reader (g.R.Read.remaining c.messages.input)) c.messages.templates _
    c.messages.lines.text.items c.messages.invariant
    (progress c.next_message.new.reader (g.R.Read.remaining c.next_message.new.input))
    c.next_message.new.templates _ c.flush.new.self.text.items next
    c.in_ok-flush-in-Ok-None.ensures.told c.in_ok-flush-in-Ok-None.ensures.none

pub returns-in_err-flush-in-Err-clause-refused : goal.returns-in_err-flush-in-Err-clause-refused
returns-in_err-flush-in-Err-clause-refused g c =
    let p = err_from_is_err_and c.from_residual-in_err-flush-in-Err.result
    c.from_residual-in_err-flush-in-Err.ensures.1 in
    rw p.1 (cuts_held _ _ (progress c.messages.reader (g.R.Read.remaining c.messages.input)) c.messages.templates _
    c.messages.lines.text.items c.messages.invariant _ _
    p.0 (_, p.2) c.in_err-flush-in-Err.ensures.front)

pub returns-in-Err-clause-refused : goal.returns-in-Err-clause-refused
returns-in-Err-clause-refused g c =
    ends_refused _ _ (progress c.messages.reader (g.R.Read.remaining c.messages.input)) c.messages.templates _
    c.messages.lines.text.items c.messages.invariant
    _ c.next_message.new.reader.ahead c.in-Err.refusal
    (progress c.next_message.new.reader (g.R.Read.remaining c.next_message.new.input))
    c.next_message.new.templates _ c.flush-in-Err.new.self.text.items
    (c.in-Err.ensures.next c.messages.invariant.fresh)
    (short_by c.messages.reader c.next_message.new.reader _ _ _ c.messages.invariant.fresh c.in-Err.ensures.within)
    c.in_ok-flush-in-Err.ensures.told c.in_ok-flush-in-Err.ensures.none
