use Rattle.std.proofs.lemmas.Result.{err_from_is_err_and, on_ok_weaker, IfErr-weaker}
use Rattle.flow_report.specs.Lines.{message_line, message_text}
use Rattle.flow_report.specs.Dump.{message_of}
use Rattle.flow_report.proofs.Joining.{holds_more, none_told, tells_then, stops_then}
use Rattle.flow_report.proofs.Holding.{records_text, message_parts}
use Rattle.flow_report.proofs.output.HeldText.put_message.Goals as goal

pub returns-in_err-push_message_line-clause-front : goal.returns-in_err-push_message_line-clause-front
returns-in_err-push_message_line-clause-front g c =
    let p = err_from_is_err_and c.from_residual.result c.from_residual.ensures.1 in
    rw (p.1, p.2) (tt, none_told _ c.args.self.now.text.items (message_text (message_of c.args.message.now)))

pub returns-clause-told : goal.returns-clause-told
returns-clause-told g c =
    let first = holds_more (g.W.Write.contents c.args.output.now) c.args.self.now.text.items
    (message_line c.args.message.now.header) c.push_message_line.new.text.items c.in_ok-push_message_line.ensures in
    let told = rw (c.as_slice.ensures.value, c.as_slice-2.ensures.value) at c.put_records.ensures.told in
    rw (message_parts (message_of c.args.message.now))
    (on_ok_weaker c.put_records.result
    (λ t. tells_then _ _ _ _ _ _ (message_line c.args.message.now.header)
    (records_text c.args.message.now.held.records.items c.args.message.now.held.octets.items) first t) told)

pub returns-clause-front : goal.returns-clause-front
returns-clause-front g c =
    let first = holds_more (g.W.Write.contents c.args.output.now) c.args.self.now.text.items
    (message_line c.args.message.now.header) c.push_message_line.new.text.items c.in_ok-push_message_line.ensures in
    let front = rw (c.as_slice.ensures.value, c.as_slice-2.ensures.value) at c.put_records.ensures.front in
    rw (message_parts (message_of c.args.message.now))
    (IfErr-weaker c.put_records.result _ _
    (λ e cut. (
      cut.0,
      stops_then _ _ _ _ _ (message_line c.args.message.now.header)
          (records_text c.args.message.now.held.records.items c.args.message.now.held.octets.items) first cut.1,
    )) front)
