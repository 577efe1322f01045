use Rattle.std.proofs.lemmas.Result.{err_from_is_err_and, on_ok_weaker, IfErr-weaker}
use Rattle.flow_codec.specs.Raw.{raw}
use Rattle.flow_report.specs.Lines.{record_line}
use Rattle.flow_report.specs.Records.{words_line, Started}
use Rattle.flow_report.proofs.Joining.{holds_more, none_told, tells_then, stops_then}
use Rattle.flow_report.proofs.Recording.{flow_text, words_parts}
use Rattle.flow_report.proofs.output.HeldText.put_words.Goals as goal

pub returns-in_err-push_flow-clause-front : goal.returns-in_err-push_flow-clause-front
returns-in_err-push_flow-clause-front g c =
    let p = err_from_is_err_and c.from_residual.result c.from_residual.ensures.1 in
    let r = raw c.args.id c.args.definition.now c.args.octets.now in
    rw (p.1, p.2) (
      tt,
      none_told _ c.args.self.now.text.items (words_line c.args.times (c.args.start, (c.args.header.now, r))),
    )

pub returns-clause-told : goal.returns-clause-told
returns-clause-told g c =
    let r = raw c.args.id c.args.definition.now c.args.octets.now in
    let s : Started = (c.args.start, (c.args.header.now, r)) in
    let first = holds_more (g.W.Write.contents c.args.output.now) c.args.self.now.text.items
    (flow_text c.args.times s) c.push_flow.new.text.items c.in_ok-push_flow.ensures in
    rw (words_parts c.args.times s)
    (on_ok_weaker c.put_record.result
    (λ t. tells_then _ _ _ _ _ _ (flow_text c.args.times s) (record_line r) first t) c.put_record.ensures.told)

pub returns-clause-front : goal.returns-clause-front
returns-clause-front g c =
    let r = raw c.args.id c.args.definition.now c.args.octets.now in
    let s : Started = (c.args.start, (c.args.header.now, r)) in
    let first = holds_more (g.W.Write.contents c.args.output.now) c.args.self.now.text.items
    (flow_text c.args.times s) c.push_flow.new.text.items c.in_ok-push_flow.ensures in
    rw (words_parts c.args.times s)
    (IfErr-weaker c.put_record.result _ _
    (λ e cut. (cut.0, stops_then _ _ _ _ _ (flow_text c.args.times s) (record_line r) first cut.1))
    c.put_record.ensures.front)
