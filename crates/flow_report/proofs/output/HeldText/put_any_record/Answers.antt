use Rattle.std.proofs.Common.{◌++◌, [], ◌∷◌}
use Rattle.std.proofs.lemmas.Result.{err_from_is_err_and}
use Rattle.flow_report.specs.Lines.{start_text, record_line}
use Rattle.flow_codec.specs.Raw.{raw}
use Rattle.flow_report.proofs.Joining.{holds_more, none_told, tells_then, stops_then, stops_more}
use Rattle.flow_report.proofs.Holding.{fields_text, record_parts}
use Rattle.flow_report.proofs.output.HeldText.put_any_record.Goals as goal

pub returns-in_err-push_start-clause-front : goal.returns-in_err-push_start-clause-front
returns-in_err-push_start-clause-front g c =
    let p = err_from_is_err_and c.from_residual.result c.from_residual.ensures.1 in
    rw (p.1, p.2) (tt, none_told _ c.args.self.now.text.items (record_line (raw c.args.id c.args.definition.now c.args.octets.now)))

pub returns-in_err-put_fields-clause-front : goal.returns-in_err-put_fields-clause-front
returns-in_err-put_fields-clause-front g c =
    let p = err_from_is_err_and c.from_residual-in_err-put_fields.result c.from_residual-in_err-put_fields.ensures.1 in
    let r = raw c.args.id c.args.definition.now c.args.octets.now in
    let start = rw c.options.ensures at c.in_ok-push_start.ensures in
    let cut = rw c.fields.ensures at c.in_err-put_fields.ensures.front in
    let first = holds_more (g.W.Write.contents c.args.output.now) c.args.self.now.text.items
    (start_text r.layout.options r.id) c.push_start.new.text.items start in
    rw (p.1, p.2, record_parts (raw c.args.id c.args.definition.now c.args.octets.now)) (
      cut.0,
      stops_more _ _ _ (start_text r.layout.options r.id ++ fields_text r.layout.fields r.octets) (10 ∷ [])
          (stops_then _ _ _ _ _ (start_text r.layout.options r.id) (fields_text r.layout.fields r.octets) first cut.1),
    )

pub returns-in_err-push-clause-front : goal.returns-in_err-push-clause-front
returns-in_err-push-clause-front g c =
    let p = err_from_is_err_and c.from_residual-in_err-push.result c.from_residual-in_err-push.ensures.1 in
    let r = raw c.args.id c.args.definition.now c.args.octets.now in
    let start = rw c.options.ensures at c.in_ok-push_start.ensures in
    let told = rw c.fields.ensures at c.in_ok-put_fields.ensures.told in
    let first = holds_more (g.W.Write.contents c.args.output.now) c.args.self.now.text.items
    (start_text r.layout.options r.id) c.push_start.new.text.items start in
    let both = tells_then _ _ _ _ _ _ (start_text r.layout.options r.id)
    (fields_text r.layout.fields r.octets) first told in
    rw (p.1, p.2, record_parts (raw c.args.id c.args.definition.now c.args.octets.now)) (
      tt,
      stops_then _ _ _ _ _ (start_text r.layout.options r.id ++ fields_text r.layout.fields r.octets) (10 ∷ []) both
          (none_told _ c.put_fields.new.self.text.items (10 ∷ [])),
    )

pub returns-clause-told : goal.returns-clause-told
returns-clause-told g c =
    let r = raw c.args.id c.args.definition.now c.args.octets.now in
    let start = rw c.options.ensures at c.in_ok-push_start.ensures in
    let told = rw c.fields.ensures at c.in_ok-put_fields.ensures.told in
    let first = holds_more (g.W.Write.contents c.args.output.now) c.args.self.now.text.items
    (start_text r.layout.options r.id) c.push_start.new.text.items start in
    let both = tells_then _ _ _ _ _ _ (start_text r.layout.options r.id)
    (fields_text r.layout.fields r.octets) first told in
    let last = holds_more (g.W.Write.contents c.put_fields.new.output) c.put_fields.new.self.text.items
    (10 ∷ []) c.push.new.self.items c.in_ok-push.ensures.items in
    rw (record_parts (raw c.args.id c.args.definition.now c.args.octets.now))
    (tells_then _ _ _ _ _ _ (start_text r.layout.options r.id ++ fields_text r.layout.fields r.octets)
    (10 ∷ []) both last)
