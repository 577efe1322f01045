use Rattle.std.proofs.Common.{◌++◌, [], ◌∷◌}
use Rattle.std.proofs.lemmas.Result.{err_from_is_err_and}
use Rattle.flow_report.specs.Records.{json_line, json_start, Started}
use Rattle.flow_codec.specs.Raw.{raw}
use Rattle.flow_report.proofs.Joining.{holds_more, none_told, tells_then, stops_then, stops_more}
use Rattle.flow_report.proofs.Recording.{json_fields, json_parts}
use Rattle.flow_report.proofs.output.HeldText.put_object.Goals as goal

pub returns-in_err-push_json_start-clause-front : goal.returns-in_err-push_json_start-clause-front
returns-in_err-push_json_start-clause-front g c =
    let p = err_from_is_err_and c.from_residual.result c.from_residual.ensures.1 in
    let r = raw c.args.id c.args.definition.now c.args.octets.now in
    rw (p.1, p.2) (
      tt,
      none_told _ c.args.self.now.text.items (json_line c.args.times (c.args.start, (c.args.header.now, r))),
    )

pub returns-in_err-put_json_fields-clause-front : goal.returns-in_err-put_json_fields-clause-front
returns-in_err-put_json_fields-clause-front g c =
    let p = err_from_is_err_and c.from_residual-in_err-put_json_fields.result
    c.from_residual-in_err-put_json_fields.ensures.1 in
    let r = raw c.args.id c.args.definition.now c.args.octets.now in
    let s : Started = (c.args.start, (c.args.header.now, r)) in
    let start = json_start c.args.times c.args.start c.args.header.now.domain c.args.id in
    let cut = rw c.fields.ensures at c.in_err-put_json_fields.ensures.front in
    let first = holds_more (g.W.Write.contents c.args.output.now) c.args.self.now.text.items start
    c.push_json_start.new.text.items c.in_ok-push_json_start.ensures in
    rw (p.1, p.2, json_parts c.args.times s) (
      cut.0,
      stops_more _ _ _ (start ++ json_fields r.layout.fields r.octets) (125 ∷ 10 ∷ [])
          (stops_then _ _ _ _ _ start (json_fields r.layout.fields r.octets) first cut.1),
    )

pub returns-in_err-extend_from_slice-clause-front : goal.returns-in_err-extend_from_slice-clause-front
returns-in_err-extend_from_slice-clause-front g c =
    let p = err_from_is_err_and c.from_residual-in_err-extend_from_slice.result
    c.from_residual-in_err-extend_from_slice.ensures.1 in
    let r = raw c.args.id c.args.definition.now c.args.octets.now in
    let s : Started = (c.args.start, (c.args.header.now, r)) in
    let start = json_start c.args.times c.args.start c.args.header.now.domain c.args.id in
    let told = rw c.fields.ensures at c.in_ok-put_json_fields.ensures.told in
    let first = holds_more (g.W.Write.contents c.args.output.now) c.args.self.now.text.items start
    c.push_json_start.new.text.items c.in_ok-push_json_start.ensures in
    let both = tells_then _ _ _ _ _ _ start (json_fields r.layout.fields r.octets) first told in
    rw (p.1, p.2, json_parts c.args.times s) (
      tt,
      stops_then _ _ _ _ _ (start ++ json_fields r.layout.fields r.octets) (125 ∷ 10 ∷ []) both
          (none_told _ c.put_json_fields.new.self.text.items (125 ∷ 10 ∷ [])),
    )

pub returns-clause-told : goal.returns-clause-told
returns-clause-told g c =
    let r = raw c.args.id c.args.definition.now c.args.octets.now in
    let s : Started = (c.args.start, (c.args.header.now, r)) in
    let start = json_start c.args.times c.args.start c.args.header.now.domain c.args.id in
    let told = rw c.fields.ensures at c.in_ok-put_json_fields.ensures.told in
    let first = holds_more (g.W.Write.contents c.args.output.now) c.args.self.now.text.items start
    c.push_json_start.new.text.items c.in_ok-push_json_start.ensures in
    let both = tells_then _ _ _ _ _ _ start (json_fields r.layout.fields r.octets) first told in
    let last = holds_more (g.W.Write.contents c.put_json_fields.new.output) c.put_json_fields.new.self.text.items
    (125 ∷ 10 ∷ []) c.extend_from_slice.new.self.items c.in_ok-extend_from_slice.ensures.items in
    rw (json_parts c.args.times s)
    (tells_then _ _ _ _ _ _ (start ++ json_fields r.layout.fields r.octets) (125 ∷ 10 ∷ []) both last)
