use Rattle.std.proofs.Common.{[]}
use Rattle.flow_disk.proofs.Results.{passed_on}
use Rattle.flow_report.specs.declared.text_error.TextError.TheVariants as text
use Rattle.flow_report.specs.Telling.{TellsFront}
use Rattle.flow_report.proofs.Joining.{holds_more, stops_more, tells_then}
use Rattle.flow_several.specs.Flows.{numbered_flow}
use Rattle.flow_several.proofs.flow_lines.put_flow.Goals as goal

pub returns-in_err-write_much-clause-cut : goal.returns-in_err-write_much-clause-cut
returns-in_err-write_much-clause-cut g c =
    let old = g.W.Write.contents c.args.output.now in
    let new = g.W.Write.contents c.write_much.new.output in
    let held = c.args.text.now.items in
    let line = numbered_flow c.args.format c.args.number c.args.flow in
    passed_on c.from_residual.result (c.in_err-write_much.field-0).0 (λ _. TellsFront old held new line)
    c.from_residual.ensures.1 (stops_more old new held [] line c.in_err-write_much.ensures.cut)

pub returns-in_err-push_flow-clause-cut : goal.returns-in_err-push_flow-clause-cut
returns-in_err-push_flow-clause-cut g c =
    let old = g.W.Write.contents c.args.output.now in
    let new = g.W.Write.contents c.write_much.new.output in
    let held = c.args.text.now.items in
    let line = numbered_flow c.args.format c.args.number c.args.flow in
    passed_on c.from_residual-in_err-push_flow.result text.OutOfMemory (λ _. TellsFront old held new line)
    c.from_residual-in_err-push_flow.ensures.1
    (stops_more old new held [] line (c.write_much.new.text.items, c.in_ok-write_much.ensures.told))

pub returns-clause-told : goal.returns-clause-told
returns-clause-told g c =
    let old = g.W.Write.contents c.args.output.now in
    let new = g.W.Write.contents c.write_much.new.output in
    let held = c.args.text.now.items in
    let mid = c.write_much.new.text.items in
    let line = numbered_flow c.args.format c.args.number c.args.flow in
    tells_then old new new held mid c.push_flow.new.text.items [] line c.in_ok-write_much.ensures.told
    (holds_more new mid line c.push_flow.new.text.items c.in_ok-push_flow.ensures)
