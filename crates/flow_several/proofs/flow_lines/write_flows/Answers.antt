use Rattle.std.proofs.Common.{[], refl}
use Rattle.std.specs.List.{flat_map}
use Rattle.flow_disk.proofs.Results.{passed_on}
use Rattle.flow_report.specs.declared.text_error.TextError.TheVariants as text
use Rattle.flow_report.specs.Writing.{AppendsFront}
use Rattle.flow_report.proofs.Joining.{begins_after, ends, ends_cut, front_written, goes_on, is_cut, is_told}
use Rattle.flow_report.proofs.Listed.{next_line, no_line}
use Rattle.flow_several.specs.Flows.{numbered_flow}
use Rattle.flow_several.proofs.flow_lines.write_flows.Goals as goal

pub loop-flow-init : goal.loop-flow-init
loop-flow-init g c =
    let all = flat_map (numbered_flow c.args.format c.args.number) c.args.flows.now in
    begins_after _ c.new-text.result.items [] all all c.new-text.ensures.items refl

pub loop-flow-preserved : goal.loop-flow-preserved
loop-flow-preserved g c =
    let line = numbered_flow c.args.format c.args.number in
    let next = next_line line c.args.flows.now c.loop-flow.flow-index _ c.loop-flow-test.true in
    goes_on _ _ _ [] _ _ (flat_map line c.args.flows.now) _ _ _ c.loop-flow.invariant next
    c.in_ok-put_flow.ensures.told

pub returns-in_err-put_flow-clause-cut : goal.returns-in_err-put_flow-clause-cut
returns-in_err-put_flow-clause-cut g c =
    let line = numbered_flow c.args.format c.args.number in
    let all = flat_map line c.args.flows.now in
    let old = g.W.Write.contents c.args.output.now in
    let new = g.W.Write.contents c.put_flow.new.output in
    let next = next_line line c.args.flows.now c.loop-flow.flow-index _ c.loop-flow-test.true in
    passed_on c.from_residual.result (c.in_err-put_flow.field-0).0 (λ _. AppendsFront old new all)
    c.from_residual.ensures.1
    (front_written old new all (is_cut _ _ _ [] _ all _ _ _ c.loop-flow.invariant next c.in_err-put_flow.ensures.cut))

pub returns-in_err-write_patiently-clause-cut : goal.returns-in_err-write_patiently-clause-cut
returns-in_err-write_patiently-clause-cut g c =
    let line = numbered_flow c.args.format c.args.number in
    let all = flat_map line c.args.flows.now in
    let old = g.W.Write.contents c.args.output.now in
    let now = g.W.Write.contents c.loop-flow.output in
    let new = g.W.Write.contents c.write_patiently.new.output in
    let held = c.loop-flow.text.items in
    let told = is_told _ _ [] held all _ c.loop-flow.invariant
    (no_line line c.args.flows.now c.loop-flow.flow-index c.loop-flow-test.false) in
    passed_on c.from_residual-in_err-write_patiently.result (text.Write (c.in_err-write_patiently.field-0).0)
    (λ _. AppendsFront old new all) c.from_residual-in_err-write_patiently.ensures.1
    (ends_cut old now new held all told (rw c.as_slice.ensures.value at c.in_err-write_patiently.ensures.front))

pub returns-clause-all : goal.returns-clause-all
returns-clause-all g c =
    let line = numbered_flow c.args.format c.args.number in
    let all = flat_map line c.args.flows.now in
    let old = g.W.Write.contents c.args.output.now in
    let now = g.W.Write.contents c.loop-flow.output in
    let new = g.W.Write.contents c.write_patiently.new.output in
    let held = c.loop-flow.text.items in
    let told = is_told _ _ [] held all _ c.loop-flow.invariant
    (no_line line c.args.flows.now c.loop-flow.flow-index c.loop-flow-test.false) in
    ends old now new held all told (rw c.as_slice.ensures.value at c.in_ok-write_patiently.ensures.all)
