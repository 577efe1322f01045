use Rattle.std.specs.List.{flat_map}
use Rattle.std.proofs.lemmas.Result.{err_from_is_err_and}
use Rattle.flow_report.specs.ArchiveLines.{flow_line}
use Rattle.flow_report.proofs.Joining.{begins, goes_on, is_cut, is_told}
use Rattle.flow_report.proofs.Listed.{next_line, no_line}
use Rattle.flow_report.proofs.flows.tell_flows.Goals as goal

pub loop-flow-init : goal.loop-flow-init
loop-flow-init g c = (begins _ c.args.lines.now.text.items _, c.requires)

pub loop-flow-preserved : goal.loop-flow-preserved
loop-flow-preserved g c =
    let next = next_line (flow_line c.args.format) c.args.flows.now c.loop-flow.flow-index _ c.loop-flow-test.true in (
      goes_on _ _ _ c.args.lines.now.text.items _ _ (flat_map (flow_line c.args.format) c.args.flows.now) _ _ _
          c.loop-flow.invariant.0 next c.in_ok-put_flow.ensures.told,
      c.in_ok-put_flow.ensures.room,
    )

pub returns-in_err-put_flow-clause-front : goal.returns-in_err-put_flow-clause-front
returns-in_err-put_flow-clause-front g c =
    let p = err_from_is_err_and c.from_residual.result c.from_residual.ensures.1 in
    let next = next_line (flow_line c.args.format) c.args.flows.now c.loop-flow.flow-index _ c.loop-flow-test.true in
    let cut = is_cut _ _ _ c.args.lines.now.text.items _ (flat_map (flow_line c.args.format) c.args.flows.now) _ _ _
    c.loop-flow.invariant.0 next c.in_err-put_flow.ensures.front in
    rw p.1 cut

pub returns-clause-told : goal.returns-clause-told
returns-clause-told g c =
    is_told _ _ c.args.lines.now.text.items _ (flat_map (flow_line c.args.format) c.args.flows.now) _
    c.loop-flow.invariant.0
    (no_line (flow_line c.args.format) c.args.flows.now c.loop-flow.flow-index c.loop-flow-test.false)
