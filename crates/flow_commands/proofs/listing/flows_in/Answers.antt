use Rattle.std.specs.Prelude.{IfErr}
use Rattle.flow_disk.proofs.Results.{if_err_by, on_ok_by}
use Rattle.flow_commands.specs.Asking.{AreFlows, AreFlowsIn, Writes, WritesUpTo}
use Rattle.flow_commands.proofs.KeptLines.{away_up_to}
use Rattle.flow_commands.proofs.Spans.{flows_weaker, up_to_weaker, writes_weaker}
use Rattle.flow_commands.proofs.listing.flows_in.Goals as goal

pub returns-clause-written : goal.returns-clause-written
returns-clause-written g c =
    let old = g.W.Write.contents c.args.output.now in
    let new = g.W.Write.contents c.write_flows.new.output in
    let within = AreFlowsIn c.args.format c.args.span.now in
    on_ok_by c.write_flows.result (Writes within old new) (Writes (AreFlows c.args.format) old new)
    (writes_weaker within (AreFlows c.args.format) (flows_weaker c.args.format c.args.span.now) old new)
    c.write_flows.ensures.within

pub returns-clause-kept : goal.returns-clause-kept
returns-clause-kept g c =
    let old = g.W.Write.contents c.args.output.now in
    let new = g.W.Write.contents c.write_flows.new.output in
    let within = AreFlowsIn c.args.format c.args.span.now in
    if_err_by c.write_flows.result (λ e. WritesUpTo within e old new) (λ e. WritesUpTo (AreFlows c.args.format) e old new)
    (up_to_weaker within (AreFlows c.args.format) (flows_weaker c.args.format c.args.span.now) old new)
    c.write_flows.ensures.kept_within

pub returns-in_err-view-clause-kept_within : goal.returns-in_err-view-clause-kept_within
returns-in_err-view-clause-kept_within g c =
    let output = g.W.Write.contents c.args.output.now in
    let kept : IfErr c.from_residual.result
    (λ e. WritesUpTo (AreFlowsIn c.args.format c.args.span.now) e output output) =
    away_up_to c.args.format c.args.span.now c.from_residual.result output in
    kept

pub returns-in_err-view-clause-kept : goal.returns-in_err-view-clause-kept
returns-in_err-view-clause-kept g c =
    let output = g.W.Write.contents c.args.output.now in
    let within = AreFlowsIn c.args.format c.args.span.now in
    if_err_by c.from_residual.result (λ e. WritesUpTo within e output output)
    (λ e. WritesUpTo (AreFlows c.args.format) e output output)
    (up_to_weaker within (AreFlows c.args.format) (flows_weaker c.args.format c.args.span.now) output output)
    (away_up_to c.args.format c.args.span.now c.from_residual.result output)
