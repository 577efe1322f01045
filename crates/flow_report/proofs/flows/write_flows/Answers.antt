use Rattle.std.proofs.Common.{subst}
use Rattle.std.specs.List.{flat_map}
use Rattle.std.proofs.lemmas.Result.{err_from_is_err_and}
use Rattle.flow_report.specs.ArchiveLines.{flow_line, flow_names, FlowText}
use Rattle.flow_report.specs.Formats.{heading}
use Rattle.flow_report.specs.Telling.{Tells, TellsFront}
use Rattle.flow_report.proofs.Joining.{ends_cut, with_held, with_held_cut}
use Rattle.flow_report.proofs.flows.write_flows.Goals as goal

pub returns-in_err-put-clause-cut : goal.returns-in_err-put-clause-cut
returns-in_err-put-clause-cut g c =
    let p = err_from_is_err_and c.from_residual-in_err-put.result c.from_residual-in_err-put.ensures.1 in
    let front = subst (λ (t : FlowText).
    TellsFront (g.W.Write.contents c.args.output.now) t.held (g.W.Write.contents c.put.new.output)
    (flat_map (flow_line t.format) c.args.flows.now)) c.in_ok-lines.ensures c.in_err-put.ensures.front in
    rw (p.1, p.2) (with_held_cut _ _ (heading c.args.format.layout flow_names)
    (flat_map (flow_line c.args.format) c.args.flows.now) front)

pub returns-in_err-end-clause-cut : goal.returns-in_err-end-clause-cut
returns-in_err-end-clause-cut g c =
    let p = err_from_is_err_and c.from_residual-in_err-end.result c.from_residual-in_err-end.ensures.1 in
    let told = subst (λ (t : FlowText).
    Tells (g.W.Write.contents c.args.output.now) t.held (g.W.Write.contents c.put.new.output) c.put.new.self.held
    (flat_map (flow_line t.format) c.args.flows.now)) c.in_ok-lines.ensures c.in_ok-put.ensures.told in
    rw (p.1, p.2) (ends_cut _ _ _ _ _ (with_held _ _ (heading c.args.format.layout flow_names) _
    (flat_map (flow_line c.args.format) c.args.flows.now) told) c.in_err-end.ensures.front)
