use Rattle.std.proofs.Common.{subst}
use Rattle.std.specs.Prelude.{IfErr}
use Rattle.std.specs.List.{flat_map}
use Rattle.flow_report.specs.ArchiveLines.{flow_line, FlowText}
use Rattle.flow_report.specs.Telling.{TellsFront}
use Rattle.flow_report.proofs.flows.FlowLines.put.Goals as goal

pub returns-clause-front : goal.returns-clause-front
returns-clause-front g c =
    subst (λ (t : FlowText). IfErr c.tell_flows.result
    (λ x. TellsFront (g.W.Write.contents c.args.output.now) t.held (g.W.Write.contents c.tell_flows.new.output)
    (flat_map (flow_line t.format) c.args.flows.now))) c.self.view_is c.tell_flows.ensures.front
