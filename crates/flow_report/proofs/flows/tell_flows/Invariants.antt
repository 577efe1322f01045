use Rattle.std.proofs.Common.{◌≤◌, drop}
use Rattle.std.specs.List.{flat_map}
use Rattle.std.specs.Prelude.{vec_capacity}
use Rattle.flow_report.specs.ArchiveLines.{flow_line}
use Rattle.flow_report.proofs.Joining.{IsTelling}
use Rattle.flow_report.proofs.flows.tell_flows.Given as goal

abbrev pub invariant-loop-flow : goal.invariant-loop-flow
invariant-loop-flow g l =
    IsTelling (g.W.Write.contents l.initial.output) l.initial.lines.text.items (g.W.Write.contents l.output)
    l.lines.text.items (flat_map (flow_line l.format) l.flows)
    (flat_map (flow_line l.format) (drop l.flow-index l.flows))
    × (65964 ≤ vec_capacity l.lines.text)
