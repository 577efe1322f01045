use Rattle.std.proofs.Common.{[], drop}
use Rattle.std.specs.List.{flat_map}
use Rattle.flow_report.proofs.Joining.{IsTelling}
use Rattle.flow_several.specs.Flows.{numbered_flow}
use Rattle.flow_several.proofs.flow_lines.write_flows.Given as goal

-- of all lines a prefix is written or held
abbrev pub invariant-loop-flow : goal.invariant-loop-flow
invariant-loop-flow g l =
    IsTelling (g.W.Write.contents l.fn.output) [] (g.W.Write.contents l.output) l.text.items
    (flat_map (numbered_flow l.fn.format l.fn.number) l.fn.flows)
    (flat_map (numbered_flow l.fn.format l.fn.number) (drop l.flow-index l.fn.flows))
