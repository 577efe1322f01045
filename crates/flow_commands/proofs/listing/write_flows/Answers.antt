use Rattle.flow_commands.specs.Asking.{AreFlowsIn, Writes, WritesUpTo}
use Rattle.flow_commands.proofs.Endings.{if_refused, on_ended}
use Rattle.flow_commands.proofs.listing.write_flows.Goals as goal

pub returns-clause-within : goal.returns-clause-within
returns-clause-within g c =
    let old = g.W.Write.contents c.args.output.now in
    let new = g.W.Write.contents c.flows.new.output in
    on_ended c.flows.result c.ended.result (Writes (AreFlowsIn c.args.format c.args.span.now) old new) c.ended.ensures
    c.flows.ensures.written

pub returns-clause-kept_within : goal.returns-clause-kept_within
returns-clause-kept_within g c =
    let old = g.W.Write.contents c.args.output.now in
    let new = g.W.Write.contents c.flows.new.output in
    if_refused c.flows.result c.ended.result (λ e. WritesUpTo (AreFlowsIn c.args.format c.args.span.now) e old new)
    c.ended.ensures c.flows.ensures.kept
