use Rattle.flow_commands.specs.Asking.{AreRowsIn, Writes, WritesOrNot}
use Rattle.flow_commands.proofs.Endings.{if_refused, on_ended}
use Rattle.flow_commands.proofs.totalling.write_sums.Goals as goal

pub returns-clause-within : goal.returns-clause-within
returns-clause-within g c =
    let old = g.W.Write.contents c.args.output.now in
    let new = g.W.Write.contents c.totals.new.output in
    on_ended c.totals.result c.ended.result (Writes (AreRowsIn c.args.format c.args.span.now) old new) c.ended.ensures
    c.totals.ensures.written

pub returns-clause-kept_within : goal.returns-clause-kept_within
returns-clause-kept_within g c =
    let old = g.W.Write.contents c.args.output.now in
    let new = g.W.Write.contents c.totals.new.output in
    if_refused c.totals.result c.ended.result (λ e. WritesOrNot (AreRowsIn c.args.format c.args.span.now) e old new)
    c.ended.ensures c.totals.ensures.kept
