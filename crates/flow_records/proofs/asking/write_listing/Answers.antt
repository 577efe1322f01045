use Rattle.flow_commands.specs.Asking.{Writes, WritesUpTo}
use Rattle.flow_records.specs.Listing.{AreRecordsIn}
use Rattle.flow_commands.proofs.Endings.{if_refused, on_ended}
use Rattle.flow_records.proofs.asking.write_listing.Goals as goal

pub returns-clause-written : goal.returns-clause-written
returns-clause-written g c =
    let old = g.W.Write.contents c.args.output.now in
    let new = g.W.Write.contents c.records.new.output in
    on_ended c.records.result c.ended.result
    (Writes (AreRecordsIn c.args.format.now c.args.span.now.from c.args.span.now.to) old new) c.ended.ensures
    c.records.ensures.written

pub returns-clause-kept : goal.returns-clause-kept
returns-clause-kept g c =
    let old = g.W.Write.contents c.args.output.now in
    let new = g.W.Write.contents c.records.new.output in
    if_refused c.records.result c.ended.result
    (λ e. WritesUpTo (AreRecordsIn c.args.format.now c.args.span.now.from c.args.span.now.to) e old new)
    c.ended.ensures c.records.ensures.kept
