use Rattle.std.proofs.Common.{Some, refl}
use Rattle.flow_feed.specs.declared.batch.FeedStop.TheVariants.{OutOfMemory}
use Rattle.flow_feed.specs.declared.collecting.Tally.{Tally}
use Rattle.flow_feed.proofs.EachGiven.{ends_here, none_collected}
use Rattle.flow_feed.proofs.collecting.collect.Goals as goal

pub returns-in_default : goal.returns-in_default
returns-in_default g c =
    let tally : Tally = record { messages = 0; refused = c.none-refused.result } in
    rw c.ended.ensures
    (ends_here g.A.Appender.appends g.S.Datagrams.gives c.args.appender.now c.args.appender.now c.args.source.now
    c.args.source.now c.args.source.now tally 0
    (none_collected g.A.Appender.appends g.S.Datagrams.gives c.args.appender.now c.args.source.now
    c.none-refused.result.counts c.none-refused.ensures)
    g.S.Datagrams.ends g.S.Datagrams.fails (Some OutOfMemory) refl (refl, refl))
