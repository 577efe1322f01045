use Rattle.std.proofs.Common.{◌≡◌, length}
use Rattle.flow_feed.proofs.EachGiven.{IsCollecting}
use Rattle.flow_feed.proofs.collecting.collect_into.Given as goal

abbrev pub invariant-loop : goal.invariant-loop
invariant-loop g l =
    IsCollecting g.A.Appender.appends g.S.Datagrams.gives l.fn.appender l.appender l.fn.source l.source l.tally.messages
    l.tally.refused.counts l.counter
    × (length l.room ≡ 65536)
