use Rattle.std.proofs.Common.{◌≡◌, length}
use Rattle.flow_feed.specs.Datagrams.{reading, unread, IsRead}
use Rattle.flow_feed.proofs.EachGiven.{IsCollecting}
use Rattle.flow_feed.proofs.collecting_until.collect_until.Given as goal

abbrev pub invariant-loop : goal.invariant-loop
invariant-loop g l =
    IsCollecting g.A.Appender.appends IsRead l.fn.appender l.appender
    (unread l.fn.is_socket (g.R.Read.remaining l.fn.input))
    (reading (g.R.Read.remaining l.input) l.reads.empty l.reads.most_empty) l.tally.messages l.tally.refused.counts
    l.counter
    × (length l.room ≡ 65536)
