use Rattle.std.proofs.Common.{◌-◌, ◌^◌}
use Rattle.flow_feed.specs.Whole.{reached}
use Rattle.flow_feed.proofs.Batches.{start_of, IsFeeding}
use Rattle.flow_feed.proofs.until.feed_until.Given as goal

abbrev pub invariant-batches : goal.invariant-batches
invariant-batches g l =
    IsFeeding g.A.Appender.appends l.fn.first l.fn.appender l.appender (start_of (g.R.Read.remaining l.fn.input))
    (reached l.reader (g.R.Read.remaining l.input)) l.reader.count

abbrev pub decreases-batches : goal.decreases-batches
decreases-batches g l = 2 ^ 48 - l.reader.count
