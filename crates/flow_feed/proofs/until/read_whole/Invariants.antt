use Rattle.std.proofs.Common.{◌≡◌, length}
use Rattle.flow_feed.specs.Whole.{reached}
use Rattle.flow_feed.proofs.Readings.{IsReading}
use Rattle.flow_feed.proofs.until.read_whole.Given as goal

abbrev pub invariant-loop : goal.invariant-loop
invariant-loop g l =
    IsReading (reached l.fn.reader (g.R.Read.remaining l.fn.input)) l.messages
    (reached l.reader (g.R.Read.remaining l.input))
    × (length l.messages ≡ l.counter)
