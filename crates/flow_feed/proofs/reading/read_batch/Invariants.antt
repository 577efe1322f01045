use Rattle.std.proofs.Common.{◌≡◌, length}
use Rattle.flow_codec.specs.Stream.{progress}
use Rattle.flow_feed.proofs.Readings.{IsReading}
use Rattle.flow_feed.proofs.reading.read_batch.Given as goal

abbrev pub invariant-loop : goal.invariant-loop
invariant-loop g l =
    IsReading (progress l.fn.reader (g.R.Read.remaining l.fn.input)) l.messages
    (progress l.reader (g.R.Read.remaining l.input))
    × (length l.messages ≡ l.counter)
