use Rattle.std.proofs.Common.{◌≡◌, ℕ, List, length}
use Rattle.flow_codec.specs.Stream.{progress}
use Rattle.flow_feed.proofs.Readings.{IsReading}
use Rattle.flow_feed.proofs.feeding.pass.Given as goal

abbrev pub invariant-loop : goal.invariant-loop
invariant-loop g l =
    (passed : List (List ℕ)) × (length passed ≡ l.counter)
    × IsReading (progress l.fn.reader (g.R.Read.remaining l.fn.input)) passed
    (progress l.reader (g.R.Read.remaining l.input))
