use Rattle.std.proofs.Common.{◌≡◌, List, ℕ, length}
use Rattle.flow_feed.specs.Whole.{reached}
use Rattle.flow_feed.proofs.Readings.{IsReading}
use Rattle.flow_feed.proofs.until.pass_whole.Given as goal

abbrev pub invariant-loop : goal.invariant-loop
invariant-loop g l =
    (passed : List (List ℕ)) × (length passed ≡ l.counter)
    × IsReading (reached l.fn.reader (g.R.Read.remaining l.fn.input)) passed
    (reached l.reader (g.R.Read.remaining l.input))
