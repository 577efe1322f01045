use Rattle.std.proofs.Common.{◌-◌, length}
use Rattle.std.specs.Io.KnownBytes.{Keeps, prepend_known}
use Rattle.flow_feed.specs.Whole.{ahead, IsSamePlace}
use Rattle.flow_feed.proofs.whole.WholeReader.find.Given as goal

abbrev pub invariant-reads : goal.invariant-reads
invariant-reads g l = Keeps (prepend_known (ahead l.initial.self) (g.R.Read.remaining l.initial.input))
    (prepend_known (ahead l.self) (g.R.Read.remaining l.input)) × IsSamePlace l.initial.self l.self

abbrev pub decreases-reads : goal.decreases-reads
decreases-reads g l = 131073 - length (ahead l.self)
