use Rattle.std.proofs.Common.{◌-◌, length}
use Rattle.std.specs.Io.KnownBytes.{Keeps, prepend_known}
use Rattle.flow_codec.specs.Stream.{held}
use Rattle.flow_codec.proofs.stream.find_message.Given as goal

abbrev pub invariant-reads : goal.invariant-reads
invariant-reads g l = Keeps (prepend_known (held l.initial.window) (g.R.Read.remaining l.initial.input))
    (prepend_known (held l.window) (g.R.Read.remaining l.input))

abbrev pub decreases-reads : goal.decreases-reads
decreases-reads g l = 262145 - length (held l.window)
