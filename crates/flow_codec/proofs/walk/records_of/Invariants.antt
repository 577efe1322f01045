use Rattle.std.proofs.Common.{◌≡◌, length}
use Rattle.flow_codec.proofs.RecordLoop.{GoesOn}
use Rattle.flow_codec.proofs.walk.records_of.Given as goal

abbrev pub invariant-loop-rest : goal.invariant-loop-rest
invariant-loop-rest g l =
    GoesOn g.S.RecordSink.holds g.S.RecordSink.refuses l.header l.initial.sink l.end l.id l.definition l.octets l.sink
    l.rest × (g.S.RecordSink.kept l.sink ≡ g.S.RecordSink.kept l.initial.sink)

abbrev pub decreases-loop-rest : goal.decreases-loop-rest
decreases-loop-rest g l = length l.rest
