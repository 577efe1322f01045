use Rattle.std.proofs.Common.{◌≡◌, ◌-◌, ◌≤◌, List}
use Rattle.flow_codec.specs.Raw.{Placed}
use Rattle.flow_segment.specs.PartFlows.{AreBehind, TookAll}
use Rattle.flow_segment.proofs.Flowing.{HasTaken, PartSoFar}
use Rattle.flow_segment.proofs.walking.walk_part.Given as goal

abbrev pub invariant-messages : goal.invariant-messages
invariant-messages g l =
    let S = g.S.SealedFile in
    let holds = g.R.RecordSink.holds in
    PartSoFar (HasTaken holds l.initial.sink l.sink l.count l.time) (S.honest l.part.reader) (S.octets l.part.reader)
    l.part.prefix l.part.length l.initial.templates l.templates l.window
    × (l.window.end ≡ l.part.length) × (l.window.place ≤ l.window.end) × (l.faults ≡ l.initial.faults)
    × (l.count ≤ l.window.place) × ((records : List Placed) × TookAll holds l.initial.sink records l.sink)
    × AreBehind l.initial.templates l.templates × (g.R.RecordSink.kept l.sink ≡ g.R.RecordSink.kept l.initial.sink)

abbrev pub decreases-messages : goal.decreases-messages
decreases-messages g l = l.window.end - l.window.place
