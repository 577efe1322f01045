use Rattle.std.proofs.Common.{◌≡◌, ◌-◌}
use Rattle.flow_segment.specs.Segment.{part_octets}
use Rattle.flow_segment.proofs.Collecting.{Collected}
use Rattle.flow_segment.proofs.sealed.read_all.Given as goal

abbrev pub invariant-messages : goal.invariant-messages
invariant-messages g l =
    let S = g.S.SealedFile in
    Collected (S.number l.part.reader) l.part.prefix l.part.length (S.honest l.part.reader)
    (part_octets l.part.prefix l.part.length (S.octets l.part.reader)) l.reader l.messages.items
    × (l.faults ≡ l.initial.faults)

abbrev pub decreases-messages : goal.decreases-messages
decreases-messages g l = l.reader.end - l.reader.place
