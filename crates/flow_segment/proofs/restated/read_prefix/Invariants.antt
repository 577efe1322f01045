use Rattle.std.proofs.Common.{◌≡◌, ◌-◌, ◌≤◌}
use Rattle.flow_segment.proofs.Restating.{PrefixSoFar}
use Rattle.flow_segment.proofs.restated.read_prefix.Given as goal

abbrev pub invariant-messages : goal.invariant-messages
invariant-messages g l =
    let S = g.S.SealedFile in
    PrefixSoFar (S.honest l.part.reader) (S.octets l.part.reader) l.part.prefix l.templates l.window
    × (l.window.end ≡ l.part.prefix) × (l.window.place ≤ l.window.end) × (l.faults ≡ l.initial.faults)

abbrev pub decreases-messages : goal.decreases-messages
decreases-messages g l = l.window.end - l.window.place
