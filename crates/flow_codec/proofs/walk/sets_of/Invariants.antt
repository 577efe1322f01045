use Rattle.std.proofs.Common.{◌≡◌, length}
use Rattle.flow_codec.specs.Working.{current, AreChanges}
use Rattle.flow_codec.specs.Reading.{sets_at}
use Rattle.flow_codec.specs.Unread.{unread_at}
use Rattle.flow_codec.proofs.SetLoop.{GoesOn}
use Rattle.flow_codec.specs.Replaced.{replaced_at}
use Rattle.flow_codec.proofs.UnreadLoop.{HasMet}
use Rattle.flow_codec.proofs.ReplacedLoop.{HasReplaced}
use Rattle.flow_codec.proofs.walk.sets_of.Given as goal

abbrev pub invariant-sets : goal.invariant-sets
invariant-sets g l = AreChanges l.header.domain l.before l.changed
    × GoesOn g.S.RecordSink.holds g.S.RecordSink.refuses l.header l.initial.sink l.end l.header.domain l.octets
    (sets_at (length l.octets) l.end l.header.domain (current l.header.domain l.before l.initial.changed) l.octets)
    l.sink (current l.header.domain l.before l.changed) l.rest
    × HasMet l.end l.header.domain (length l.octets)
    (unread_at (length l.octets) l.end l.header.domain (current l.header.domain l.before l.initial.changed) l.octets)
    l.unread (current l.header.domain l.before l.changed) l.rest
    × HasReplaced l.end l.header.domain (length l.octets)
    (replaced_at (length l.octets) l.end l.header.domain (current l.header.domain l.before l.initial.changed) l.octets)
    l.replaced (current l.header.domain l.before l.changed) l.rest
    × (g.S.RecordSink.kept l.sink ≡ g.S.RecordSink.kept l.initial.sink)

abbrev pub decreases-sets : goal.decreases-sets
decreases-sets g l = length l.rest
