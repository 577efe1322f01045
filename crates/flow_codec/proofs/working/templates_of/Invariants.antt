use Rattle.std.proofs.Common.{length}
use Rattle.flow_codec.specs.Working.{current, AreChanges}
use Rattle.flow_codec.specs.Reading.{templates_at}
use Rattle.flow_codec.specs.Replaced.{replacing_at}
use Rattle.flow_codec.proofs.TemplateLoop.{GoesOn}
use Rattle.flow_codec.proofs.ReplacedLoop.{HasMet}
use Rattle.flow_codec.proofs.working.templates_of.Given as goal

abbrev pub invariant-records : goal.invariant-records
invariant-records l =
    AreChanges l.domain l.before l.changed
    × GoesOn l.end l.domain l.kind (current l.domain l.before l.changed) l.rest
    (templates_at (length l.octets) l.end l.domain l.kind (current l.domain l.before l.initial.changed) l.octets)
    × HasMet l.end l.domain l.kind (length l.octets)
    (replacing_at (length l.octets) l.end l.domain l.kind (current l.domain l.before l.initial.changed) l.octets)
    l.replaced (current l.domain l.before l.changed) l.rest

abbrev pub decreases-records : goal.decreases-records
decreases-records l = length l.rest
