use Rattle.std.proofs.Common.{◌-◌, ◌≤◌, length}
use Rattle.flow_recover.proofs.Accepting.{AreOctetsRead}
use Rattle.flow_recover.proofs.segments.take_whole.Given as goal

abbrev pub invariant-messages : goal.invariant-messages
invariant-messages l = record {
  within : l.at ≤ length l.octets;
  few : l.count ≤ l.at;
  so_far : AreOctetsRead l.section l.octets l.initial.carry l.carry l.initial.span l.span l.count l.at;
}

abbrev pub decreases-messages : goal.decreases-messages
decreases-messages l = length l.octets - l.at
