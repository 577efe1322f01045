use Rattle.std.proofs.Common.{◌≤◌, length}
use Rattle.flow_codec.specs.Templates.{AllTemplates}
use Rattle.flow_segment.specs.Prefix.{IsRestated}
use Rattle.flow_snapshot.proofs.KeptFlows.{IsStillRestated}
use Rattle.flow_export.proofs.Passed.{IsPassedSoFar}
use Rattle.flow_export.proofs.passing.pass_prefix.Given as goal

-- the messages so far were taken in, and what is left restates the templates after them
abbrev pub invariant-messages : goal.invariant-messages
invariant-messages l = record {
  found : IsPassedSoFar l.prefix l.rest l.carry;
  given : (all : AllTemplates) → IsRestated l.prefix all → IsStillRestated l.rest l.carry.templates all;
  within : length l.rest ≤ length l.prefix;
}

abbrev pub decreases-messages : goal.decreases-messages
decreases-messages l = length l.rest
