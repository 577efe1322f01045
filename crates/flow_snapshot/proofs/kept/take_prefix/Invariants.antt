use Rattle.std.proofs.Common.{length}
use Rattle.flow_codec.specs.Templates.{AllTemplates}
use Rattle.flow_segment.specs.Prefix.{IsRestated}
use Rattle.flow_snapshot.proofs.Finding.{IsReadSoFar}
use Rattle.flow_snapshot.proofs.KeptFlows.{IsStillRestated}
use Rattle.flow_snapshot.proofs.kept.take_prefix.Given as goal

-- the messages so far were read, and what is left restates the templates after them
abbrev pub invariant-messages : goal.invariant-messages
invariant-messages l = record {
  found : IsReadSoFar l.prefix l.rest l.templates;
  given : (all : AllTemplates) → IsRestated l.prefix all → IsStillRestated l.rest l.templates all;
}

abbrev pub decreases-messages : goal.decreases-messages
decreases-messages l = length l.rest
