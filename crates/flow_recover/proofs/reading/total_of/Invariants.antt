use Rattle.std.proofs.Common.{◌≡◌, take}
use Rattle.flow_manifest.specs.Following.{messages_of}
use Rattle.flow_recover.proofs.reading.total_of.Given as goal

abbrev pub invariant-loop-entry : goal.invariant-loop-entry
invariant-loop-entry l = l.total ≡ messages_of (take l.entry-index l.entries)
