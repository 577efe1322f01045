use Rattle.std.proofs.Common.{◌≡◌, IsTrue, List, [], take, None, Option}
use Rattle.flow_manifest.specs.Slots.{reads_of}
use Rattle.flow_model.specs.Chain.{ArePartsBehind}
use Rattle.flow_recover.specs.Reading.{IsHeldBehind, IsOnlyRead}
use Rattle.flow_recover.specs.Spans.{AreSpansOf}
use Rattle.flow_segment.specs.Carry.{Carry}
use Rattle.flow_model.specs.Standing.{PartsStand}
use Rattle.flow_model.specs.State.{Part}
use Rattle.flow_recover.proofs.reading.read_entries.Given as goal

abbrev pub invariant-entries : goal.invariant-entries
invariant-entries g l = let D = g.D.Disk in record {
  keeps : IsOnlyRead D l.fn.disk l.disk;
  faults : D.faults l.disk ≡ D.faults l.fn.disk;
  found : IsTrue (D.honest l.fn.disk) → (parts : List Part) × (before : Option Carry)
      × PartsStand (reads_of (D.held l.fn.disk)) (take l.entry-index l.entries) parts
      × ArePartsBehind l.manifest None (take l.entry-index l.entries) parts before × IsHeldBehind before l.called;
  spanned : IsTrue (D.honest l.fn.disk) → l.fn.spans.items ≡ []
      → AreSpansOf (reads_of (D.held l.fn.disk)) l.manifest (take l.entry-index l.entries) l.spans.items;
}
