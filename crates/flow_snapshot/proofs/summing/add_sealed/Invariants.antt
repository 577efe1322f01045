use Rattle.std.proofs.Common.{◌≡◌, List, drop, map, take}
use Rattle.std.specs.Prelude.{IsTrue}
use Rattle.std.specs.List.{list_all}
use Rattle.flow_measure.specs.History.{Accepted, AreAcceptedFrom}
use Rattle.flow_segment.specs.Carry.{octets_of}
use Rattle.flow_snapshot.specs.Files.{is_honest, segment_of, shared}
use Rattle.flow_model.specs.Shelf.{messages_in}
use Rattle.flow_snapshot.proofs.Finding.{AreBehind}
use Rattle.flow_snapshot.proofs.KeptFlows.{Taken}
use Rattle.flow_snapshot.proofs.Adding.{HasSums}
use Rattle.flow_snapshot.proofs.summing.add_sealed.Given as goal

-- the messages of the parts so far were added
abbrev pub invariant-loop-part : goal.invariant-loop-part
invariant-loop-part g l = record {
  faults : l.faults ≡ l.fn.faults;
  found : IsTrue (list_all (is_honest {files = g.S.SealedFile}) (shared l.parts)) → AreBehind l.fn.templates
      (messages_in (map (segment_of {files = g.S.SealedFile}) (shared (take l.part-index l.parts)))) l.templates;
  taken : IsTrue (list_all (is_honest {files = g.S.SealedFile}) (shared l.parts)) → (messages : List Accepted)
      → AreAcceptedFrom l.fn.templates messages
      → octets_of messages ≡ messages_in (map (segment_of {files = g.S.SealedFile}) (shared l.parts))
      → Taken (HasSums l.fn.rows l.rows) l.fn.templates messages
      (messages_in (map (segment_of {files = g.S.SealedFile}) (shared (drop l.part-index l.parts)))) l.templates;
}
