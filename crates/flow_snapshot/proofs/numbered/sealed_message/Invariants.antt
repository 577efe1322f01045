use Rattle.std.proofs.Common.{◌≡◌, ◌+◌, drop, length, map, take}
use Rattle.std.specs.Prelude.{slice_get}
use Rattle.flow_snapshot.specs.Files.{segment_of, shared}
use Rattle.flow_model.specs.Shelf.{messages_in}
use Rattle.flow_snapshot.proofs.numbered.sealed_message.Given as goal

-- the message is one of the parts that are left
abbrev pub invariant-loop-part : goal.invariant-loop-part
invariant-loop-part g l = record {
  faults : l.faults ≡ l.fn.faults;
  before : length (messages_in (map (segment_of {files = g.S.SealedFile}) (shared (take l.part-index l.parts))))
      + l.left ≡ l.place;
  there : slice_get (messages_in (map (segment_of {files = g.S.SealedFile}) (shared (drop l.part-index l.parts))))
      l.left
      ≡ slice_get (messages_in (map (segment_of {files = g.S.SealedFile}) (shared l.parts))) l.place;
}
