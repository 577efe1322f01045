use Rattle.std.proofs.Common.{◌≡◌, length, take, map}
use Rattle.std.specs.Prelude.{min}
use Rattle.flow_snapshot.specs.Files.{segment_of, shared}
use Rattle.flow_model.specs.Shelf.{messages_in}
use Rattle.flow_snapshot.proofs.counting.sealed_count.Given as goal

abbrev pub invariant-loop-part : goal.invariant-loop-part
invariant-loop-part g l =
    l.count ≡ min (length (messages_in (map (segment_of {files = g.S.SealedFile})
    (shared (take l.part-index l.parts)))))
    18446744073709551615
