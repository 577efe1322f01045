use Rattle.std.proofs.Common.{◌≡◌, ◌+◌, length, take, map, min, arith}
use Rattle.flow_snapshot.specs.Files.{segment_of, shared}
use Rattle.flow_model.specs.Shelf.{messages_in}
use Rattle.flow_snapshot.proofs.Asking.{sealed_more}
use Rattle.flow_snapshot.proofs.counting.sealed_count.Goals as goal

pub loop-part-preserved : goal.loop-part-preserved
loop-part-preserved g c =
    let parts = c.args.parts.now in
    let i = c.loop-part.part-index in
    let is : c.saturating_add-count.result
    ≡ min (length (messages_in (map (segment_of {files = g.S.SealedFile}) (shared (take (i + 1) parts)))))
    18446744073709551615 = omega (
      arith,
      c.loop-part.invariant,
      c.saturating_add-count.ensures,
      sealed_more parts i c.part-item.result c.deref.result.now c.loop-part-test.true c.part-item.is c.deref.ensures,
    ) in
    is
