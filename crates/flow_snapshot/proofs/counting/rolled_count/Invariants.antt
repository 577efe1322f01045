use Rattle.std.proofs.Common.{◌≡◌, take, map}
use Rattle.std.specs.Prelude.{min}
use Rattle.flow_snapshot.specs.Files.{rollup_of, shared}
use Rattle.flow_model.specs.Shelf.{rollup_message_count}
use Rattle.flow_snapshot.proofs.counting.rolled_count.Given as goal

abbrev pub invariant-loop-part : goal.invariant-loop-part
invariant-loop-part g l = l.count ≡ min (rollup_message_count (map rollup_of (shared
    (take l.part-index l.parts)))) 18446744073709551615
