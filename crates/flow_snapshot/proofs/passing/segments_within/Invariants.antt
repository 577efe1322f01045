use Rattle.std.specs.Prelude.{IsTrue}
use Rattle.std.proofs.Common.{take}
use Rattle.std.specs.List.{list_all}
use Rattle.flow_snapshot.specs.Files.{is_honest, segment_of, shared}
use Rattle.flow_snapshot.specs.Shares.{IsSegmentSum}
use Rattle.flow_snapshot.proofs.LeftOut.{Kept}
use Rattle.flow_snapshot.proofs.passing.segments_within.Given as goal

abbrev pub invariant-loop-part : goal.invariant-loop-part
invariant-loop-part g l = IsTrue (list_all is_honest (shared l.parts))
    → Kept (IsSegmentSum l.width) l.from l.to segment_of is_honest (take l.part-index l.parts) l.kept.items
