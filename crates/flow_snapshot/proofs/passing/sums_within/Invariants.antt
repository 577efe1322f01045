use Rattle.std.specs.Prelude.{IsTrue}
use Rattle.std.proofs.Common.{take}
use Rattle.std.specs.List.{list_all}
use Rattle.flow_snapshot.specs.Files.{is_honest_sum, rollup_of, shared}
use Rattle.flow_snapshot.specs.Shares.{IsFileSum}
use Rattle.flow_snapshot.proofs.LeftOut.{Kept}
use Rattle.flow_snapshot.proofs.passing.sums_within.Given as goal

abbrev pub invariant-loop-part : goal.invariant-loop-part
invariant-loop-part g l = IsTrue (list_all is_honest_sum (shared l.parts))
    → Kept (IsFileSum l.width) l.from l.to rollup_of is_honest_sum (take l.part-index l.parts) l.kept.items
