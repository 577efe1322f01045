use Rattle.std.proofs.Common.{◌≡◌, ◌+◌, length}
use Rattle.std.specs.Prelude.{IsTrue}
use Rattle.std.specs.List.{All}
use Rattle.flow_several.specs.Several.{readings}
use Rattle.flow_several.specs.Turns.{AreReady, Awaits}
use Rattle.flow_several.proofs.OneByOne.{Summed}
use Rattle.flow_several.proofs.summing.sum_all.Given as goal

-- the archives so far are summed, and the others are waited for
abbrev pub invariant-answers : goal.invariant-answers
invariant-answers g l = record {
  count : l.place + (length l.sums.archives.answers.items + length l.sums.archives.left.items) ≡ length l.fn.disks.items;
  summed : All (λ d. IsTrue (g.D.Disk.honest d)) l.fn.disks.items
      → Summed (readings g.D.Disk l.fn.disks.items) (Awaits g.D.Disk l.sums.archives.answers.items l.sums.archives.left.items) l.place
      l.all.sums;
  ready : AreReady g.D.Disk l.sums.archives.answers.items l.sums.archives.left.items;
  faults : l.faults ≡ l.fn.faults;
}

abbrev pub decreases-answers : goal.decreases-answers
decreases-answers g l = length l.sums.archives.answers.items + length l.sums.archives.left.items
