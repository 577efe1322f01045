use Rattle.std.proofs.Common.{◌≡◌, ◌+◌, length}
use Rattle.std.specs.Prelude.{IsTrue}
use Rattle.std.specs.List.{All}
use Rattle.flow_several.specs.Several.{readings}
use Rattle.flow_several.specs.Turns.{AreReady, Awaits}
use Rattle.flow_several.proofs.EachLines.{Written}
use Rattle.flow_several.proofs.totalling.totals_of_each.Given as goal

-- the lines of the archives so far are written, and the others are waited for
abbrev pub invariant-answers : goal.invariant-answers
invariant-answers g l = record {
  count : l.place + (length l.sums.archives.answers.items + length l.sums.archives.left.items) ≡ length l.fn.disks.items;
  lines : Written l.fn.format l.fn.from l.fn.to (readings g.D.Disk l.fn.disks.items)
      (All (λ d. IsTrue (g.D.Disk.honest d)) l.fn.disks.items)
      (Awaits g.D.Disk l.sums.archives.answers.items l.sums.archives.left.items) l.place
      (g.W.Write.contents l.initial.output) (g.W.Write.contents l.output);
  ready : AreReady g.D.Disk l.sums.archives.answers.items l.sums.archives.left.items;
  faults : l.faults ≡ l.fn.faults;
}

abbrev pub decreases-answers : goal.decreases-answers
decreases-answers g l = length l.sums.archives.answers.items + length l.sums.archives.left.items
