use Rattle.std.proofs.Common.{◌≡◌, ◌+◌, ℕ, false, drop, length}
use Rattle.std.specs.Prelude.{IsTrue}
use Rattle.std.specs.List.{All}
use Rattle.flow_several.specs.SideBySide.{Awaits}
use Rattle.flow_several.specs.Flows.{AreFlowsRead}
use Rattle.flow_several.specs.Several.{readings}
use Rattle.flow_several.specs.Turns.{IsOpened}
use Rattle.flow_several.proofs.EachFlows.{AreListed, Starting}
use Rattle.flow_several.proofs.listing.flows_of_each.Given as goal

-- the lines of the archives so far are written, and the others are waited for
abbrev pub invariant-answers : goal.invariant-answers
invariant-answers g l = record {
  count : l.place + (length l.archives.answers.items + length l.archives.left.items) ≡ length l.fn.disks.items;
  some : AreListed (Starting l.fn.from l.fn.to) l.fn.format (readings g.D.Disk l.fn.disks.items) l.place
      (g.W.Write.contents l.initial.output) (g.W.Write.contents l.output);
  own : All (λ d. IsTrue (g.D.Disk.honest d)) l.fn.disks.items
      → AreListed (AreFlowsRead l.fn.from l.fn.to) l.fn.format (readings g.D.Disk l.fn.disks.items) l.place
      (g.W.Write.contents l.initial.output) (g.W.Write.contents l.output);
  waits : Awaits (IsOpened g.D.Disk) l.archives.answers.items l.archives.left.items (drop l.place l.fn.disks.items);
  thawed : All (λ d. (n : ℕ) → (g.D.Disk.marks d n).frozen ≡ false) l.archives.left.items;
  faults : l.faults ≡ l.fn.faults;
}

abbrev pub decreases-answers : goal.decreases-answers
decreases-answers g l = length l.archives.answers.items + length l.archives.left.items
