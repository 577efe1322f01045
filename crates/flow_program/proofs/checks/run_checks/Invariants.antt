use Rattle.std.proofs.Common.{◌≡◌, ◌≢◌, ◌≤◌, drop}
use Rattle.std.specs.Io.KnownBytes.{Keeps}
use Rattle.std.specs.List.{All}
use Rattle.flow_several.proofs.Opened.{paths_of}
use Rattle.flow_program.specs.Checks.{IsOutcome}
use Rattle.flow_program.specs.SideBySide.{AreAhead, MayBeChecked}
use Rattle.flow_program.proofs.Checked.{HaveChecked}
use Rattle.flow_program.proofs.checks.run_checks.Given as goal

-- the folders so far are checked, and those that were opened are the next ones
abbrev pub invariant-loop-place : goal.invariant-loop-place
invariant-loop-place g l =
    let before = g.E.Write.contents l.fn.errors in
    let mid = g.E.Write.contents l.errors in
    let archives = l.archives.archives in
    record {
      so_far : HaveChecked (IsOutcome g.D.Disk g.O.Opener.opens g.O.Opener.refuses l.fn.files) (paths_of l.paths) l.place
          (g.W.Write.contents l.fn.output) (g.W.Write.contents l.output) before mid l.greatest;
      ahead : AreAhead g.D.Disk g.O.Opener.opens g.O.Opener.refuses l.fn.files archives.answers.items archives.left.items
          (drop l.place (paths_of l.paths));
      thawed : All (MayBeChecked g.D.Disk) archives.left.items;
      quiet : l.greatest ≡ 0 → Keeps before mid;
      most : l.greatest ≤ 5;
      other : l.greatest ≢ 2;
    }
