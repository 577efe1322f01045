use Rattle.std.proofs.Common.{◌≡◌, take}
use Rattle.flow_commands.proofs.Lines.{IsUnderWay}
use Rattle.flow_commands.proofs.feeding.tell_files.Given as goal

abbrev pub invariant-loop-fed : goal.invariant-loop-fed
invariant-loop-fed g l =
    IsUnderWay (g.W.Write.contents l.fn.output) (g.W.Write.contents l.output) (take l.fed-index l.feds) l.count l.first
    × (l.count ≡ l.fed-index)
