use Rattle.std.proofs.Common.{map}
use Rattle.flow_commands.proofs.AllFed.{NoneBefore}
use Rattle.flow_commands.proofs.side_by_side.place_of_input.Given as goal

-- none of the paths so far is that of standard input
abbrev pub invariant-loop-i : goal.invariant-loop-i
invariant-loop-i g l = NoneBefore (map g.S.AsStr.text l.paths) l.i
