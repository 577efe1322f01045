use Rattle.flow_shell.specs.Written.{HasTold}
use Rattle.flow_shell.proofs.telling.tell_ended.Given as goal

-- the lines of the Files so far are written
abbrev pub invariant-loop : goal.invariant-loop
invariant-loop g l = HasTold g.B.Ends.said (g.W.Write.contents l.fn.output) (g.W.Write.contents l.output)
