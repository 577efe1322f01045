use Rattle.flow_shell.proofs.Table.{IsFirstBelow}
use Rattle.flow_shell.proofs.board.Places.first_ended.Given as goal

-- the first of the places so far
abbrev pub invariant-loop-place : goal.invariant-loop-place
invariant-loop-place l = IsFirstBelow l.place-index l.self.places l.first
