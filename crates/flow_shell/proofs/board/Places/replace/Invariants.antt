use Rattle.flow_shell.proofs.Table.{AreReplacedBelow}
use Rattle.flow_shell.proofs.board.Places.replace.Given as goal

-- the places so far are replaced
abbrev pub invariant-loop-place : goal.invariant-loop-place
invariant-loop-place l = AreReplacedBelow l.place-index l.from l.to l.fn.self.places l.place-items
