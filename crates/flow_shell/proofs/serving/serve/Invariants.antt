use Rattle.std.proofs.Common.{◌≡◌}
use Rattle.flow_shell.specs.Replies.{IsAnswered}
use Rattle.flow_shell.proofs.AllReplied.{Serving}
use Rattle.flow_shell.proofs.serving.serve.Given as goal

-- so many lines were answered
abbrev pub invariant-loop : goal.invariant-loop
invariant-loop g l =
    (l.asking.width ≡ l.fn.asking.width)
    × Serving g.B.Ends.said g.B.Ends.had (IsAnswered g.J.Naming.honest g.J.Naming.opening l.fn.asking.width)
    (g.I.Read.remaining l.fn.lines.input) (g.I.Read.remaining l.lines.input) l.fn.lines.is_read l.lines.is_read
    l.counter l.fn.asking.reader l.asking.reader (g.W.Write.contents l.fn.output) (g.W.Write.contents l.output)
