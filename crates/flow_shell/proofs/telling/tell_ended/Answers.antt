use Rattle.std.proofs.Common.{rules}
use Rattle.flow_shell.proofs.EndedLines.{one_more, refused_on}
use Rattle.flow_shell.proofs.telling.tell_ended.Goals as goal

pub returns-in_err-tell_file : goal.returns-in_err-tell_file
returns-in_err-tell_file g c =
    let known = g.W.Write.contents in
    let this : ∥ g.B.Ends.said c.in-Some.number c.in-Some.fed ∥₁ = search rules in
    refused_on g.B.Ends.said (known c.args.output.now) (known c.loop.output) (known c.tell_file.new.output)
    c.in-Some.number c.in-Some.fed (c.in_err-tell_file.field-0).0 c.from_residual.result c.from_residual.ensures.1
    c.loop.invariant this c.in_err-tell_file.ensures

pub loop-preserved : goal.loop-preserved
loop-preserved g c =
    let known = g.W.Write.contents in
    let this : ∥ g.B.Ends.said c.in-Some.number c.in-Some.fed ∥₁ = search rules in
    one_more g.B.Ends.said (known c.args.output.now) (known c.loop.output) (known c.tell_file.new.output)
    c.in-Some.number c.in-Some.fed c.loop.invariant this c.in_ok-tell_file.ensures
