use Rattle.std.proofs.Common.{◌≡◌, Some}
use Rattle.flow_shell.specs.declared.asked.ShellRequest.TheVariants.{Ask}
use Rattle.flow_shell.proofs.Replies.{query_replied}
use Rattle.flow_shell.proofs.serving.answer_request.Goals as goal

pub returns-in-Some-Ask-clause-replied : goal.returns-in-Some-Ask-clause-replied
returns-in-Some-Ask-clause-replied g c =
    let contents = g.W.Write.contents in
    let is : c.args.request ≡ Some (Ask c.in-Some-Ask.query) = cc (c.in-Some-Ask.is, c.in-Some-Ask.field-0-is) in
    query_replied g.B.Ends.said g.B.Ends.had g.J.Naming.honest g.J.Naming.opening c.args.asking.now.width
    c.answer_query.new.asking.reader c.in-Some-Ask.query c.args.request (contents c.args.output.now)
    (contents c.answer_query.new.output) c.answer_query.result is c.answer_query.ensures.answered
