use Rattle.flow_shell.specs.Answers.{query_lines}
use Rattle.flow_shell.proofs.Unanswered.{finished}
use Rattle.flow_shell.proofs.Writing.{answered}
use Rattle.flow_shell.proofs.querying.answer_query.Goals as goal

pub returns-clause-answered : goal.returns-clause-answered
returns-clause-answered g c honest h has =
    let contents = g.W.Write.contents in
    let asked = c.answer_lines-outcome in
    answered
    (query_lines c.args.query.now c.args.asking.now.width g.J.Naming.opening h asked.new.asking.reader)
    (contents c.args.output.now) (contents asked.new.output) (contents c.finish.new.output) asked.result c.finish.result
    (asked.ensures.lines honest h has) asked.ensures.kept c.finish.ensures

pub returns-clause-unanswered : goal.returns-clause-unanswered
returns-clause-unanswered g c =
    let contents = g.W.Write.contents in
    finished c.answer_lines-outcome.result (contents c.answer_lines-outcome.new.output) (contents c.finish.new.output)
    c.finish.result c.finish.ensures
