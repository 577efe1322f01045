use Rattle.flow_shell.proofs.Writing.{ended}
use Rattle.flow_shell.proofs.finishing.finish_refused.Goals as goal

pub returns-in_default : goal.returns-in_default
returns-in_default g c =
    let contents = g.W.Write.contents in
    ended c.args.refusal (contents c.args.output.now) (contents c.answer_refusal.new.output) c.answer_refusal.result
    c.in_default.not-Write c.answer_refusal.ensures
