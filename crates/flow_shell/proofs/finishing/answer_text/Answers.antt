use Rattle.flow_shell.specs.Written.{done_line}
use Rattle.flow_shell.proofs.Writing.{both_written}
use Rattle.flow_shell.proofs.finishing.answer_text.Goals as goal

pub returns : goal.returns
returns g c =
    let contents = g.W.Write.contents in
    both_written (contents c.args.output.now) (contents c.write_patiently.new.output) (contents c.end_answer.new.output)
    c.args.text.now (done_line c.args.status) c.end_answer.result
    (rw c.as_bytes.ensures.value at c.in_ok-write_patiently.ensures.all) c.end_answer.ensures
