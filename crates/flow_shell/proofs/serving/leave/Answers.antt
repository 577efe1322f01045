use Rattle.flow_shell.proofs.serving.leave.Goals as goal

pub returns-in_ok-write_patiently-in-Unread-clause-written :
    goal.returns-in_ok-write_patiently-in-Unread-clause-written
returns-in_ok-write_patiently-in-Unread-clause-written g c = (
  g.W.Write.contents c.tell_ended.new.output,
  c.in_ok-tell_ended.ensures,
  rw c.in-Unread.is (rw c.as_bytes.ensures.value at c.in_ok-write_patiently-in-Unread.ensures.all),
)
