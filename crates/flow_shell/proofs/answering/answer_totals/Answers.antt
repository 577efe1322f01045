use Rattle.flow_shell.proofs.answering.answer_totals.Goals as goal

pub returns-clause-found : goal.returns-clause-found
returns-clause-found g c honest = (
  c.in_ok-rows.rows.items,
  c.in_ok-rows.ensures.found honest,
  rw c.as_slice.ensures.value at c.in_ok-write_rows.ensures.all,
)
