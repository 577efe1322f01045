use Rattle.std.specs.Fmt.{digits}
use Rattle.flow_refusals.specs.Table.{code_text}
use Rattle.flow_program.proofs.telling.tell_archive_refusal.Goals as goal

pub returns-in-OutOfMemory : goal.returns-in-OutOfMemory
unfolding code_text digits
returns-in-OutOfMemory g c = rw c.in-OutOfMemory.is (rw c.as_bytes.ensures.value at c.tell_line.ensures)
