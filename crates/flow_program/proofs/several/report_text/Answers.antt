use Rattle.std.specs.Fmt.{digits}
use Rattle.flow_refusals.specs.Table.{code_text}
use Rattle.flow_program.proofs.several.report_text.Goals as goal

pub returns-then-status-eq-WITHOUT_MEMORY : goal.returns-then-status-eq-WITHOUT_MEMORY
unfolding code_text digits
returns-then-status-eq-WITHOUT_MEMORY g c =
    λ printed _. rw c.if-status-eq-WITHOUT_MEMORY.true (rw c.as_bytes.ensures.value at c.tell_line.ensures)
