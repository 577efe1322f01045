use Rattle.flow_report.specs.declared.refusal.Refusal.TheVariants.{OutOfMemory}
use Rattle.flow_program.specs.Inspecting.{file_printed}
use Rattle.flow_program.specs.Printed.{told_lines}
use Rattle.flow_program.proofs.OneByOne.{written_or_front}
use Rattle.flow_program.proofs.inspecting.tell_refused.Goals as goal

pub returns-in-OutOfMemory : goal.returns-in-OutOfMemory
returns-in-OutOfMemory g c =
    let known = g.E.Write.contents in
    rw c.in-OutOfMemory.is
    (written_or_front c.write_no_memory.result (told_lines (file_printed OutOfMemory c.args.refused.now.number))
    (known c.args.errors.now) (known c.write_no_memory.new.errors) c.write_no_memory.ensures.all
    c.write_no_memory.ensures.front)
