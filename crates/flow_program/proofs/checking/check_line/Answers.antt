use Rattle.flow_manifest.specs.Slots.{reads_of}
use Rattle.flow_program.proofs.Checked.{cause_of_lines, cause_without_room, line_told, line_written}
use Rattle.flow_program.proofs.checking.check_line.Goals as goal

pub returns-in-Ok-clause-told : goal.returns-in-Ok-clause-told
returns-in-Ok-clause-told g c = λ honest.
    line_told c.check.new.output.items c.new-text.result.items c.new-text.ensures.items
    (reads_of (g.D.Disk.held c.args.disk)) (c.in-Ok.ensures.told honest)

pub returns-in-Ok-clause-written : goal.returns-in-Ok-clause-written
returns-in-Ok-clause-written g c =
    line_written c.check.new.output.items c.new-text.result.items c.new-text.ensures.items c.in-Ok.ensures.written

pub returns-in-Ok-clause-cause : goal.returns-in-Ok-clause-cause
returns-in-Ok-clause-cause g c = (c.check.new.disk, cause_of_lines _ _ _ _ c.in-Ok.ensures.cause)

pub returns-clause-cause : goal.returns-clause-cause
returns-clause-cause g c =
    (c.check.new.disk, cause_without_room _ _ _ _ c.without_room.ensures c.in-Err.ensures.cause)
