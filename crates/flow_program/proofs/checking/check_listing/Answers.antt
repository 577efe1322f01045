use Rattle.std.proofs.Common.{true, subst, sym, Some}
use Rattle.flow_manifest.specs.Slots.{reads_of}
use Rattle.flow_program.specs.Checks.{IsNotChecked}
use Rattle.flow_commands.specs.ArchiveFiles.{AreFileLines, AreListings}
use Rattle.flow_program.proofs.Checked.{cause_of_lines, cause_without_room, lines_written, listing_refused}
use Rattle.flow_program.proofs.checking.check_listing.Goals as goal

pub returns-in-Err-clause-refused : goal.returns-in-Err-clause-refused
returns-in-Err-clause-refused g c = λ honest.
    let reads = reads_of (g.D.Disk.held c.args.disk) in
    subst (IsNotChecked true reads) (sym c.without_room.ensures)
    (listing_refused reads (Some c.new-text.result.items) (Some c.check_files.new.output.items) c.in-Err.refused.error
    (c.in-Err.ensures.refused honest))

pub returns-in-Ok-clause-told : goal.returns-in-Ok-clause-told
returns-in-Ok-clause-told g c = λ honest.
    lines_written c.check_files.new.output.items c.new-text.result.items c.new-text.ensures.items
    (AreFileLines (reads_of (g.D.Disk.held c.args.disk))) (c.in-Ok.ensures.told honest)

pub returns-in-Ok-clause-written : goal.returns-in-Ok-clause-written
returns-in-Ok-clause-written g c =
    lines_written c.check_files.new.output.items c.new-text.result.items c.new-text.ensures.items AreListings
    c.in-Ok.ensures.written

pub returns-in-Ok-clause-cause : goal.returns-in-Ok-clause-cause
returns-in-Ok-clause-cause g c = (_, cause_of_lines _ _ _ _ c.in-Ok.ensures.opening)

pub returns-in-Err-clause-cause : goal.returns-in-Err-clause-cause
returns-in-Err-clause-cause g c =
    (_, cause_without_room _ _ _ _ c.without_room.ensures c.in-Err.ensures.opening)
