use Rattle.flow_several.specs.Refusals.{several_text}
use Rattle.flow_program.proofs.Reported.{folder_reported, several_reported}
use Rattle.flow_program.proofs.several.report_folders.Goals as goal

pub returns-in-Folder-clause-reported : goal.returns-in-Folder-clause-reported
returns-in-Folder-clause-reported g c =
    let contents = g.E.Write.contents in
    folder_reported (contents c.args.errors.now) (contents c.report_archive.new.errors) 0 c.args.refusal
    c.in-Folder.number c.in-Folder.error c.from-refusal.result c.in-Folder.is c.from-refusal.ensures
    c.report_archive.ensures.reported

pub returns-in-Several-clause-reported : goal.returns-in-Several-clause-reported
returns-in-Several-clause-reported g c =
    let contents = g.E.Write.contents in
    let refusal = c.in-Several.refusal in
    several_reported (contents c.args.errors.now) (contents c.report_text.new.errors)
    c.status-status.result c.args.refusal refusal c.in-Several.is c.status-status.ensures.value
    (c.report_text.ensures (several_text refusal) c.several_text.ensures)
