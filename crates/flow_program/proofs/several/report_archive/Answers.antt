use Rattle.std.proofs.Common.{ℕ, subst}
use Rattle.flow_commands.specs.Archives.{archive_printed}
use Rattle.flow_report.specs.Writing.{AppendsFront}
use Rattle.flow_program.specs.Printed.{told_lines}
use Rattle.flow_program.specs.Several.{numbered, text_reported}
use Rattle.flow_program.proofs.several.report_archive.Goals as goal

pub returns-clause-reported : goal.returns-clause-reported
returns-clause-reported g c =
    let contents = g.E.Write.contents in
    let text = numbered (archive_printed c.args.refusal.now) c.args.number in
    subst (λ (s : ℕ). AppendsFront (contents c.args.errors.now) (contents c.report_text.new.errors)
    (told_lines (text_reported s text))) c.status-status.ensures.value
    (c.report_text.ensures text c.folder_text.ensures)
