use Rattle.std.proofs.Common.{◌≡◌, ◌∙◌, ℕ, Result, Ok, Err, ap, subst, sym}
use Rattle.flow_commands.specs.declared.archive_refusal.ArchiveRefusal.{ArchiveRefusal}
use Rattle.flow_report.specs.Writing.{AppendsFront}
use Rattle.flow_program.specs.Exporting.{archive_refusal, printed_of, rolled_printed, status_of}
use Rattle.flow_program.specs.Printed.{told_lines}
use Rattle.flow_program.specs.Several.{text_reported}
use Rattle.flow_program.proofs.exporting.report_export.Goals as goal

pub returns-in-Ok-clause-status : goal.returns-in-Ok-clause-status
returns-in-Ok-clause-status g c =
    c.tell_of_archive.ensures.status ∙ ap status_of (sym c.in-Ok.is ∙ c.archive_refusal.ensures)

pub returns-in-Ok-clause-reported : goal.returns-in-Ok-clause-reported
returns-in-Ok-clause-reported g c =
    let contents = g.E.Write.contents in
    let made : Ok c.in-Ok.refusal ≡ archive_refusal c.args.refusal = sym c.in-Ok.is ∙ c.archive_refusal.ensures in
    subst (λ (r : Result ArchiveRefusal ℕ). AppendsFront (contents c.args.errors.now)
    (contents c.tell_of_archive.new.errors) (told_lines (printed_of r))) made c.tell_of_archive.ensures.told

pub returns-in-Err-clause-status : goal.returns-in-Err-clause-status
returns-in-Err-clause-status g c =
    c.status-status.ensures.value ∙ ap status_of (sym c.in-Err.is ∙ c.archive_refusal.ensures)

pub returns-in-Err-clause-reported : goal.returns-in-Err-clause-reported
returns-in-Err-clause-reported g c =
    let contents = g.E.Write.contents in
    let cut = c.in-Err.cut in
    let made : Err cut ≡ archive_refusal c.args.refusal = sym c.in-Err.is ∙ c.archive_refusal.ensures in
    subst (λ (r : Result ArchiveRefusal ℕ). AppendsFront (contents c.args.errors.now)
    (contents c.report_text.new.errors) (told_lines (printed_of r))) made
    (subst (λ (s : ℕ). AppendsFront (contents c.args.errors.now) (contents c.report_text.new.errors)
    (told_lines (text_reported s (rolled_printed cut)))) c.status-status.ensures.value
    (c.report_text.ensures (rolled_printed cut) c.rolled_text.ensures))
