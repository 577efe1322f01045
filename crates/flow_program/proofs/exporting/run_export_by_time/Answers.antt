use Rattle.std.proofs.Common.{◌∙◌, ap, inl, inr, subst}
use Rattle.std.proofs.KnownBytes.{Keeps-refl}
use Rattle.flow_commands.specs.declared.archive_refusal.ArchiveRefusal.{ArchiveRefusal}
use Rattle.flow_commands.specs.Archives.{archive_printed, archive_status}
use Rattle.flow_commands.specs.Plans.{Span}
use Rattle.flow_export.specs.declared.starting.TimeSpan.{TimeSpan}
use Rattle.flow_report.specs.Writing.{AppendsFront}
use Rattle.flow_program.specs.Printed.{told_lines}
use Rattle.flow_program.proofs.exporting.run_export_by_time.Goals as goal

-- the seconds of a span
abbrev time_in : Span → TimeSpan
time_in s = record { from = s.from; to = s.to }

pub returns-in-Ok-clause-runs : goal.returns-in-Ok-clause-runs
returns-in-Ok-clause-runs g c =
    let found = c.in-Ok.ensures.found in
    inl (found.0, rw (c.time_of-time.ensures ∙ ap time_in found.1) at c.export_time.ensures.runs)

pub returns-in-Err-clause-runs : goal.returns-in-Err-clause-runs
returns-in-Err-clause-runs g c =
    let contents = g.E.Write.contents in
    inr (
      c.in-Err.ensures.relative,
      c.tell_of_archive.ensures.status ∙ ap archive_status c.in-Err.ensures.refused,
      subst (λ (e : ArchiveRefusal). AppendsFront (contents c.args.errors.now)
          (contents c.tell_of_archive.new.errors) (told_lines (archive_printed e))) c.in-Err.ensures.refused
          c.tell_of_archive.ensures.told,
      Keeps-refl (g.W.Write.contents c.args.output.now),
    )
