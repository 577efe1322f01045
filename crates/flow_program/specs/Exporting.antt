-- What a run of `export` or `templates` answers.
use Rattle.std.specs.Prelude.{◌≡◌, ◌⊎◌, ℕ, ◌++◌, true, List, Option, Result, Ok, Err, codes}
use Rattle.std.specs.Fmt.{decimal}
use Rattle.std.specs.Io.KnownBytes.{Keeps}
use Rattle.flow_commands.specs.declared.archive_refusal.ArchiveRefusal.{ArchiveRefusal}
use Rattle.flow_commands.specs.declared.archive_refusal.ArchiveRefusal.TheVariants as archive
use Rattle.flow_commands.specs.Archives.{archive_printed, archive_status, of_folder, of_opening, of_query}
use Rattle.flow_disk.specs.declared.disk.Disk.{Ghosts}
use Rattle.flow_export.specs.declared.starting.TimeSpan.{TimeSpan}
use Rattle.flow_export.specs.Export.{AreTemplates, Writes}
use Rattle.flow_export.specs.Span.{IsSomeSpanExport}
use Rattle.flow_export.specs.declared.archive_refusal.ArchiveExportRefusal.{ArchiveExportRefusal}
use Rattle.flow_export.specs.declared.archive_refusal.ArchiveExportRefusal.TheVariants.{Folder, Opening, Query}
use Rattle.flow_export.specs.declared.archive_refusal.ArchiveExportRefusal.TheVariants.{Rolled, Write}
use Rattle.flow_export.specs.declared.span.MessageSpan.{MessageSpan}
use Rattle.flow_export.specs.Asked.{ExportsIn, IsExportOfSome, TemplatesIn, WritesOrNot, WritesUpTo}
use Rattle.flow_export.specs.ByTime.{ExportsByTimeIn, WritesByTime}
use Rattle.flow_refusals.specs.declared.code.RefusalCode.TheVariants as code
use Rattle.flow_refusals.specs.Table.{code_text, row_of}
use Rattle.flow_report.specs.Writing.{AppendsFront}
use Rattle.flow_program.specs.Arguments.{depends_on_now, span_at}
use Rattle.flow_program.specs.declared.arguments.MomentSpan.{MomentSpan}
use Rattle.flow_program.specs.Printed.{told_lines}
use Rattle.flow_program.specs.Several.{no_clock}

-- messages up to this one are in sums alone
abbrev pub rolled_printed : ℕ → List ℕ
rolled_printed cut = code_text code.Rolled ++ (codes " " ++ decimal cut)

-- a refusal of a command over an archive, or else the number of the last message that is in sums alone
abbrev pub archive_refusal : ArchiveExportRefusal → Result ArchiveRefusal ℕ
archive_refusal (Folder e) = Ok (of_folder e)
archive_refusal (Opening e) = Ok (of_opening e)
archive_refusal (Query e) = Ok (of_query e)
archive_refusal (Write failed) = Ok (archive.Write failed)
archive_refusal (Rolled cut) = Err cut

abbrev pub printed_of : Result ArchiveRefusal ℕ → List ℕ
printed_of (Ok e) = archive_printed e
printed_of (Err cut) = rolled_printed cut

abbrev pub status_of : Result ArchiveRefusal ℕ → ℕ
status_of (Ok e) = archive_status e
status_of (Err cut) = (row_of code.Rolled).status

-- the number, the name and what the refusal carries
abbrev pub export_printed : ArchiveExportRefusal → List ℕ
export_printed e = printed_of (archive_refusal e)

abbrev pub export_status : ArchiveExportRefusal → ℕ
export_status e = status_of (archive_refusal e)

-- its lines came on standard error, or a prefix of them
abbrev pub IsExportReported : ArchiveExportRefusal → Option (List ℕ) → Option (List ℕ) → Type 0
IsExportReported e before after = AppendsFront before after (told_lines (export_printed e))

-- Such octets were written, with status 0 and nothing on standard error; or that is refused, and reported.
abbrev pub ExportEnds : Type 0 → (ArchiveExportRefusal → Type 0) → Option (List ℕ) → Option (List ℕ) → ℕ → Type 0
ExportEnds done refused before after status =
    ((status ≡ 0) × Keeps before after × done)
    ⊎ ((e : ArchiveExportRefusal) × (status ≡ export_status e) × IsExportReported e before after × refused e)

-- `export` of these messages: of a folder that is read as some disk of the kind `g` just these. Whatever the disk:
-- messages that restate some templates, and then one message for each number that is asked for and is there, each whole
-- by its own header, of an archive with some cut and some last message; or a prefix of such octets, or nothing.
abbrev pub MessagesEnd : {D S X : Type 0} → Ghosts D S X → MessageSpan → Option (List ℕ) → Option (List ℕ)
    → Option (List ℕ) → Option (List ℕ) → ℕ → Type 0
MessagesEnd g span old new before after status =
    ExportEnds (Writes (IsExportOfSome span) old new × ExportsIn g span old new (Ok tt))
    (λ e. WritesUpTo (IsExportOfSome span) span old new e × ExportsIn g span old new (Err e)) before after status

-- the seconds of a span, where it is now the second `now`
abbrev pub time_at : ℕ → MomentSpan → TimeSpan
time_at now span = record { from = (span_at now span).from; to = (span_at now span).to }

-- `export` of a span, likewise: just the messages of it, and whatever the disk messages that restate some templates,
-- and then whole messages, each of which holds Sets of template records, or has a flow that starts in the span under
-- some templates; or a prefix of such octets, or nothing.
abbrev pub TimeEnd : {D S X : Type 0} → Ghosts D S X → TimeSpan → Option (List ℕ) → Option (List ℕ)
    → Option (List ℕ) → Option (List ℕ) → ℕ → Type 0
TimeEnd g span old new before after status =
    ExportEnds (Writes (IsSomeSpanExport span.from span.to) old new × ExportsByTimeIn g span old new (Ok tt))
    (λ e. WritesByTime span old new e × ExportsByTimeIn g span old new (Err e)) before after status

-- no time is known, on which the span depends
abbrev pub HasNoTime : MomentSpan → Option (List ℕ) → Option (List ℕ) → Option (List ℕ) → Option (List ℕ) → ℕ → Type 0
HasNoTime span old new before after status =
    (depends_on_now span ≡ true) × (status ≡ archive_status no_clock)
    × AppendsFront before after (told_lines (archive_printed no_clock)) × Keeps old new

-- Its seconds are those of some second that it is now, of which no contract knows more; of a span that doesn't depend
-- on it they are its own.
abbrev pub ByTimeEnd : {D S X : Type 0} → Ghosts D S X → MomentSpan → Option (List ℕ) → Option (List ℕ)
    → Option (List ℕ) → Option (List ℕ) → ℕ → Type 0
ByTimeEnd g span old new before after status =
    ((now : ℕ) × TimeEnd g (time_at now span) old new before after status)
    ⊎ HasNoTime span old new before after status

-- `templates`, likewise: just those in force, and whatever the disk messages that restate some templates, and nothing
-- else; or a prefix of such octets, or nothing
abbrev pub TemplatesEnd : {D S X : Type 0} → Ghosts D S X → Option (List ℕ) → Option (List ℕ) → Option (List ℕ)
    → Option (List ℕ) → ℕ → Type 0
TemplatesEnd g old new before after status =
    ExportEnds (Writes AreTemplates old new × TemplatesIn g old new (Ok tt))
    (λ e. WritesOrNot AreTemplates old new e × TemplatesIn g old new (Err e)) before after status
