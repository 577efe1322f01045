-- What a run over several archives answers.
use Rattle.std.specs.Prelude.{◌≡◌, ◌⊎◌, ℕ, ◌++◌, ◌==◌, Bool, List, Option, codes, if◌then◌else◌, length, nat_lt}
use Rattle.std.specs.Prelude.{false, true}
use Rattle.std.specs.Fmt.{decimal}
use Rattle.std.specs.Io.KnownBytes.{Keeps}
use Rattle.std.specs.List.{after_first, before_first, position_or_len}
use Rattle.flow_commands.specs.declared.archive_refusal.ArchiveRefusal.{ArchiveRefusal}
use Rattle.flow_commands.specs.declared.archive_refusal.ArchiveRefusal.TheVariants as archive
use Rattle.flow_commands.specs.declared.folder_fault.FolderFault.TheVariants.{NoClock}
use Rattle.flow_commands.specs.Archives.{archive_printed, archive_status, of_folder}
use Rattle.flow_disk.specs.declared.disk.Disk.{Ghosts}
use Rattle.flow_folder.specs.declared.system.FolderError.{FolderError}
use Rattle.flow_refusals.specs.declared.code.RefusalCode.TheVariants as code
use Rattle.flow_refusals.specs.Table.{code_text}
use Rattle.flow_report.specs.declared.format.Format.{Format}
use Rattle.flow_report.specs.Writing.{AppendsFront}
use Rattle.flow_several.specs.Refusals.{several_status, several_text}
use Rattle.flow_several.specs.declared.asking.Question.{Question}
use Rattle.flow_several.specs.declared.asking.Wanted.{Wanted}
use Rattle.flow_several.specs.declared.asking.Wanted.TheVariants.{Totals, TotalsOfEach}
use Rattle.flow_several.specs.declared.folders_refusal.FoldersRefusal.{FoldersRefusal}
use Rattle.flow_several.specs.declared.folders_refusal.FoldersRefusal.TheVariants.{Folder, Several}
use Rattle.flow_several.specs.Folders.{AnswersFolders, AreFoldersRefused, KeepsOrRows, Path}
use Rattle.flow_several.specs.Questions.{AnswersRows}
use Rattle.flow_program.specs.Arguments.{depends_on_now, span_at}
use Rattle.flow_program.specs.declared.arguments.MomentSpan.{MomentSpan}
use Rattle.flow_program.specs.Printed.{told_lines}

-- ---- refusals

abbrev pub is_line_end : ℕ → Bool
is_line_end octet = octet == 10

-- a text has a line after its first
abbrev pub has_more_lines : List ℕ → Bool
has_more_lines text = nat_lt (position_or_len is_line_end text) (length text)

-- a refusal's text, with the number of the archive that is refused after its first line
abbrev pub numbered : List ℕ → ℕ → List ℕ
numbered text number =
    if has_more_lines text then before_first is_line_end text
    ++ (codes " archive " ++ (decimal number ++ (codes "\n" ++ after_first is_line_end text)))
    else text ++ (codes " archive " ++ decimal number)

-- the number, the name and what the refusal carries, and which archive is refused
abbrev pub folders_printed : FoldersRefusal → List ℕ
folders_printed (Folder number e) = numbered (archive_printed (of_folder e)) number
folders_printed (Several e) = several_text e

abbrev pub folders_status : FoldersRefusal → ℕ
folders_status (Folder number e) = archive_status (of_folder e)
folders_status (Several e) = several_status e

-- what is reported, by the status: that memory ran out without more
abbrev pub text_reported : ℕ → List ℕ → List ℕ
text_reported status printed = if status == 4 then code_text code.OutOfMemory else printed

-- what is reported of the archive with this number
abbrev pub refused_text : ℕ → ArchiveRefusal → List ℕ
refused_text number e = text_reported (archive_status e) (numbered (archive_printed e) number)

-- its lines came on standard error, or a prefix of them
abbrev pub AreFoldersReported : FoldersRefusal → Option (List ℕ) → Option (List ℕ) → Type 0
AreFoldersReported e before after =
    AppendsFront before after (told_lines (text_reported (folders_status e) (folders_printed e)))

-- ---- how a run ends

-- the system's clock can't be read
abbrev pub no_clock : ArchiveRefusal
no_clock = archive.Folder NoClock

-- what is wanted of totals: of each archive, or of all together
abbrev pub totals_wanted : Bool → Wanted
totals_wanted true = TotalsOfEach
totals_wanted false = Totals

-- what is asked, where it is now the second `now`
abbrev pub question_at : ℕ → MomentSpan → Wanted → Format → Question
question_at now span wanted format =
    record { from = (span_at now span).from; to = (span_at now span).to; wanted = wanted; format = format }

-- What was asked is answered, with status 0 and nothing on standard error; or that is refused, and reported; or no time
-- is known, on which the span depends.
abbrev pub QuestionEnds : (Question → Type 0) → (Question → FoldersRefusal → Type 0) → MomentSpan → Wanted → Format
    → Option (List ℕ) → Option (List ℕ) → Option (List ℕ) → Option (List ℕ) → ℕ → Type 0
QuestionEnds answered refused span wanted format old new before after status =
    ((now : ℕ) × (status ≡ 0) × Keeps before after × answered (question_at now span wanted format))
    ⊎ (((now : ℕ) × (e : FoldersRefusal) × (status ≡ folders_status e) × AreFoldersReported e before after
    × refused (question_at now span wanted format) e)
    ⊎ ((depends_on_now span ≡ true) × (status ≡ archive_status no_clock)
    × AppendsFront before after (told_lines (archive_printed no_clock)) × Keeps old new))

-- By the disks of the folders: `g` are those of their kind, `opens` says which is that of a path, `refuses` why there is
-- none.
abbrev pub FoldersEnd : {D S X : Type 0} → Ghosts D S X → (Path → D → Type 0) → (Path → FolderError → Type 0)
    → List Path → MomentSpan → Wanted → Format → Option (List ℕ) → Option (List ℕ) → Option (List ℕ) → Option (List ℕ)
    → ℕ → Type 0
FoldersEnd g opens refuses folders span wanted format old new before after status =
    QuestionEnds (λ q. AnswersFolders g opens q folders old new)
    (λ q e. AreFoldersRefused g opens refuses q folders old new e) span wanted format old new before after status

-- whatever the disks: the lines of rows, or flows, of so many archives, of starts in the span that was asked for
abbrev pub SeveralEnd : ℕ → MomentSpan → Wanted → Format → Option (List ℕ) → Option (List ℕ) → Option (List ℕ)
    → Option (List ℕ) → ℕ → Type 0
SeveralEnd count span wanted format old new before after status =
    QuestionEnds (λ q. AnswersRows q count old new) (λ q e. KeepsOrRows q count old new e) span wanted format old new
    before after status
