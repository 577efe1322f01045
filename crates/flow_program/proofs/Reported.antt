-- What is reported of several archives.
use Rattle.std.proofs.Common.{◌≡◌, ◌∙◌, inl, inr, ℕ, true, List, Option, refl, ap, sym, subst}
use Rattle.std.proofs.KnownBytes.{Keeps-refl}
use Rattle.flow_report.specs.Writing.{AppendsFront}
use Rattle.flow_program.specs.Printed.{told_lines}
use Rattle.flow_commands.specs.Archives.{archive_printed, archive_status, of_folder}
use Rattle.flow_several.specs.Refusals.{several_status, several_text}
use Rattle.flow_commands.specs.declared.archive_refusal.ArchiveRefusal.{ArchiveRefusal}
use Rattle.flow_folder.specs.declared.system.FolderError.{FolderError}
use Rattle.flow_report.specs.declared.format.Format.{Format}
use Rattle.flow_several.specs.declared.refusal.SeveralRefusal.{SeveralRefusal}
use Rattle.flow_several.specs.declared.asking.Question.{Question}
use Rattle.flow_several.specs.declared.asking.Wanted.{Wanted}
use Rattle.flow_several.specs.declared.folders_refusal.FoldersRefusal.{FoldersRefusal}
use Rattle.flow_several.specs.declared.folders_refusal.FoldersRefusal.TheVariants.{Folder, Several}
use Rattle.flow_program.specs.declared.arguments.MomentSpan.{MomentSpan}
use Rattle.flow_program.specs.Arguments.{depends_on_now}
use Rattle.flow_program.specs.Several.{no_clock, question_at, refused_text, text_reported}
use Rattle.flow_program.specs.Several.{AreFoldersReported, QuestionEnds}

module _ (before after : Option (List ℕ)) (status : ℕ) (r : FoldersRefusal) where
  pub folder_reported : (number : ℕ) (e : FolderError) (a : ArchiveRefusal) → r ≡ Folder number e → a ≡ of_folder e
      → AppendsFront before after (told_lines (refused_text number a)) → AreFoldersReported r before after
  folder_reported number e a is made reported =
      subst (λ (r : FoldersRefusal). AreFoldersReported r before after) (sym is)
      (subst (λ (a : ArchiveRefusal). AppendsFront before after (told_lines (refused_text number a))) made reported)

  pub several_reported : (e : SeveralRefusal) → r ≡ Several e → status ≡ several_status e
      → AppendsFront before after (told_lines (text_reported status (several_text e)))
      → AreFoldersReported r before after
  several_reported e is by reported =
      subst (λ (r : FoldersRefusal). AreFoldersReported r before after) (sym is)
      (subst (λ (s : ℕ). AppendsFront before after (told_lines (text_reported s (several_text e)))) by reported)

-- what was asked is answered
pub is_answered : (answered : Question → Type 0) (refused : Question → FoldersRefusal → Type 0) (span : MomentSpan)
    (wanted : Wanted) (format : Format) (old new before : Option (List ℕ)) (now : ℕ) (q : Question)
    → q ≡ question_at now span wanted format → answered q
    → QuestionEnds answered refused span wanted format old new before before 0
is_answered answered refused span wanted format old new before now q is done =
    inl (now, refl, Keeps-refl before, subst answered is done)

-- no time is known, and nothing is written
pub without_clock : (answered : Question → Type 0) (refused : Question → FoldersRefusal → Type 0) (span : MomentSpan)
    (wanted : Wanted) (format : Format) (output before after : Option (List ℕ)) (status : ℕ) (e : ArchiveRefusal)
    → depends_on_now span ≡ true → e ≡ no_clock → status ≡ archive_status e
    → AppendsFront before after (told_lines (archive_printed e))
    → QuestionEnds answered refused span wanted format output output before after status
without_clock answered refused span wanted format output before after status e relative is by reported =
    inr (inr (
      relative,
      by ∙ ap archive_status is,
      subst (λ (e : ArchiveRefusal). AppendsFront before after (told_lines (archive_printed e))) is reported,
      Keeps-refl output,
    ))
