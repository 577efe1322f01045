-- What is reported on standard error.
use Rattle.std.proofs.Common.{◌≡◌, ℕ, List, [], ◌∷◌, Option, refl, sym, ap}
use Rattle.std.proofs.Common.{subst, arith, append_assoc, ◌∙◌}
use Rattle.std.specs.Prelude.{◌++◌, codes}
use Rattle.std.proofs.KnownBytes.{Appends-nil}
use Rattle.clap.specs.declared.error.kind.ErrorKind.{ErrorKind}
use Rattle.clap.specs.declared.error.kind.ErrorKind.TheVariants as kind
use Rattle.flow_report.specs.declared.refusal.Refusal.{Refusal}
use Rattle.flow_report.specs.Printed.{printed, line_of}
use Rattle.flow_program.specs.Printed.{field_text, first_word, kind_text, told_lines}
use Rattle.flow_report.specs.Writing.{AppendsFront}
use Rattle.flow_program.specs.Run.{IsArchiveTold, IsRefusalTold}
use Rattle.flow_commands.specs.declared.archive_refusal.ArchiveRefusal.{ArchiveRefusal}
use Rattle.flow_commands.specs.Archives.{archive_printed}

pub nothing_told : (e : Refusal) (errors : Option (List ℕ)) → IsRefusalTold e errors errors
nothing_told e errors = (0, omega arith, Appends-nil errors)

pub line_told : (e : Refusal) (line : List ℕ) (before after : Option (List ℕ))
    → line ≡ told_lines (printed e) → AppendsFront before after line → IsRefusalTold e before after
line_told e line before after is told = subst (AppendsFront before after) is told

-- ---- of a command over an archive

pub nothing_told_of_archive : (e : ArchiveRefusal) (errors : Option (List ℕ)) → IsArchiveTold e errors errors
nothing_told_of_archive e errors = (0, omega arith, Appends-nil errors)

pub line_told_of_archive : (e : ArchiveRefusal) (line : List ℕ) (before after : Option (List ℕ))
    → line ≡ told_lines (archive_printed e) → AppendsFront before after line → IsArchiveTold e before after
line_told_of_archive e line before after is told = subst (AppendsFront before after) is told

-- ---- the lines of a refusal's text

-- a refusal's text, then the number that `explain` is to be given
abbrev told_bytes : List ℕ → List ℕ → List ℕ
told_bytes text word =
    codes "flowvault: " ++ (text ++ (codes "\nflowvault: see: flowvault explain " ++ (word ++ codes "\n")))

pub two_lines : (text word bytes : List ℕ) → bytes ≡ told_bytes text word → word ≡ first_word text
    → bytes ≡ told_lines text
two_lines text word bytes e f =
    e ∙ ap (λ (w : List ℕ). told_bytes text w) f
    ∙ ap (λ (x : List ℕ). codes "flowvault: " ++ x)
    (sym (append_assoc text (codes "\n") (line_of (codes "see: flowvault explain " ++ first_word text))))

-- ---- the line for a name that no field has

abbrev named_bytes : List ℕ → List ℕ
named_bytes name =
    codes "flowvault: --csv names fields as --json does: no field is named '" ++ (name ++ codes "'\n")

pub field_told : (given name bytes : List ℕ) → bytes ≡ named_bytes given → given ≡ name
    → bytes ≡ line_of (field_text name)
field_told given name bytes e same =
    e ∙ ap named_bytes same
    ∙ ap (λ (x : List ℕ). codes "flowvault: --csv names fields as --json does: no field is named '" ++ x)
    (sym (append_assoc name (codes "'") (10 ∷ [])))

-- ---- the line of each kind of wrong words

pub kind_is : (k known : ErrorKind) → k ≡ known → line_of (kind_text known) ≡ line_of (kind_text k)
kind_is k known is = ap (λ (x : ErrorKind). line_of (kind_text x)) (sym is)

pub other_kind : (k : ErrorKind) → (k ≡ kind.MissingRequiredArgument → ⊥) → (k ≡ kind.MissingSubcommand → ⊥)
    → line_of (kind_text kind.UnknownArgument) ≡ line_of (kind_text k)
other_kind kind.InvalidValue a b = refl
other_kind kind.UnknownArgument a b = refl
other_kind kind.InvalidSubcommand a b = refl
other_kind kind.NoEquals a b = refl
other_kind kind.ValueValidation a b = refl
other_kind kind.TooManyValues a b = refl
other_kind kind.TooFewValues a b = refl
other_kind kind.WrongNumberOfValues a b = refl
other_kind kind.ArgumentConflict a b = refl
other_kind kind.MissingRequiredArgument a b = absurd (a refl)
other_kind kind.MissingSubcommand a b = absurd (b refl)
other_kind kind.DisplayHelp a b = refl
other_kind kind.DisplayHelpOnMissingArgumentOrSubcommand a b = refl
other_kind kind.DisplayVersion a b = refl
other_kind kind.Io a b = refl
other_kind kind.Format a b = refl
other_kind kind.OutOfMemory a b = refl
