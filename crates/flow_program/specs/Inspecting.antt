-- What a run of `inspect` that is given Files answers.
use Rattle.std.specs.Prelude.{◌≡◌, ◌<◌, ◌⊎◌, ℕ, zero, suc, nat_eq, Bool, List, [], ◌++◌, Option, Some, None, IfSome}
use Rattle.std.specs.Prelude.{codes, if◌then◌else◌, length}
use Rattle.std.specs.Fmt.{decimal}
use Rattle.std.specs.Io.KnownBytes.{Appends, Keeps}
use Rattle.std.specs.List.{position_or_len}
use Rattle.std.specs.Str.{bytes_eq}
use Rattle.clap.specs.Walk.{Text}
use Rattle.flow_report.specs.declared.format.Format.{Format}
use Rattle.flow_report.specs.declared.refusal.Refusal.{Refusal}
use Rattle.flow_report.specs.Measure.{IsRefusedBy}
use Rattle.flow_report.specs.Printed.{printed}
use Rattle.flow_report.specs.Refusals.{status_of}
use Rattle.flow_report.specs.Writing.{AppendsFront}
use Rattle.flow_inspect.specs.Inspect.{AreOf, HasFileLines, KeepsOrFrontOfFile}
use Rattle.flow_program.specs.Printed.{told_lines}

-- ---- which octets are known

-- a path is that of standard input
abbrev pub is_input : Text → Bool
is_input path = bytes_eq path (codes "-")

-- what is known of the octets of the File at a path: those that standard input has, where the path is its own
abbrev pub known_at : Option (List ℕ) → Text → Option (List ℕ)
known_at input path = if is_input path then input else None

-- the same of the File at a place among others: standard input is read by the first of them that is its own
abbrev pub known_of : Option (List ℕ) → List Text → ℕ → Option (List ℕ)
known_of input files place = if nat_eq place (position_or_len is_input files) then input else None

-- ---- what is written

-- the lines of the first `count` of Files, each of which is accepted whole, in their order
abbrev pub AreLinesOf : Format → Option (List ℕ) → List Text → ℕ → List ℕ → Type 0
AreLinesOf format input files zero text = text ≡ []
AreLinesOf format input files (suc count) text =
    (before : List ℕ) × (octets : List ℕ) × (lines : List ℕ) × AreLinesOf format input files count before
    × AreOf (known_of input files count) octets × HasFileLines format (Some (suc count)) octets lines
    × (text ≡ before ++ lines)

-- they were written
abbrev pub WritesFiles : Format → Option (List ℕ) → List Text → ℕ → Option (List ℕ) → Option (List ℕ) → Type 0
WritesFiles format input files count old new =
    (text : List ℕ) × AreLinesOf format input files count text × Appends old new text

-- after them nothing of the next File, which is refused; or, where writing failed, a prefix of its lines
abbrev pub WritesFilesBefore : Format → Option (List ℕ) → List Text → ℕ → Option (List ℕ) → Option (List ℕ) → Refusal
    → Type 0
WritesFilesBefore format input files count old new e =
    (here : Option (List ℕ)) × WritesFiles format input files count old here
    × KeepsOrFrontOfFile format (Some (suc count)) (known_of input files count) here new e

-- ---- refusals

-- the text of the refusal of the File of this number
abbrev pub file_printed : Refusal → ℕ → List ℕ
file_printed e number = printed e ++ codes " file " ++ decimal number

-- its lines came on standard error, or a prefix of them where that could be written no further
abbrev pub IsFileTold : Refusal → ℕ → Option (List ℕ) → Option (List ℕ) → Type 0
IsFileTold e number before after = AppendsFront before after (told_lines (file_printed e number))

-- after the first `count` Files the next one is refused, and nothing is read after it
abbrev pub StopsAfter : Format → List Text → ℕ → Option (List ℕ) → Option (List ℕ) → Option (List ℕ)
    → Option (List ℕ) → Refusal → Type 0
StopsAfter format files count input left old new e =
    (count < length files) × IfSome (known_of input files count) (λ octets. IsRefusedBy octets left e)
    × WritesFilesBefore format input files count old new e

-- ---- how a run ends

-- The lines of all Files were written, with status 0; or one of them was refused, which is reported with its number.
abbrev pub InspectEnds : Format → List Text → Option (List ℕ) → Option (List ℕ) → Option (List ℕ) → Option (List ℕ)
    → Option (List ℕ) → Option (List ℕ) → ℕ → Type 0
InspectEnds format files input left old new before after status =
    ((status ≡ 0) × Keeps before after × WritesFiles format input files (length files) old new)
    ⊎ ((e : Refusal) × (count : ℕ) × (status ≡ status_of e) × IsFileTold e (suc count) before after
    × StopsAfter format files count input left old new e)
