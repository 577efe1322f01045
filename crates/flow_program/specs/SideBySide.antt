-- Archives of which several are checked at once: their folders are opened first.
use Rattle.std.specs.Prelude.{◌≡◌, ◌⊎◌, ℕ, Bool, false, List, length, take, Vec, Result, Ok, Err, IfOk, IsTrue}
use Rattle.std.specs.Prelude.{MatchResult}
use Rattle.std.specs.List.{AllZip}
use Rattle.flow_commands.specs.declared.archive_refusal.ArchiveRefusal.{ArchiveRefusal}
use Rattle.flow_commands.specs.declared.archive_refusal.ArchiveRefusal.TheVariants.{OutOfMemory}
use Rattle.flow_commands.specs.Archives.{of_folder}
use Rattle.flow_disk.specs.declared.disk.Disk.{Ghosts}
use Rattle.flow_folder.specs.declared.system.FolderError.{FolderError}
use Rattle.flow_manifest.specs.Slots.{reads_of}
use Rattle.flow_several.specs.Folders.{Path}
use Rattle.flow_several.specs.SideBySide.{Awaits}
use Rattle.flow_program.specs.Checks.{AreChecked, AreCheckLines, HasOpeningCause, IsNotChecked, Outcome}

-- ---- one archive

-- what `check` writes of it into memory, or why that is refused
abbrev pub outcome_of : {A : Type 0} → Result (Vec ℕ A) ArchiveRefusal → Outcome
outcome_of (Ok text) = Ok text.items
outcome_of (Err e) = Err e

-- the folder at a path was opened as this disk, or refused for this reason
abbrev pub IsOpened : {D : Type 0} → (Path → D → Type 0) → (Path → FolderError → Type 0) → Path
    → Result D FolderError → Type 0
IsOpened opens refuses path folder = MatchResult folder (opens path) (refuses path)

-- nothing is frozen of a disk that was opened
abbrev pub MayBeChecked : {D S X : Type 0} → Ghosts D S X → Result D FolderError → Type 0
MayBeChecked g folder = IfOk folder (λ d. (n : ℕ) → (g.marks d n).frozen ≡ false)

-- the outcome of the check of a folder that was opened as this disk, or refused for this reason
abbrev pub IsAnswerOf : {D S X : Type 0} → Ghosts D S X → Bool → Result D FolderError → Outcome → Type 0
IsAnswerOf g files (Ok d) (Ok text) =
    AreCheckLines files text × HasOpeningCause g d (Ok text)
    × (IsTrue (g.honest d) → AreChecked files (reads_of (g.held d)) text)
IsAnswerOf g files (Ok d) (Err e) =
    HasOpeningCause g d (Err e) × (IsTrue (g.honest d) → IsNotChecked files (reads_of (g.held d)) e)
IsAnswerOf g files (Err why) o = o ≡ Err (of_folder why)

-- An outcome as it is reported: as it is, or for the lines of a text no memory was found.
abbrev pub IsReportedAs : Outcome → Outcome → Type 0
IsReportedAs (Ok text) o = (o ≡ Ok text) ⊎ (o ≡ Err OutOfMemory)
IsReportedAs (Err e) o = o ≡ Err e

-- ---- several

-- Of these folders the first were opened, and of those the outcomes of the first are there, and the others are left.
abbrev pub AreAhead : {D S X A : Type 0} → Ghosts D S X → (Path → D → Type 0) → (Path → FolderError → Type 0) → Bool
    → List (Result (Vec ℕ A) ArchiveRefusal) → List (Result D FolderError) → List Path → Type 0
AreAhead {D} g opens refuses files answers left folders =
    (opened : List (Result D FolderError))
    × AllZip (IsOpened opens refuses) (take (length opened) folders) opened
    × Awaits (λ folder answer. IsAnswerOf g files folder (outcome_of answer)) answers left opened
