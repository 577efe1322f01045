-- What a run of `check` over several archives answers.
use Rattle.std.specs.Prelude.{◌≡◌, ◌⊎◌, ⊤, ℕ, ◌+◌, ◌==◌, max, Bool, true, false, List, [], ◌∷◌, ◌++◌, Option}
use Rattle.std.specs.Prelude.{Result, Ok, Err, if◌then◌else◌, IsTrue}
use Rattle.std.specs.Fmt.{decimal}
use Rattle.std.specs.Io.KnownBytes.{Appends, Keeps}
use Rattle.std.specs.List.{AllZip}
use Rattle.flow_commands.specs.declared.archive_refusal.ArchiveRefusal.{ArchiveRefusal}
use Rattle.flow_commands.specs.declared.archive_refusal.ArchiveRefusal.TheVariants.{Opening, OutOfMemory, Write}
use Rattle.flow_commands.specs.declared.checking.Standing.{Standing}
use Rattle.flow_commands.specs.ArchiveFiles.{AreFileLines, AreListings}
use Rattle.flow_commands.specs.Archives.{archive_status, of_folder}
use Rattle.flow_commands.specs.Asking.{IsNotAsked, IsNotFound}
use Rattle.flow_commands.specs.Check.{standing_line, standing_of}
use Rattle.flow_disk.specs.declared.disk.Disk.{Ghosts}
use Rattle.flow_disk.specs.Cause.{HasCause}
use Rattle.flow_folder.specs.declared.system.FolderError.{FolderError}
use Rattle.flow_manifest.specs.declared.error.OpenError.TheVariants.{Fault as OpenFault}
use Rattle.flow_manifest.specs.Slots.{reads_of}
use Rattle.flow_model.specs.Standing.{StandsFor}
use Rattle.flow_model.specs.State.{State}
use Rattle.flow_report.specs.declared.patient.WriteFailed.{WriteFailed}
use Rattle.flow_report.specs.declared.refusal.Refusal.TheVariants as refusal
use Rattle.flow_report.specs.Printed.{printed}
use Rattle.flow_report.specs.Refusals.{status_of}
use Rattle.flow_report.specs.Writing.{AppendsFront}
use Rattle.flow_several.specs.Folders.{Path}
use Rattle.flow_snapshot.specs.Totals.{SumsFit}
use Rattle.flow_program.specs.Printed.{told_lines}
use Rattle.flow_program.specs.Several.{refused_text}

-- ---- one archive

-- a refusal of what writes a text into memory: there is no more where that fails
abbrev pub without_room : ArchiveRefusal → ArchiveRefusal
without_room (Write failed) = OutOfMemory
without_room e = e

-- what `check` writes of an archive: its line; or, with its files, that and theirs
abbrev pub AreChecked : Bool → (ℕ → List ℕ) → List ℕ → Type 0
AreChecked false reads text = (s : State) × StandsFor reads s × (text ≡ standing_line (standing_of s))
AreChecked true reads text = AreFileLines reads text

-- Why an archive isn't well, or nothing is known of it: as `check` of one is refused, with its files or without.
abbrev pub IsNotChecked : Bool → (ℕ → List ℕ) → ArchiveRefusal → Type 0
IsNotChecked false reads e = IsNotAsked reads e
IsNotChecked true reads e = IsNotFound SumsFit reads e

-- whatever the disk: a line of four numbers; or, with the files, lines of files after it
abbrev pub AreCheckLines : Bool → List ℕ → Type 0
AreCheckLines false text = (t : Standing) × (text ≡ standing_line t)
AreCheckLines true text = AreListings text

-- ---- the archive of a folder

-- what `check` writes of it alone, or why that is refused
abbrev pub Outcome : Type 0
Outcome = Result (List ℕ) ArchiveRefusal

-- A fault of opening is answered exactly where a call of the disk failed, which was one and is another.
abbrev pub HasOpeningCause : {D S X : Type 0} → Ghosts D S X → D → Outcome → Type 0
HasOpeningCause {D} g before o = (after : D) × HasCause (Opening OpenFault) (g.faults before) (g.faults after) o

-- Of the folder at a path: the lines of what is read of its disk; or it can't be opened, or the archive is refused.
abbrev pub IsOutcome : {D S X : Type 0} → Ghosts D S X → (Path → D → Type 0) → (Path → FolderError → Type 0) → Bool
    → Path → Outcome → Type 0
IsOutcome {D} g opens refuses files path (Ok text) =
    AreCheckLines files text
    × ((d : D) × opens path d × HasOpeningCause g d (Ok text)
    × (IsTrue (g.honest d) → AreChecked files (reads_of (g.held d)) text))
IsOutcome {D} g opens refuses files path (Err e) =
    ((why : FolderError) × refuses path why × (e ≡ of_folder why))
    ⊎ ((d : D) × opens path d × HasOpeningCause g d (Err e)
    × (IsTrue (g.honest d) → IsNotChecked files (reads_of (g.held d)) e))

-- whatever the disks
abbrev pub MayBeOutcome : Bool → Path → Outcome → Type 0
MayBeOutcome files path (Ok text) = AreCheckLines files text
MayBeOutcome files path (Err e) = ⊤

-- ---- what is written

-- what is before an octet that begins a line: the archive's number
abbrev pub number_before : ℕ → Bool → List ℕ
number_before number begins = if begins then decimal number ++ 32 ∷ [] else []

-- a text, with an archive's number before each of its lines
abbrev pub numbered_lines : ℕ → Bool → List ℕ → List ℕ
numbered_lines number begins [] = []
numbered_lines number begins (octet ∷ rest) =
    number_before number begins ++ octet ∷ numbered_lines number (octet == 10) rest

-- on standard output, of the archive with this number: its lines, and nothing where it is refused
abbrev pub text_of : ℕ → Outcome → List ℕ
text_of number (Ok text) = numbered_lines number true text
text_of number (Err e) = []

-- of several, of which the first has this number
abbrev pub texts_of : ℕ → List Outcome → List ℕ
texts_of number [] = []
texts_of number (o ∷ os) = text_of number o ++ texts_of (number + 1) os

-- on standard error: the lines of its refusal, or a prefix of them where these could be written no further
abbrev pub IsReported : ℕ → Outcome → Option (List ℕ) → Option (List ℕ) → Type 0
IsReported number (Ok text) before after = Keeps before after
IsReported number (Err e) before after = AppendsFront before after (told_lines (refused_text number e))

abbrev pub AreReported : ℕ → List Outcome → Option (List ℕ) → Option (List ℕ) → Type 0
AreReported number [] before after = Keeps before after
AreReported number (o ∷ os) before after =
    (mid : Option (List ℕ)) × IsReported number o before mid × AreReported (number + 1) os mid after

-- ---- the status

abbrev pub status_in : Outcome → ℕ
status_in (Ok text) = 0
status_in (Err e) = archive_status e

-- the greatest of a status and those of the archives: 5, that one is damaged, is the greatest of all
abbrev pub greatest_from : ℕ → List Outcome → ℕ
greatest_from status [] = status
greatest_from status (o ∷ os) = greatest_from (max status (status_in o)) os

-- ---- how a run ends

-- Each archive is checked, whatever came of those before it; or writing failed in the lines of one, and that is
-- reported after what is of those before it.
abbrev pub ChecksEnd : (Path → Outcome → Type 0) → List Path → Option (List ℕ) → Option (List ℕ) → Option (List ℕ)
    → Option (List ℕ) → ℕ → Type 0
ChecksEnd is folders old new before after status =
    ((all : List Outcome) × AllZip is folders all × Appends old new (texts_of 1 all) × AreReported 1 all before after
    × (status ≡ greatest_from 0 all))
    ⊎ ((first : List Path) × (rest : List Path) × (some : List Outcome) × (mid : Option (List ℕ))
    × (failed : WriteFailed) × (folders ≡ first ++ rest) × AllZip is first some
    × AppendsFront old new (texts_of 1 some) × AreReported 1 some before mid
    × AppendsFront mid after (told_lines (printed (refusal.Write failed)))
    × (status ≡ status_of (refusal.Write failed)))
