-- What is exported of the archive on a disk.
use Rattle.std.specs.Prelude.{◌≡◌, ◌⊎◌, ⊤, ℕ, ◌+◌, ◌-◌, IsTrue, List, Option, Some, None, drop, length, min, nat_le}
use Rattle.std.specs.Prelude.{take}
use Rattle.std.specs.Prelude.{if◌then◌else◌, Result, Err, MatchResult}
use Rattle.std.specs.Option.{option_map_or}
use Rattle.std.specs.Io.KnownBytes.{Keeps}
use Rattle.flow_disk.specs.declared.disk.Disk.{Ghosts}
use Rattle.flow_disk.specs.Calls.{LeavesOnly}
use Rattle.flow_disk.specs.Disk.{AllImages}
use Rattle.flow_export.specs.declared.refusal.ExportRefusal.{ExportRefusal}
use Rattle.flow_export.specs.declared.refusal.ExportRefusal.TheVariants as export
use Rattle.flow_export.specs.Export.{IsExport, IsExportOf, IsReadAs, Writes}
use Rattle.flow_export.specs.declared.archive_refusal.ArchiveExportRefusal.{ArchiveExportRefusal}
use Rattle.flow_export.specs.declared.archive_refusal.ArchiveExportRefusal.TheVariants.{Folder, Opening, Query, Rolled}
use Rattle.flow_export.specs.declared.archive_refusal.ArchiveExportRefusal.TheVariants.{Write}
use Rattle.flow_export.specs.declared.span.MessageSpan.{MessageSpan}
use Rattle.flow_folder.specs.declared.system.FolderError.{FolderError}
use Rattle.flow_manifest.specs.Slots.{reads_of}
use Rattle.flow_measure.specs.History.{templates_from}
use Rattle.flow_measure.specs.View.{View}
use Rattle.flow_model.specs.Chain.{HandsOn}
use Rattle.flow_model.specs.Shelf.{cut_of, kept_of, Shelf}
use Rattle.flow_model.specs.Shelved.{shelf_of}
use Rattle.flow_model.specs.Standing.{StandsFor, StandsForEither}
use Rattle.flow_model.specs.State.{State}
use Rattle.flow_model.specs.Views.{IsViewOf}
use Rattle.flow_recover.specs.Opening.{IsDeviceOrMemory, StandsForNone}
use Rattle.flow_report.specs.Writing.{AppendsFront}
use Rattle.flow_snapshot.specs.Answered.{IsNoDamage}
use Rattle.flow_segment.specs.Carry.{prefix_of, Carry}

abbrev pub of_export : ExportRefusal → ArchiveExportRefusal
of_export (export.Query e) = Query e
of_export (export.Write failed) = Write failed

-- ---- which messages are asked for

-- The number of the last message before those that are asked for, where messages up to `cut` are in sums alone; none
-- where one of these is asked for.
abbrev pub last_before : MessageSpan → ℕ → Option ℕ
last_before span cut = option_map_or (λ from. if nat_le from cut then None else Some (from - 1)) span.from (Some cut)

-- the number of the last message that is in sums alone, or the greatest number of its type
abbrev pub cut_in : Shelf → ℕ
cut_in s = min (cut_of s) 18446744073709551615

-- An export of a shelf's messages: after the last one before those that are asked for, as many as are asked for.
abbrev pub IsSpanExport : Shelf → MessageSpan → List ℕ → Type 0
IsSpanExport s span text =
    (before : ℕ) × (last_before span (cut_in s) ≡ Some before)
    × IsExportOf s (before - cut_in s) (span.to - before) text

-- ---- on every disk

-- the number of the last message there is, by the counts of a shelf
abbrev pub last_in : Shelf → ℕ
last_in s = cut_in s + length (kept_of s)

-- Octets are an export of an archive of which messages up to `cut` are in sums alone, and whose last one is `last`:
-- messages that restate some templates, and then one message for each number that is asked for and is there, each whole
-- by its own header.
abbrev pub IsCountedExport : ℕ → ℕ → MessageSpan → List ℕ → Type 0
IsCountedExport cut last span text =
    (before : ℕ) × (last_before span cut ≡ Some before) × IsExport (min span.to last - before) text

-- of some archive
abbrev pub IsExportOfSome : MessageSpan → List ℕ → Type 0
IsExportOfSome span text = (cut : ℕ) × (last : ℕ) × IsCountedExport cut last span text

-- ---- on an honest disk

-- What was read is that of an archive that passes this on: its next segment would begin with these messages.
abbrev pub AreTemplatesOf : (ℕ → List ℕ) → List ℕ → Type 0
AreTemplatesOf reads text =
    (s : State) × (carry : Carry) × StandsFor reads s × HandsOn s carry × (text ≡ prefix_of carry)

-- These octets are what is asked for of what was read. It is that of a state, which has this view: `before` is the
-- number of the last message before those that are asked for. The octets are the messages that restate what is passed
-- on to the next one, and then the kept messages after `before` and up to `to`, octet for octet. Read from no
-- templates on they are a File, accepted to its end, whose flows are those of these messages.
pub record IsExportRead (reads : ℕ → List ℕ) (span : MessageSpan) (text : List ℕ) : Type 0 where
  pub state : State
  pub represents : StandsFor reads state
  pub view : View
  pub viewed : IsViewOf (shelf_of state) view
  pub before : ℕ
  pub asked : last_before span view.cut ≡ Some before
  pub octets : IsExportOf (shelf_of state) (before - view.cut) (span.to - before) text
  pub read : IsReadAs text (templates_from view.templates (take (before - view.cut) view.kept))
      (take (span.to - before) (drop (before - view.cut) view.kept))

-- What was read is that of an archive of which messages up to this one are in sums alone, and one of these is asked
-- for.
abbrev pub IsRolledRead : (ℕ → List ℕ) → MessageSpan → ℕ → Type 0
IsRolledRead reads span cut =
    (s : State) × (v : View) × StandsFor reads s × IsViewOf (shelf_of s) v × (v.cut ≡ cut)
    × (last_before span cut ≡ None)

-- why an archive isn't opened: the device failed, or memory ran out, or what is read represents none
abbrev pub IsUnopened : (ℕ → List ℕ) → ArchiveExportRefusal → Type 0
IsUnopened reads (Opening e) = IsDeviceOrMemory e ⊎ StandsForNone reads
IsUnopened reads (Query e) = ⊤
IsUnopened reads (Write failed) = ⊤
IsUnopened reads (Rolled cut) = ⊤
IsUnopened reads (Folder e) = ⊥

-- once it is open no damage is reported
abbrev pub IsNoFault : ArchiveExportRefusal → Type 0
IsNoFault (Query e) = IsNoDamage e
IsNoFault (Opening e) = ⊤
IsNoFault (Write failed) = ⊤
IsNoFault (Rolled cut) = ⊤
IsNoFault (Folder e) = ⊤

-- such messages are asked for, where that they are in sums alone is answered
abbrev pub IsRolledIf : (ℕ → List ℕ) → MessageSpan → ArchiveExportRefusal → Type 0
IsRolledIf reads span (Rolled cut) = IsRolledRead reads span cut
IsRolledIf reads span (Query e) = ⊤
IsRolledIf reads span (Opening e) = ⊤
IsRolledIf reads span (Write failed) = ⊤
IsRolledIf reads span (Folder e) = ⊤

-- ---- what is written where it isn't exported

-- a prefix of such octets, where writing failed; else nothing; never that messages are in sums alone
abbrev pub WritesOrNot : (List ℕ → Type 0) → Option (List ℕ) → Option (List ℕ) → ArchiveExportRefusal → Type 0
WritesOrNot are old new (Write failed) = (text : List ℕ) × are text × AppendsFront old new text
WritesOrNot are old new (Opening e) = Keeps old new
WritesOrNot are old new (Query e) = Keeps old new
WritesOrNot are old new (Folder e) = Keeps old new
WritesOrNot are old new (Rolled cut) = ⊥

-- The same while the archive's files are read: nothing, or a prefix of such octets, where reading failed. Nothing where
-- messages that are in sums alone are asked for.
abbrev pub WritesUpTo : (List ℕ → Type 0) → MessageSpan → Option (List ℕ) → Option (List ℕ) → ArchiveExportRefusal
    → Type 0
WritesUpTo are span old new (Write failed) = (text : List ℕ) × are text × AppendsFront old new text
WritesUpTo are span old new (Query e) = Keeps old new ⊎ ((text : List ℕ) × are text × AppendsFront old new text)
WritesUpTo are span old new (Opening e) = Keeps old new
WritesUpTo are span old new (Folder e) = Keeps old new
WritesUpTo are span old new (Rolled cut) = (last_before span cut ≡ None) × Keeps old new

-- ---- refusals on an honest disk

-- Why the templates in force aren't written, or not whole.
abbrev pub AreUnwritten : (ℕ → List ℕ) → Option (List ℕ) → Option (List ℕ) → ArchiveExportRefusal → Type 0
AreUnwritten reads old new e = IsUnopened reads e × IsNoFault e × WritesOrNot (AreTemplatesOf reads) old new e

-- Why messages aren't exported, or not whole.
abbrev pub AreUnexported : (ℕ → List ℕ) → MessageSpan → Option (List ℕ) → Option (List ℕ) → ArchiveExportRefusal
    → Type 0
AreUnexported reads span old new e =
    IsUnopened reads e × IsRolledIf reads span e × IsNoFault e × WritesUpTo (IsExportRead reads span) span old new e

-- a refusal of what asks an archive that is open
abbrev pub IsOfAsking : ArchiveExportRefusal → Type 0
IsOfAsking (Query e) = ⊤
IsOfAsking (Write failed) = ⊤
IsOfAsking (Rolled cut) = ⊤
IsOfAsking (Opening e) = ⊥
IsOfAsking (Folder e) = ⊥

-- the number that is answered of messages in sums alone is that of the last one
abbrev pub IsCutIn : Shelf → ArchiveExportRefusal → Type 0
IsCutIn s (Rolled cut) = cut ≡ cut_in s
IsCutIn s (Query e) = ⊤
IsCutIn s (Write failed) = ⊤
IsCutIn s (Opening e) = ⊤
IsCutIn s (Folder e) = ⊤

-- ---- in a folder

-- It can't be opened, and nothing is written.
abbrev pub IsAway : Option (List ℕ) → Option (List ℕ) → Result (Unit {0}) ArchiveExportRefusal → Type 0
IsAway old new result = (e : FolderError) × (result ≡ Err (Folder e)) × Keeps old new

-- What is answered of a folder, which is read as this disk: on an honest one just what is asked for of what was read is
-- written, or this is why not.
abbrev pub ExportsIn : {D S X : Type 0} → Ghosts D S X → MessageSpan → Option (List ℕ) → Option (List ℕ)
    → Result (Unit {0}) ArchiveExportRefusal → Type 0
ExportsIn {D} g span old new result =
    ((disk : D) × (IsTrue (g.honest disk)
    → MatchResult result (λ _. Writes (IsExportRead (reads_of (g.held disk)) span) old new)
    (AreUnexported (reads_of (g.held disk)) span old new)))
    ⊎ IsAway old new result

abbrev pub TemplatesIn : {D S X : Type 0} → Ghosts D S X → Option (List ℕ) → Option (List ℕ)
    → Result (Unit {0}) ArchiveExportRefusal → Type 0
TemplatesIn {D} g old new result =
    ((disk : D) × (IsTrue (g.honest disk)
    → MatchResult result (λ _. Writes (AreTemplatesOf (reads_of (g.held disk))) old new)
    (AreUnwritten (reads_of (g.held disk)) old new)))
    ⊎ IsAway old new result

-- ---- stops

-- On an honest disk a stop at any moment leaves what represents the archive that was there: where a stop had left one
-- of two states, one of these.
abbrev pub KeepsArchive : {D S X : Type 0} → Ghosts D S X → D → D → Type 0
KeepsArchive g old new =
    IsTrue (g.honest old) → (a b : State) → AllImages (g.held old) (StandsForEither a b)
    → LeavesOnly g old new (StandsForEither a b)
