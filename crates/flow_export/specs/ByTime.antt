-- What is exported by a span of time of the archive on a disk: the messages of which some flow starts in it.
use Rattle.std.specs.Prelude.{◌≡◌, ◌⊎◌, ℕ, false, true, IsTrue, List, Option, Result, MatchResult, take}
use Rattle.std.specs.Io.KnownBytes.{Keeps}
use Rattle.flow_disk.specs.declared.disk.Disk.{Ghosts}
use Rattle.flow_export.specs.declared.starting.TimeSpan.{TimeSpan}
use Rattle.flow_export.specs.Export.{IsReadAs, Writes, WritesSome}
use Rattle.flow_export.specs.Span.{before_first, meets_sums, span_messages, IsSomeSpanExport, IsSpanExportOf}
use Rattle.flow_export.specs.declared.archive_refusal.ArchiveExportRefusal.{ArchiveExportRefusal}
use Rattle.flow_export.specs.declared.archive_refusal.ArchiveExportRefusal.TheVariants.{Folder, Opening, Query, Rolled}
use Rattle.flow_export.specs.declared.archive_refusal.ArchiveExportRefusal.TheVariants.{Write}
use Rattle.flow_export.specs.Asked.{cut_in, IsAway}
use Rattle.flow_manifest.specs.Slots.{reads_of}
use Rattle.flow_measure.specs.History.{flows_in, templates_from}
use Rattle.flow_measure.specs.Query.{flows_in_view}
use Rattle.flow_measure.specs.View.{View}
use Rattle.flow_model.specs.Shelf.{Shelf}
use Rattle.flow_model.specs.Shelved.{shelf_of}
use Rattle.flow_model.specs.Standing.{StandsFor}
use Rattle.flow_model.specs.State.{State}
use Rattle.flow_model.specs.Views.{IsViewOf}
use Rattle.flow_recover.specs.Opening.{IsDeviceOrMemory, StandsForNone}
use Rattle.flow_refusals.specs.declared.read_refusal.ReadRefusal.{ReadRefusal}
use Rattle.flow_refusals.specs.declared.read_refusal.ReadRefusal.TheVariants.{Damaged, Fault, OutOfMemory}
use Rattle.flow_segment.specs.PartFlows.{flows_within}
use Rattle.flow_snapshot.specs.Totals.{first_file, SumsFit}

-- ---- of a shelf

-- An export of a span, where no messages that are in sums alone may have flows of it.
abbrev pub IsTimeExport : Shelf → View → TimeSpan → List ℕ → Type 0
IsTimeExport s v span text =
    (meets_sums span.from span.to v ≡ false) × IsSpanExportOf s v span.from span.to text

-- Why reading stops before such octets are written, or all of them. Damage is reported of the first file alone, where
-- sums don't fit their types, and then nothing is written; else nothing is, or a prefix.
abbrev pub IsStopped : ℕ → Type 0 → (List ℕ → Type 0) → Option (List ℕ) → Option (List ℕ) → ReadRefusal → Type 0
IsStopped first fit are old new (Damaged file at) = (file ≡ first) × (at ≡ 0) × (fit → ⊥) × Keeps old new
IsStopped first fit are old new Fault = Keeps old new ⊎ WritesSome are old new
IsStopped first fit are old new OutOfMemory = Keeps old new ⊎ WritesSome are old new

-- Why a span of a shelf with this view isn't exported, or not whole. That messages are in sums alone is answered where
-- some of these may have flows of the span, with the number of the last one, and nothing is written.
abbrev pub IsTimeRefusal : Shelf → View → TimeSpan → Option (List ℕ) → Option (List ℕ) → ArchiveExportRefusal → Type 0
IsTimeRefusal s v span old new (Query e) =
    IsStopped (first_file s) (SumsFit v) (IsTimeExport s v span) old new e
IsTimeRefusal s v span old new (Write failed) = WritesSome (IsTimeExport s v span) old new
IsTimeRefusal s v span old new (Rolled cut) =
    (meets_sums span.from span.to v ≡ true) × (cut ≡ cut_in s) × Keeps old new
IsTimeRefusal s v span old new (Opening e) = ⊥
IsTimeRefusal s v span old new (Folder e) = ⊥

-- ---- of what was read

-- These octets are what is asked for of what was read, by a span of time. It is that of a state, which has this view,
-- and no sums over an interval that has a moment of the span. The octets are the messages that restate what is passed
-- on to the first kept message that has a flow of the span, and then, up to the last one, those that have one or define
-- templates, octet for octet. Read from no templates on they are a File, accepted to its end, whose flows are those of
-- these messages; the ones that start in the span are all flows of the view that do.
pub record IsTimeExportRead (reads : ℕ → List ℕ) (span : TimeSpan) (text : List ℕ) : Type 0 where
  pub state : State
  pub represents : StandsFor reads state
  pub view : View
  pub viewed : IsViewOf (shelf_of state) view
  pub kept : meets_sums span.from span.to view ≡ false
  pub octets : IsSpanExportOf (shelf_of state) view span.from span.to text
  pub read : IsReadAs text (templates_from view.templates (take (before_first span.from span.to view.kept) view.kept))
      (span_messages span.from span.to view.kept)
  pub flows : flows_within span.from span.to (flows_in (span_messages span.from span.to view.kept))
      ≡ flows_in_view span.from span.to view

-- What was read is that of an archive of which messages up to this one are in sums alone, and some of these may have
-- flows of the span.
abbrev pub AreSumsRead : (ℕ → List ℕ) → TimeSpan → ℕ → Type 0
AreSumsRead reads span cut =
    (s : State) × (v : View) × StandsFor reads s × IsViewOf (shelf_of s) v × (v.cut ≡ cut)
    × (meets_sums span.from span.to v ≡ true)

-- Why a span isn't exported of what was read, or not whole.
abbrev pub IsUnexportedByTime : (ℕ → List ℕ) → TimeSpan → Option (List ℕ) → Option (List ℕ) → ArchiveExportRefusal
    → Type 0
IsUnexportedByTime reads span old new (Opening e) = (IsDeviceOrMemory e ⊎ StandsForNone reads) × Keeps old new
IsUnexportedByTime reads span old new (Rolled cut) = AreSumsRead reads span cut × Keeps old new
IsUnexportedByTime reads span old new (Query e) =
    (s : State) × (v : View) × StandsFor reads s × IsViewOf (shelf_of s) v
    × IsStopped (first_file (shelf_of s)) (SumsFit v) (IsTimeExportRead reads span) old new e
IsUnexportedByTime reads span old new (Write failed) = WritesSome (IsTimeExportRead reads span) old new
IsUnexportedByTime reads span old new (Folder e) = ⊥

-- ---- on every disk

-- What is written where a span isn't exported: nothing, or a prefix of messages that restate some templates and of
-- whole messages of the span after them, where reading failed; a prefix, where writing did; else nothing.
abbrev pub WritesByTime : TimeSpan → Option (List ℕ) → Option (List ℕ) → ArchiveExportRefusal → Type 0
WritesByTime span old new (Query e) = Keeps old new ⊎ WritesSome (IsSomeSpanExport span.from span.to) old new
WritesByTime span old new (Write failed) = WritesSome (IsSomeSpanExport span.from span.to) old new
WritesByTime span old new (Rolled cut) = Keeps old new
WritesByTime span old new (Opening e) = Keeps old new
WritesByTime span old new (Folder e) = Keeps old new

-- ---- in a folder

-- What is answered of a folder, which is read as this disk: on an honest one just what is asked for of what was read is
-- written, or this is why not.
abbrev pub ExportsByTimeIn : {D S X : Type 0} → Ghosts D S X → TimeSpan → Option (List ℕ) → Option (List ℕ)
    → Result (Unit {0}) ArchiveExportRefusal → Type 0
ExportsByTimeIn {D} g span old new result =
    ((disk : D) × (IsTrue (g.honest disk)
    → MatchResult result (λ _. Writes (IsTimeExportRead (reads_of (g.held disk)) span) old new)
    (IsUnexportedByTime (reads_of (g.held disk)) span old new)))
    ⊎ IsAway old new result
