-- What `totals` and `flows` answer of a disk, and what they write.
use Rattle.std.specs.Prelude.{◌≡◌, ◌⊎◌, ⊤, ℕ, true, List, Option}
use Rattle.std.specs.Io.KnownBytes.{Appends, Keeps}
use Rattle.std.specs.FinMap.{FinMap}
use Rattle.std.specs.List.{flat_map, AllPass}
use Rattle.flow_measure.specs.declared.flow.Flow.{Flow}
use Rattle.flow_measure.specs.declared.rows.Row.{Row}
use Rattle.flow_measure.specs.declared.rows.Sums.{Sums}
use Rattle.flow_measure.specs.Query.{flows_in_view, rows_of_both, totals_in_view}
use Rattle.flow_measure.specs.Sums.{key_cmp}
use Rattle.flow_measure.specs.View.{View}
use Rattle.flow_refusals.specs.declared.read_refusal.ReadRefusal.{ReadRefusal}
use Rattle.flow_refusals.specs.declared.read_refusal.ReadRefusal.TheVariants as query
use Rattle.flow_snapshot.specs.ShelfSeen.{ShelfSeen}
use Rattle.flow_snapshot.specs.Answered.{IsNoDamage}
use Rattle.flow_snapshot.specs.Shares.{summed, AreNarrow, AreWide}
use Rattle.flow_model.specs.Shelf.{Shelf}
use Rattle.flow_model.specs.Views.{IsReadIn, IsViewOf}
use Rattle.flow_manifest.specs.declared.error.OpenError.{OpenError}
use Rattle.flow_recover.specs.Opening.{IsDeviceOrMemory, StandsForNone}
use Rattle.flow_model.specs.Shelved.{shelf_of}
use Rattle.flow_model.specs.Standing.{StandsFor}
use Rattle.flow_model.specs.State.{State}
use Rattle.flow_commands.specs.declared.archive_refusal.ArchiveRefusal.{ArchiveRefusal}
use Rattle.flow_commands.specs.declared.archive_refusal.ArchiveRefusal.TheVariants.{Folder, Opening, Archive}
use Rattle.flow_commands.specs.declared.archive_refusal.ArchiveRefusal.TheVariants.{Query}
use Rattle.flow_commands.specs.declared.archive_refusal.ArchiveRefusal.TheVariants.{OutOfMemory, Write}
use Rattle.flow_report.specs.declared.format.Format.{Format}
use Rattle.flow_report.specs.ArchiveLines.{flow_line, flows_text, rows_text}
use Rattle.flow_report.specs.Telling.{Tells, TellsFront}
use Rattle.flow_commands.specs.Plans.{is_in, Span}
use Rattle.flow_report.specs.Writing.{AppendsFront}

-- ---- by the archive's view

-- the lines of the sums of all flows, of the intervals that start in a span
abbrev pub totals_lines : Format → Span → View → List ℕ
totals_lines format span v = rows_text format v.width (totals_in_view span.from span.to v)

-- the lines of the flows that are kept and start in a span
abbrev pub flows_lines : Format → Span → View → List ℕ
flows_lines format span v = flows_text format (flows_in_view span.from span.to v)

-- ---- of files, damaged or not

-- These are the sums of all files, each of which reads whole: by one thread, which reads of the segments' prefixes the
-- first alone; or by workers, which read each segment after its own prefix, and no file that is known to have none.
abbrev pub AreReadRows : Shelf → Span → List Row → Type 0
AreReadRows s span rows =
    ((v : View) × IsReadIn s v × (rows ≡ totals_in_view span.from span.to v))
    ⊎ ((wide : List (FinMap key_cmp Sums)) × (narrow : List (FinMap key_cmp Sums)) × AreWide s wide × AreNarrow s narrow
    × (rows ≡ rows_of_both span.from span.to (summed s.width narrow) (summed s.wide wide)))

-- ---- on an honest disk

-- What was read is that of a state, whose view this is.
abbrev pub IsViewRead : (ℕ → List ℕ) → View → Type 0
IsViewRead reads v = (s : State) × StandsFor reads s × IsViewOf (shelf_of s) v

-- this snapshot, and the width of the archive's intervals, are those of a view
abbrev pub IsSnapshotOf : ShelfSeen → ℕ → View → Type 0
IsSnapshotOf sight width v = (sight.honest ≡ true) × IsViewOf sight.shelf v × (width ≡ v.width)

-- they are those of what was read
abbrev pub IsReadAs : (ℕ → List ℕ) → ShelfSeen → ℕ → Type 0
IsReadAs reads sight width = (v : View) × IsViewRead reads v × IsSnapshotOf sight width v

-- these are the lines of what was read
abbrev pub AreLinesOf : (View → List ℕ) → (ℕ → List ℕ) → List ℕ → Type 0
AreLinesOf lines reads text = (v : View) × IsViewRead reads v × (text ≡ lines v)

-- why an archive isn't opened
abbrev pub IsUnopened : (ℕ → List ℕ) → OpenError → Type 0
IsUnopened reads e = IsDeviceOrMemory e ⊎ StandsForNone reads

-- Why nothing is asked: the archive isn't opened, or memory ran out.
abbrev pub IsNotAsked : (ℕ → List ℕ) → ArchiveRefusal → Type 0
IsNotAsked reads (Opening e) = IsUnopened reads e
IsNotAsked reads OutOfMemory = ⊤
IsNotAsked reads (Query e) = ⊥
IsNotAsked reads (Write failed) = ⊥
IsNotAsked reads (Archive e) = ⊥
IsNotAsked reads (Folder why) = ⊥

-- Why a query isn't answered: a read failed, or memory ran out; damage is reported only where the view has no answer.
abbrev pub IsQueryFault : (View → Type 0) → (ℕ → List ℕ) → ReadRefusal → Type 0
IsQueryFault has_answer reads (query.Damaged file at) = (v : View) × IsViewRead reads v × (has_answer v → ⊥)
IsQueryFault has_answer reads query.Fault = ⊤
IsQueryFault has_answer reads query.OutOfMemory = ⊤

-- Why nothing is found: nothing is asked, or the query isn't answered.
abbrev pub IsNotFound : (View → Type 0) → (ℕ → List ℕ) → ArchiveRefusal → Type 0
IsNotFound has_answer reads (Opening e) = IsUnopened reads e
IsNotFound has_answer reads OutOfMemory = ⊤
IsNotFound has_answer reads (Query e) = IsQueryFault has_answer reads e
IsNotFound has_answer reads (Write failed) = ⊥
IsNotFound has_answer reads (Archive e) = ⊥
IsNotFound has_answer reads (Folder why) = ⊥

-- the lines of what was read were written
abbrev pub TellsLines : (View → List ℕ) → (ℕ → List ℕ) → Option (List ℕ) → Option (List ℕ) → Type 0
TellsLines lines reads old new = (text : List ℕ) × AreLinesOf lines reads text × Appends old new text

-- a prefix of them, where writing failed; else nothing
abbrev pub TellsNoLines : (View → List ℕ) → (View → Type 0) → (ℕ → List ℕ) → Option (List ℕ) → Option (List ℕ)
    → ArchiveRefusal → Type 0
TellsNoLines lines has_answer reads old new (Write failed) =
    (text : List ℕ) × AreLinesOf lines reads text × AppendsFront old new text
TellsNoLines lines has_answer reads old new (Opening e) = IsNotFound has_answer reads (Opening e) × Keeps old new
TellsNoLines lines has_answer reads old new (Query e) = IsNotFound has_answer reads (Query e) × Keeps old new
TellsNoLines lines has_answer reads old new OutOfMemory = Keeps old new
TellsNoLines lines has_answer reads old new (Archive e) = ⊥
TellsNoLines lines has_answer reads old new (Folder why) = ⊥

-- a prefix of them was written
abbrev pub TellsSome : (View → List ℕ) → (ℕ → List ℕ) → Option (List ℕ) → Option (List ℕ) → Type 0
TellsSome lines reads old new = (text : List ℕ) × AreLinesOf lines reads text × AppendsFront old new text

-- Lines that are written while the files are read ended early: once the archive was opened, after a prefix of them;
-- damage is reported only where the view has no answer.
abbrev pub TellsUpTo : (View → List ℕ) → (View → Type 0) → (ℕ → List ℕ) → Option (List ℕ) → Option (List ℕ)
    → ArchiveRefusal → Type 0
TellsUpTo lines has_answer reads old new (Opening e) = IsUnopened reads e × Keeps old new
TellsUpTo lines has_answer reads old new (Query e) =
    IsQueryFault has_answer reads e × TellsSome lines reads old new
TellsUpTo lines has_answer reads old new (Write failed) = TellsSome lines reads old new
TellsUpTo lines has_answer reads old new OutOfMemory = Keeps old new ⊎ TellsSome lines reads old new
TellsUpTo lines has_answer reads old new (Archive e) = ⊥
TellsUpTo lines has_answer reads old new (Folder why) = ⊥

-- a view whose flows are asked for always has an answer
abbrev pub Always : View → Type 0
Always v = ⊤

-- ---- on every disk

-- lines of rows, and of flows
abbrev pub AreRows : Format → List ℕ → Type 0
AreRows format text = (width : ℕ) × (rows : List Row) × (text ≡ rows_text format width rows)

abbrev pub AreFlows : Format → List ℕ → Type 0
AreFlows format text = (flows : List Flow) × (text ≡ flows_text format flows)

-- rows that start in a span, and their lines
abbrev pub RowsStartIn : Span → List Row → Type 0
RowsStartIn span rows = AllPass (λ r. is_in span r.key.start) rows

abbrev pub AreRowsIn : Format → Span → List ℕ → Type 0
AreRowsIn format span text =
    (width : ℕ) × (rows : List Row) × RowsStartIn span rows × (text ≡ rows_text format width rows)

-- flows that start in a span, and their lines
abbrev pub FlowsStartIn : Span → List Flow → Type 0
FlowsStartIn span flows = AllPass (λ f. is_in span f.start) flows

abbrev pub AreFlowsIn : Format → Span → List ℕ → Type 0
AreFlowsIn format span text = (flows : List Flow) × FlowsStartIn span flows × (text ≡ flows_text format flows)

-- such lines were written
abbrev pub Writes : (List ℕ → Type 0) → Option (List ℕ) → Option (List ℕ) → Type 0
Writes are old new = (text : List ℕ) × are text × Appends old new text

-- a prefix of such lines, where writing failed; else nothing
abbrev pub WritesOrNot : (List ℕ → Type 0) → ArchiveRefusal → Option (List ℕ) → Option (List ℕ) → Type 0
WritesOrNot are (Write failed) old new = (text : List ℕ) × are text × AppendsFront old new text
WritesOrNot are (Opening e) old new = Keeps old new
WritesOrNot are (Query e) old new = Keeps old new
WritesOrNot are OutOfMemory old new = Keeps old new
WritesOrNot are (Archive e) old new = Keeps old new
WritesOrNot are (Folder why) old new = Keeps old new

-- A prefix of such lines, where writing or a query failed, or memory ran out; else nothing.
abbrev pub WritesUpTo : (List ℕ → Type 0) → ArchiveRefusal → Option (List ℕ) → Option (List ℕ) → Type 0
WritesUpTo are (Write failed) old new = (text : List ℕ) × are text × AppendsFront old new text
WritesUpTo are (Query e) old new = (text : List ℕ) × are text × AppendsFront old new text
WritesUpTo are OutOfMemory old new = (text : List ℕ) × are text × AppendsFront old new text
WritesUpTo are (Opening e) old new = Keeps old new
WritesUpTo are (Archive e) old new = Keeps old new
WritesUpTo are (Folder why) old new = Keeps old new

-- a refusal of what asks an archive that is open: a query's, of writing, or out of memory
abbrev pub IsWhileAsking : ArchiveRefusal → Type 0
IsWhileAsking (Query e) = ⊤
IsWhileAsking (Write failed) = ⊤
IsWhileAsking OutOfMemory = ⊤
IsWhileAsking (Opening e) = ⊥
IsWhileAsking (Archive e) = ⊥
IsWhileAsking (Folder why) = ⊥

-- and no damage
abbrev pub IsBlameless : ArchiveRefusal → Type 0
IsBlameless (Query e) = IsNoDamage e
IsBlameless e = ⊤

-- ---- lines of flows on their way

-- the lines of some flows of a span came after what was held: what was written, and what is still held
abbrev pub HasSome : Format → Span → Option (List ℕ) → List ℕ → Option (List ℕ) → List ℕ → Type 0
HasSome format span old held now left =
    (flows : List Flow) × FlowsStartIn span flows × Tells old held now left (flat_map (flow_line format) flows)

-- or a prefix of them was written
abbrev pub HasFront : Format → Span → Option (List ℕ) → List ℕ → Option (List ℕ) → Type 0
HasFront format span old held now =
    (flows : List Flow) × FlowsStartIn span flows × TellsFront old held now (flat_map (flow_line format) flows)

-- a refusal before anything is written
abbrev pub IsBeforeWriting : ArchiveRefusal → Type 0
IsBeforeWriting (Write failed) = ⊥
IsBeforeWriting (Opening e) = ⊤
IsBeforeWriting (Query e) = ⊤
IsBeforeWriting OutOfMemory = ⊤
IsBeforeWriting (Archive e) = ⊤
IsBeforeWriting (Folder why) = ⊤
