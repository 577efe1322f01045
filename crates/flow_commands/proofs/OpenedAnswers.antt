-- What an archive that is opened answers.
use Rattle.std.proofs.Common.{◌≡◌, ◌∙◌, ℕ, List, Option, sym, ap, ap₂, subst, arith}
use Rattle.std.specs.Prelude.{true, IsTrue, Result, Ok, Err, IfErr}
use Rattle.std.proofs.KnownBytes.{Appends-nil, Keeps-refl}
use Rattle.flow_manifest.specs.Following.{front_of}
use Rattle.flow_measure.specs.declared.flow.Flow.{Flow}
use Rattle.flow_measure.specs.declared.rows.Row.{Row}
use Rattle.flow_measure.specs.Query.{flows_in_view, totals_in_view}
use Rattle.flow_measure.specs.View.{View}
use Rattle.flow_refusals.specs.declared.read_refusal.ReadRefusal.{ReadRefusal}
use Rattle.flow_refusals.specs.declared.read_refusal.ReadRefusal.TheVariants as query
use Rattle.flow_snapshot.specs.ShelfSeen.{ShelfSeen}
use Rattle.flow_snapshot.specs.Answered.{IsNoDamage}
use Rattle.flow_snapshot.specs.Totals.{IsTotalsRefusal, SumsFit}
use Rattle.flow_model.specs.Shelf.{Shelf}
use Rattle.flow_model.specs.Views.{IsViewOf}
use Rattle.flow_manifest.specs.declared.error.OpenError.{OpenError}
use Rattle.flow_manifest.specs.declared.error.OpenError.TheVariants as opening
use Rattle.flow_model.specs.Chain.{IsChained}
use Rattle.flow_model.specs.Shelved.{active_shelf, shelf_of}
use Rattle.flow_model.specs.Standing.{StandsFor}
use Rattle.flow_model.specs.State.{State}
use Rattle.flow_model.proofs.Viewing.{widths}
use Rattle.flow_commands.specs.declared.archive_refusal.ArchiveRefusal.{ArchiveRefusal}
use Rattle.flow_commands.specs.declared.archive_refusal.ArchiveRefusal.TheVariants as refusal
use Rattle.flow_report.specs.declared.text_error.TextError.{TextError}
use Rattle.flow_report.specs.declared.text_error.TextError.TheVariants as text
use Rattle.flow_report.specs.Writing.{IsCut}
use Rattle.flow_commands.specs.Archives.{of_opening, of_query, of_text}
use Rattle.flow_commands.specs.Asking.{Always, AreLinesOf, flows_lines, totals_lines}
use Rattle.flow_report.specs.declared.format.Format.{Format}
use Rattle.flow_report.specs.ArchiveLines.{flows_text, rows_text}
use Rattle.flow_commands.specs.Plans.{Span}
use Rattle.flow_commands.specs.Asking.{IsBeforeWriting, IsNotAsked, IsNotFound, IsReadAs, IsUnopened, IsViewRead}
use Rattle.flow_commands.specs.Asking.{TellsNoLines, WritesOrNot}

-- what was read stands for this state, whose files the snapshot has
pub read_as : (reads : ℕ → List ℕ) (sight : ShelfSeen) (width : ℕ) (s : State) → StandsFor reads s
    → width ≡ s.manifest.width → ((s : State) → IsChained s → (v : View) × IsViewOf (shelf_of s) v)
    → (sight.shelf ≡ shelf_of s) × (sight.honest ≡ true) → IsReadAs reads sight width
read_as reads sight width s stands wide there shown =
    let found = there s stands.files.chained in (
      found.0,
      (s, stands, found.1),
      (
        shown.1,
        subst (λ (shelf : Shelf). IsViewOf shelf found.0) (sym shown.0) found.1,
        wide ∙ sym (found.1.width ∙ (widths (front_of s.manifest) s.parts (active_shelf s)).0),
      ),
    )

-- ---- refusals of a command

pub unopened_told : (reads : ℕ → List ℕ) (e : OpenError) → IsUnopened reads e → IsNotAsked reads (of_opening e)
unopened_told reads (opening.Damaged file at) told = told
unopened_told reads (opening.Format file) told = told
unopened_told reads (opening.Entries file) told = told
unopened_told reads (opening.Cut file) told = told
unopened_told reads opening.NoArchive told = told
unopened_told reads opening.Fault told = told
unopened_told reads opening.OutOfMemory told = tt

pub opening_unwritten : (e : OpenError) → IsBeforeWriting (of_opening e)
opening_unwritten (opening.Damaged file at) = tt
opening_unwritten (opening.Format file) = tt
opening_unwritten (opening.Entries file) = tt
opening_unwritten (opening.Cut file) = tt
opening_unwritten opening.NoArchive = tt
opening_unwritten opening.Fault = tt
opening_unwritten opening.OutOfMemory = tt

pub not_found : (has_answer : View → Type 0) (reads : ℕ → List ℕ) (e : ArchiveRefusal) → IsNotAsked reads e
    → IsNotFound has_answer reads e
not_found has_answer reads (refusal.Opening e) told = told
not_found has_answer reads refusal.OutOfMemory told = tt
not_found has_answer reads (refusal.Query e) told = absurd told
not_found has_answer reads (refusal.Write failed) told = absurd told
not_found has_answer reads (refusal.Archive e) told = absurd told
not_found has_answer reads (refusal.Folder why) told = absurd told

pub sums_told : (fit : View → Type 0) (reads : ℕ → List ℕ) (first : ℕ) (v : View) → IsViewRead reads v
    → (e : ReadRefusal) → IsTotalsRefusal first (fit v) e → IsNotFound fit reads (of_query e)
sums_told fit reads first v read (query.Damaged file at) spent = (v, read, spent.2)
sums_told fit reads first v read query.Fault spent = tt
sums_told fit reads first v read query.OutOfMemory spent = tt

pub flows_told : (has_answer : View → Type 0) (reads : ℕ → List ℕ) (e : ReadRefusal) → IsNoDamage e
    → IsNotFound has_answer reads (of_query e)
flows_told has_answer reads (query.Damaged file at) told = absurd told
flows_told has_answer reads query.Fault told = tt
flows_told has_answer reads query.OutOfMemory told = tt

pub query_unwritten : (e : ReadRefusal) → IsBeforeWriting (of_query e)
query_unwritten (query.Damaged file at) = tt
query_unwritten query.Fault = tt
query_unwritten query.OutOfMemory = tt

-- nothing is written before
pub none_told : (lines : View → List ℕ) (has_answer : View → Type 0) (reads : ℕ → List ℕ) (output : Option (List ℕ))
    (e : ArchiveRefusal) → IsNotFound has_answer reads e → TellsNoLines lines has_answer reads output output e
none_told lines has_answer reads output (refusal.Opening e) told = (told, Keeps-refl output)
none_told lines has_answer reads output refusal.OutOfMemory told = Keeps-refl output
none_told lines has_answer reads output (refusal.Query e) told = (told, Keeps-refl output)
none_told lines has_answer reads output (refusal.Write failed) told = absurd told
none_told lines has_answer reads output (refusal.Archive e) told = absurd told
none_told lines has_answer reads output (refusal.Folder why) told = absurd told

pub none_written : (are : List ℕ → Type 0) (output : Option (List ℕ)) (e : ArchiveRefusal) → IsBeforeWriting e
    → WritesOrNot are e output output
none_written are output (refusal.Opening e) before = Keeps-refl output
none_written are output refusal.OutOfMemory before = Keeps-refl output
none_written are output (refusal.Query e) before = Keeps-refl output
none_written are output (refusal.Write failed) before = absurd before
none_written are output (refusal.Archive e) before = Keeps-refl output
none_written are output (refusal.Folder why) before = Keeps-refl output

-- a folder that can't be opened
pub away_kept : {A : Type 0} (r : Result A ArchiveRefusal) (are : List ℕ → Type 0) (output : Option (List ℕ))
    (text : List ℕ) → are text → IfErr r (λ e. WritesOrNot are e output output)
away_kept (Ok a) are output text is = tt
away_kept (Err e) are output text is = by e
  where
    by : (e : ArchiveRefusal) → WritesOrNot are e output output
    by (refusal.Opening e) = Keeps-refl output
    by refusal.OutOfMemory = Keeps-refl output
    by (refusal.Query e) = Keeps-refl output
    by (refusal.Write failed) = (text, is, (0, omega arith, Appends-nil output))
    by (refusal.Archive e) = Keeps-refl output
    by (refusal.Folder why) = Keeps-refl output

-- ---- answers

-- the rows of a snapshot of what was read
pub rows_read : (format : Format) (reads : ℕ → List ℕ) (sight : ShelfSeen) (width : ℕ) (span : Span) (from to : ℕ)
    (rows : List Row)
    → IsReadAs reads sight width → from ≡ span.from → to ≡ span.to
    → (IsTrue sight.honest → (v : View) → IsViewOf sight.shelf v → rows ≡ totals_in_view from to v)
    → AreLinesOf (totals_lines format span) reads (rows_text format width rows)
rows_read format reads sight width span from to rows (v, read, (honest, view, wide)) from_is to_is given =
    let rows_are : rows ≡ totals_in_view span.from span.to v = given honest v view
    ∙ ap₂ (λ (a : ℕ) (b : ℕ). totals_in_view a b v) from_is to_is in
    (v, read, ap₂ (rows_text format) wide rows_are)

pub rows_refused : (reads : ℕ → List ℕ) (sight : ShelfSeen) (width first : ℕ) (e : ReadRefusal)
    → IsReadAs reads sight width
    → (IsTrue sight.honest → (v : View) → IsViewOf sight.shelf v → IsTotalsRefusal first (SumsFit v) e)
    → IsNotFound SumsFit reads (of_query e)
rows_refused reads sight width first e (v, read, (honest, view, wide)) given =
    sums_told SumsFit reads first v read e (given honest v view)

-- its flows
pub flows_read : (format : Format) (reads : ℕ → List ℕ) (sight : ShelfSeen) (width : ℕ) (span : Span) (from to : ℕ)
    (flows : List Flow)
    → IsReadAs reads sight width → from ≡ span.from → to ≡ span.to
    → (IsTrue sight.honest → (v : View) → IsViewOf sight.shelf v → flows ≡ flows_in_view from to v)
    → AreLinesOf (flows_lines format span) reads (flows_text format flows)
flows_read format reads sight width span from to flows (v, read, (honest, view, wide)) from_is to_is given =
    let flows_are : flows ≡ flows_in_view span.from span.to v = given honest v view
    ∙ ap₂ (λ (a : ℕ) (b : ℕ). flows_in_view a b v) from_is to_is in
    (v, read, ap (flows_text format) flows_are)

pub flows_refused : (reads : ℕ → List ℕ) (sight : ShelfSeen) (width : ℕ) (e : ReadRefusal)
    → IsReadAs reads sight width
    → (IsTrue sight.honest → (v : View) → IsViewOf sight.shelf v → IsNoDamage e)
    → IsNotFound Always reads (of_query e)
flows_refused reads sight width e (v, read, (honest, view, wide)) given =
    flows_told Always reads e (given honest v view)

-- ---- lines that are cut

pub cut_told : (lines : View → List ℕ) (has_answer : View → Type 0) (reads : ℕ → List ℕ) (old new : Option (List ℕ))
    (told : List ℕ) → AreLinesOf lines reads told → (e : TextError) → IsCut old new told e
    → TellsNoLines lines has_answer reads old new (of_text e)
cut_told lines has_answer reads old new told are text.OutOfMemory cut = cut
cut_told lines has_answer reads old new told are (text.Write failed) cut = (told, are, cut)

pub cut_written : (are : List ℕ → Type 0) (old new : Option (List ℕ)) (told : List ℕ) → are told → (e : TextError)
    → IsCut old new told e → WritesOrNot are (of_text e) old new
cut_written are old new told is text.OutOfMemory cut = cut
cut_written are old new told is (text.Write failed) cut = (told, is, cut)
