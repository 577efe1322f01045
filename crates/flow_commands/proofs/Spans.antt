-- What is answered of a span starts in it, and so nothing of that is left out.
use Rattle.std.proofs.Common.{◌≡◌, ◌∙◌, ℕ, zero, suc, Bool, true, false, List, [], ◌∷◌, refl, ap, inl, inr}
use Rattle.std.specs.Prelude.{filter, if◌then◌else◌, ◌==◌, IfOk, Result, Ok, Err}
use Rattle.std.specs.List.{All}
use Rattle.std.specs.FinMap.{entries}
use Rattle.std.specs.Ordering.{is_le}
use Rattle.std.proofs.lemmas.List.Elements.{All-append, All-cons, All-head, All-map, All-nil, All-tail, filter_passes}
use Rattle.flow_measure.specs.declared.rows.Row.{Row}
use Rattle.flow_measure.specs.Query.{interleaved, narrow_table_in, rows_of_both, totals_in_view}
use Rattle.flow_measure.specs.Sums.{is_within, key_cmp, merged, table_row, rows_between, Table}
use Rattle.flow_snapshot.specs.Shares.{summed}
use Rattle.flow_measure.specs.View.{View}
use Rattle.flow_model.specs.Shelf.{Shelf}
use Rattle.flow_model.specs.Views.{IsReadIn}
use Rattle.flow_commands.specs.Asking.{AreFlows, AreFlowsIn, AreReadRows, AreRows, AreRowsIn, RowsStartIn}
use Rattle.flow_commands.specs.Asking.{Writes, WritesOrNot, WritesUpTo}
use Rattle.flow_commands.specs.declared.archive_refusal.ArchiveRefusal.{ArchiveRefusal}
use Rattle.flow_commands.specs.declared.archive_refusal.ArchiveRefusal.TheVariants as refusal
use Rattle.flow_commands.specs.Plans.{is_in, Span}
use Rattle.flow_report.specs.declared.format.Format.{Format}
use Rattle.std.proofs.Common.{Option}

pub filter_all : {X : Type 0} (p : X → Bool) (xs : List X) → All (λ x. p x ≡ true) xs → filter p xs ≡ xs
filter_all p [] all = refl
filter_all p (x ∷ xs) all =
    rw (All-head (λ y. p y ≡ true) x xs all)
    (ap (λ (ys : List _). x ∷ ys) (filter_all p xs (All-tail (λ y. p y ≡ true) x xs all)))

if_all : {X : Type 0} (P : X → Type 0) (b : Bool) (xs ys : List X) → All P xs → All P ys
    → All P (if b then xs else ys)
if_all P true xs ys one other = one
if_all P false xs ys one other = other

interleaved_all : (P : Row → Type 0) (steps : ℕ) (rows others : List Row) → All P rows → All P others
    → All P (interleaved steps rows others)
interleaved_all P zero rows others one other = All-append P rows others one other
interleaved_all P (suc steps) [] others one other = other
interleaved_all P (suc steps) (r ∷ rows) [] one other = one
interleaved_all P (suc steps) (r ∷ rows) (o ∷ others) one other =
    if_all P (is_le (key_cmp r.key o.key)) (r ∷ interleaved steps rows (o ∷ others))
    (o ∷ interleaved steps (r ∷ rows) others)
    (All-cons P r (interleaved steps rows (o ∷ others)) (All-head P r rows one)
    (interleaved_all P steps rows (o ∷ others) (All-tail P r rows one) other))
    (All-cons P o (interleaved steps (r ∷ rows) others) (All-head P o others other)
    (interleaved_all P steps (r ∷ rows) others one (All-tail P o others other)))

between_in : (span : Span) (t : Table) → RowsStartIn span (rows_between span.from span.to t)
between_in span t =
    All-map (λ (r : Row). is_in span r.key.start ≡ true) (table_row t.width)
    (filter (λ e. is_within span.from span.to e.0) (entries t.sums))
    (filter_passes (λ e. is_within span.from span.to e.0) (entries t.sums))

pub both_in : (span : Span) (narrow wide : Table) → RowsStartIn span (rows_of_both span.from span.to narrow wide)
both_in span narrow wide =
    if_all (λ (r : Row). is_in span r.key.start ≡ true) (narrow.width == wide.width)
    (rows_between span.from span.to (merged narrow wide))
    (interleaved _ (rows_between span.from span.to narrow) (rows_between span.from span.to wide))
    (between_in span (merged narrow wide))
    (interleaved_all (λ (r : Row). is_in span r.key.start ≡ true) _ (rows_between span.from span.to narrow)
    (rows_between span.from span.to wide) (between_in span narrow) (between_in span wide))

-- what one thread read
pub read_by_one : {V E : Type 0} (items : V → List Row) (s : Shelf) (span : Span) (from to : ℕ) → from ≡ span.from
    → to ≡ span.to → (result : Result V E)
    → IfOk result (λ rows. (v : View) × IsReadIn s v × (items rows ≡ totals_in_view from to v))
    → IfOk result (λ rows. AreReadRows s span (items rows))
read_by_one items s span from to from_is to_is (Err e) found = tt
read_by_one items s span from to from_is to_is (Ok rows) (v, read, same) = inl (
  v,
  read,
  same ∙ ap (λ (n : ℕ). totals_in_view n to v) from_is ∙ ap (λ (n : ℕ). totals_in_view span.from n v) to_is,
)

-- what was read is kept, row by row
pub read_rows_in : (s : Shelf) (span : Span) (rows kept : List Row)
    → kept ≡ filter (λ row. is_in span row.key.start) rows → AreReadRows s span rows → AreReadRows s span kept
read_rows_in s span rows kept is (inl (v, read, same)) =
    let test = λ (r : Row). is_in span r.key.start in
    inl (
      v,
      read,
      is ∙ ap (filter test) same
          ∙ filter_all test _ (both_in span (narrow_table_in v) (record { width = v.wide; sums = v.merged })),
    )
read_rows_in s span rows kept is (inr (wide, narrow, are_wide, are_narrow, same)) =
    let test = λ (r : Row). is_in span r.key.start in
    inr (
      wide,
      narrow,
      are_wide,
      are_narrow,
      is ∙ ap (filter test) same
          ∙ filter_all test _ (both_in span (summed s.width narrow) (summed s.wide wide)),
    )

pub no_rows_in : (span : Span) → RowsStartIn span []
no_rows_in span = All-nil (λ (r : Row). is_in span r.key.start ≡ true)

-- ---- lines of rows, or of flows, of a span are such lines

pub rows_weaker : (format : Format) (span : Span) (text : List ℕ) → AreRowsIn format span text → AreRows format text
rows_weaker format span text (width, rows, within, is) = (width, rows, is)

pub flows_weaker : (format : Format) (span : Span) (text : List ℕ) → AreFlowsIn format span text → AreFlows format text
flows_weaker format span text (flows, within, is) = (flows, is)

module _ (one other : List ℕ → Type 0) (each : (text : List ℕ) → one text → other text)
    (old new : Option (List ℕ)) where
  pub writes_weaker : Writes one old new → Writes other old new
  writes_weaker (text, is, written) = (text, each text is, written)

  pub not_weaker : (e : ArchiveRefusal) → WritesOrNot one e old new → WritesOrNot other e old new
  not_weaker (refusal.Write failed) (text, is, written) = (text, each text is, written)
  not_weaker (refusal.Opening e) kept = kept
  not_weaker (refusal.Query e) kept = kept
  not_weaker refusal.OutOfMemory kept = kept
  not_weaker (refusal.Archive e) kept = kept
  not_weaker (refusal.Folder why) kept = kept

  pub up_to_weaker : (e : ArchiveRefusal) → WritesUpTo one e old new → WritesUpTo other e old new
  up_to_weaker (refusal.Write failed) (text, is, written) = (text, each text is, written)
  up_to_weaker (refusal.Query e) (text, is, written) = (text, each text is, written)
  up_to_weaker refusal.OutOfMemory (text, is, written) = (text, each text is, written)
  up_to_weaker (refusal.Opening e) kept = kept
  up_to_weaker (refusal.Archive e) kept = kept
  up_to_weaker (refusal.Folder why) kept = kept
