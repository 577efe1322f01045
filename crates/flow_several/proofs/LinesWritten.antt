-- What is written of several archives.
use Rattle.std.proofs.Common.{◌≡◌, ℕ, List, Option, ap₂}
use Rattle.std.specs.Prelude.{Result, Ok, Err, IfErr, MatchResult, OnOk}
use Rattle.std.proofs.KnownBytes.{Keeps-refl}
use Rattle.std.specs.List.{AllZip}
use Rattle.flow_measure.specs.declared.error.SumError.{SumError}
use Rattle.flow_measure.specs.declared.error.SumError.TheVariants as sum
use Rattle.flow_measure.specs.declared.rows.Row.{Row}
use Rattle.flow_measure.specs.View.{View}
use Rattle.flow_report.specs.declared.format.Format.{Format}
use Rattle.flow_report.specs.declared.text_error.TextError.{TextError}
use Rattle.flow_report.specs.declared.text_error.TextError.TheVariants as text
use Rattle.flow_report.specs.ArchiveLines.{rows_text}
use Rattle.flow_report.specs.Writing.{IsCut}
use Rattle.flow_several.specs.Together.{first_width, totals_in_views, BothFitTogether, IsUnmade}
use Rattle.flow_several.specs.declared.refusal.SeveralRefusal.{SeveralRefusal}
use Rattle.flow_several.specs.declared.refusal.SeveralRefusal.TheVariants.{Archive, OutOfMemory, SumSpent, Write}
use Rattle.flow_several.specs.Refusals.{of_sum, of_text}
use Rattle.flow_several.specs.Several.{AreRowsOfSpan, AreTotalsOfAll, IsFirstRefused, IsOfAnArchive, IsRefusedOf}
use Rattle.flow_several.specs.Several.{AreTotalsUnwritten}
use Rattle.flow_several.specs.Several.{IsViewRead, DiskReading, WritesNoRows}

module _ (format : Format) (from to : ℕ) (old : Option (List ℕ)) where
  pub sums_unwritten : (reads : List DiskReading) (vs : List View) → AllZip IsViewRead reads vs → (e : SumError)
      → IsUnmade (BothFitTogether vs) e → AreTotalsUnwritten format from to reads old old (of_sum e)
  sums_unwritten reads vs each sum.SumSpent h = ((vs, each, h), Keeps-refl old)
  sums_unwritten reads vs each sum.OutOfMemory h = Keeps-refl old

  pub sums_kept : (e : SumError) → WritesNoRows format from to old old (of_sum e)
  sums_kept sum.SumSpent = Keeps-refl old
  sums_kept sum.OutOfMemory = Keeps-refl old

  pub totals_cut : (reads : List DiskReading) (new : Option (List ℕ)) (written : List ℕ)
      → AreTotalsOfAll format from to reads written → (e : TextError) → IsCut old new written e
      → AreTotalsUnwritten format from to reads old new (of_text e)
  totals_cut reads new written are text.OutOfMemory cut = cut
  totals_cut reads new written are (text.Write failed) cut = (written, are, cut)

  pub rows_cut : (new : Option (List ℕ)) (written : List ℕ) → AreRowsOfSpan format from to written → (e : TextError)
      → IsCut old new written e → WritesNoRows format from to old new (of_text e)
  rows_cut new written are text.OutOfMemory cut = cut
  rows_cut new written are (text.Write failed) cut = (written, are, cut)

  pub first_named : (reads : List DiskReading) (e : SeveralRefusal) → IsFirstRefused reads e
      → IsRefusedOf format from to reads old old e
  first_named reads (Archive number e) h = (h, Keeps-refl old)
  first_named reads SumSpent h = absurd h
  first_named reads OutOfMemory h = absurd h
  first_named reads (Write failed) h = absurd h

  pub nothing_written : (e : SeveralRefusal) → IsOfAnArchive e → WritesNoRows format from to old old e
  nothing_written (Archive number e) is = Keeps-refl old
  nothing_written SumSpent is = absurd is
  nothing_written OutOfMemory is = absurd is
  nothing_written (Write failed) is = absurd is

  pub unwritten : (reads : List DiskReading) (new : Option (List ℕ)) (e : SeveralRefusal)
      → AreTotalsUnwritten format from to reads old new e → IsRefusedOf format from to reads old new e
  unwritten reads new (Archive number e) h = absurd h
  unwritten reads new SumSpent h = h
  unwritten reads new OutOfMemory h = h
  unwritten reads new (Write failed) h = h

  pub refused_so : {X : Type 0} (reads : List DiskReading) (new : Option (List ℕ)) (r : Result X SeveralRefusal) (P : Type 0)
      → MatchResult r (λ x. P) (AreTotalsUnwritten format from to reads old new)
      → IfErr r (IsRefusedOf format from to reads old new)
  refused_so reads new (Ok x) P h = tt
  refused_so reads new (Err e) P h = unwritten reads new e h

pub matched : {X E : Type 0} (r : Result X E) (P : Type 0) (Q : E → Type 0) → MatchResult r (λ x. P) Q → OnOk r P
matched (Ok x) P Q h = h
matched (Err e) P Q h = tt

pub totals_are : (format : Format) (from to : ℕ) (reads : List DiskReading) (vs : List View) → AllZip IsViewRead reads vs
    → (width : ℕ) (rows : List Row) → width ≡ first_width vs → rows ≡ totals_in_views from to vs
    → AreTotalsOfAll format from to reads (rows_text format width rows)
totals_are format from to reads vs each width rows wide are = (vs, each, ap₂ (rows_text format) wide are)

pub sum_is_unnamed : (e : SumError) → IsOfAnArchive (of_sum e) → ⊥
sum_is_unnamed sum.SumSpent is = is
sum_is_unnamed sum.OutOfMemory is = is

pub text_is_unnamed : (e : TextError) → IsOfAnArchive (of_text e) → ⊥
text_is_unnamed text.OutOfMemory is = is
text_is_unnamed (text.Write failed) is = is
