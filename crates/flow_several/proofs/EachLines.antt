-- The lines of each of several archives.
use Rattle.std.proofs.Common.{◌≡◌, ◌∙◌, ℕ, suc, ◌+◌, List, [], ◌∷◌, ◌++◌, length, take}
use Rattle.std.proofs.Common.{append_assoc, append-nil, length-append, refl, sym, ap, ap₂, subst, arith, Option, Some}
use Rattle.std.proofs.Common.{None}
use Rattle.std.proofs.KnownBytes.{Appends-kept, Appends-nil, Appends-trans, Keeps-refl}
use Rattle.std.proofs.Math.Seq.{take-append-add}
use Rattle.std.specs.Io.KnownBytes.{Appends}
use Rattle.std.specs.List.{AllZip}
use Rattle.flow_measure.specs.declared.error.SumError.{SumError}
use Rattle.flow_measure.specs.declared.error.SumError.TheVariants as sum
use Rattle.flow_measure.specs.Query.{narrow_table_in, rows_of_both}
use Rattle.flow_measure.specs.Sums.{merged, AllFit, Table}
use Rattle.flow_measure.specs.View.{View}
use Rattle.flow_report.specs.declared.format.Format.{Format}
use Rattle.flow_report.specs.Writing.{AppendsFront}
use Rattle.flow_snapshot.specs.declared.shares.PartSums.{PartSums}
use Rattle.flow_snapshot.specs.Totals.{wide_table_in, SumsFit}
use Rattle.flow_several.specs.declared.error.TogetherError.TheVariants as together
use Rattle.flow_several.specs.Together.{rows_of_sums, width_of_sums, AreSumsOf, IsUnmade}
use Rattle.flow_several.specs.Together.{OneTableFits}
use Rattle.flow_several.specs.declared.refusal.SeveralRefusal.{SeveralRefusal}
use Rattle.flow_several.specs.declared.refusal.SeveralRefusal.TheVariants.{Archive, OutOfMemory, SumSpent, Write}
use Rattle.flow_several.specs.declared.refusal.SummingRefusal.{SummingRefusal}
use Rattle.flow_several.specs.declared.refusal.SummingRefusal.TheVariants.{Opening, Sums}
use Rattle.flow_several.specs.Each.{archive_lines, archive_totals, each_lines, each_totals, IsEachRefused}
use Rattle.flow_several.specs.Each.{IsLineRefusal, IsArchiveUnanswered, WritesEach}
use Rattle.flow_several.specs.Each.{WritesEachRows, WritesSomeRows}
use Rattle.flow_several.specs.Refusals.{of_rows}
use Rattle.flow_several.specs.Several.{IsNotSummedAlone, IsReadFault, IsSummedAlone, IsViewRead, DiskReading}
use Rattle.flow_several.proofs.OneByOne.{zip_length, zip_then}

-- ---- one archive alone

alone : (reads : DiskReading) (e : SummingRefusal) → IsNotSummedAlone reads e → IsArchiveUnanswered reads e
alone reads (Opening e) h = h
alone reads (Sums (together.Query e)) h = h
alone reads (Sums together.OtherWidths) h = absurd h
alone reads (Sums together.SumSpent) h = absurd h

both_fit : (sums : Option PartSums) (v : View) → AreSumsOf sums (v ∷ []) → SumsFit v → OneTableFits sums
both_fit None v are fit = absurd are
both_fit (Some s) v (widths, narrow, wide) fit = λ same.
    subst AllFit (ap (λ (t : Table). merged t (wide_table_in v)) (sym narrow) ∙ ap (merged s.narrow) (sym wide))
    (fit.both (sym (ap (λ (t : Table). t.width) narrow) ∙ same ∙ ap (λ (t : Table). t.width) wide))

unfit : (reads : DiskReading) (sums : Option PartSums) → IsSummedAlone reads sums → (e : SummingRefusal)
    → e ≡ Sums together.SumSpent → (OneTableFits sums → ⊥) → IsArchiveUnanswered reads e
unfit reads sums (v, (s, stands, view), are) e is not =
    subst (IsArchiveUnanswered reads) (sym is) (s, v, stands, view, λ fit. not (both_fit sums v are fit))

module _ (format : Format) (from to : ℕ) where
  own_lines : (sums : Option PartSums) (v : View) (number : ℕ) → AreSumsOf sums (v ∷ [])
      → archive_lines format number (width_of_sums sums) (rows_of_sums from to sums) ≡ archive_totals format from to number v
  own_lines None v number are = absurd are
  own_lines (Some s) v number (widths, narrow, wide) =
      ap₂ (archive_lines format number) (ap (λ (t : Table). t.width) narrow)
      (ap (λ (t : Table). rows_of_both from to t s.wide) narrow ∙ ap (rows_of_both from to (narrow_table_in v)) wide)

  -- the views of what was read, and their lines
  views_of : (reads : List DiskReading) (all : List (Option PartSums)) (number : ℕ) → AllZip IsSummedAlone reads all
      → (vs : List View) × AllZip IsViewRead reads vs
      × (each_lines format from to number all ≡ each_totals format from to number vs)
  views_of [] [] number h = ([], tt, refl)
  views_of [] (s ∷ all) number h = absurd h
  views_of (r ∷ reads) [] number h = absurd h
  views_of (r ∷ reads) (s ∷ all) number ((v, read, are), h) =
      let rest = views_of reads all (number + 1) h in
      (v ∷ rest.0, (read, rest.1), ap₂ (λ (a b : List ℕ). a ++ b) (own_lines s v number are) rest.2)

  -- one archive more
  lines_then : (all : List (Option PartSums)) (number : ℕ) (sums : Option PartSums)
      → each_lines format from to number (all ++ sums ∷ [])
      ≡ each_lines format from to number all
      ++ archive_lines format (number + length all) (width_of_sums sums) (rows_of_sums from to sums)
  lines_then [] number sums =
      let here : number + 0 ≡ number = omega arith in
      append-nil (archive_lines format number (width_of_sums sums) (rows_of_sums from to sums))
      ∙ ap (λ (n : ℕ). archive_lines format n (width_of_sums sums) (rows_of_sums from to sums)) (sym here)
  lines_then (s ∷ all) number sums =
      let here : (number + 1) + length all ≡ number + suc (length all) = omega arith in
      let own = archive_lines format number (width_of_sums s) (rows_of_sums from to s) in
      ap (λ (l : List ℕ). own ++ l) (lines_then all (number + 1) sums
      ∙ ap (λ (n : ℕ). each_lines format from to (number + 1) all
      ++ archive_lines format n (width_of_sums sums) (rows_of_sums from to sums)) here)
      ∙ sym (append_assoc own (each_lines format from to (number + 1) all)
      (archive_lines format (number + suc (length all)) (width_of_sums sums) (rows_of_sums from to sums)))

pub front_then : (a b c : Option (List ℕ)) (text more : List ℕ) → Appends a b text → AppendsFront b c more
    → AppendsFront a c (text ++ more)
front_then a b c text more whole (n, within, grown) = (
  length text + n,
  omega (arith, within, length-append text more),
  subst (Appends a c) (sym (take-append-add text more n)) (Appends-trans a b c text (take n more) whole grown),
)

-- ---- so many archives, one after the other

-- These are the sums of the first archives that were read, each by itself, and the others are waited for.
pub record Taken (reads : List DiskReading) (waits : List DiskReading → Type 0) (all : List (Option PartSums)) : Type 0
  where
    pub before : List DiskReading
    pub rest : List DiskReading
    pub parts : reads ≡ before ++ rest
    pub own : AllZip IsSummedAlone before all
    pub waiting : waits rest

-- The lines of so many archives are written; where all disks are honest, each has the sums of what was read.
pub record Written (format : Format) (from to : ℕ) (reads : List DiskReading) (honest : Type 0)
    (waits : List DiskReading → Type 0) (n : ℕ) (old now : Option (List ℕ)) : Type 0 where
  pub all : List (Option PartSums)
  pub count : length all ≡ n
  pub lines : Appends old now (each_lines format from to 1 all)
  pub own : honest → Taken reads waits all

module _ (format : Format) (from to : ℕ) (reads : List DiskReading) (honest : Type 0) where
  pub none_written : (waits : List DiskReading → Type 0) (known : Option (List ℕ)) → (honest → waits reads)
      → Written format from to reads honest waits 0 known known
  none_written waits known all = record {
    all = [];
    count = refl;
    lines = Appends-nil known;
    own = λ h. record { before = []; rest = reads; parts = refl; own = tt; waiting = all h };
  }

  -- one archive more
  module _ (waits later : List DiskReading → Type 0) (n number : ℕ) (old now : Option (List ℕ))
      (so_far : Written format from to reads honest waits n old now) (place : number ≡ n + 1) (sums : Option PartSums)
      (next : (rs : List DiskReading) → waits rs → (own : DiskReading) × (rest : List DiskReading) × (rs ≡ own ∷ rest)
      × IsSummedAlone own sums × later rest) where
    abbrev text : List ℕ
    text = archive_lines format number (width_of_sums sums) (rows_of_sums from to sums)

    more_lines : each_lines format from to 1 (so_far.all ++ sums ∷ []) ≡ each_lines format from to 1 so_far.all ++ text
    more_lines =
        let here : 1 + length so_far.all ≡ number = omega (arith, so_far.count, place) in
        lines_then format from to so_far.all 1 sums
        ∙ ap (λ (k : ℕ). each_lines format from to 1 so_far.all
        ++ archive_lines format k (width_of_sums sums) (rows_of_sums from to sums)) here

    taken_more : honest → Taken reads later (so_far.all ++ sums ∷ [])
    taken_more h =
        let t = so_far.own h in
        let a = next t.rest t.waiting in
        record {
          before = t.before ++ a.0 ∷ [];
          rest = a.1;
          parts = t.parts ∙ ap (λ (rs : List DiskReading). t.before ++ rs) a.2
              ∙ sym (append_assoc t.before (a.0 ∷ []) a.1);
          own = zip_then IsSummedAlone t.before so_far.all a.0 sums t.own a.3;
          waiting = a.4;
        }

    pub one_written : (m : ℕ) → m ≡ n + 1 → (new : Option (List ℕ)) → Appends now new text
        → Written format from to reads honest later m old new
    one_written m is new grown = record {
      all = so_far.all ++ sums ∷ [];
      count = length-append so_far.all (sums ∷ []) ∙ omega (arith, so_far.count, is);
      lines = subst (Appends old new) (sym more_lines)
          (Appends-trans old now new (each_lines format from to 1 so_far.all) text so_far.lines grown);
      own = taken_more;
    }

    -- writing failed in its lines
    pub one_cut : (new : Option (List ℕ)) → AppendsFront now new text
        → AppendsFront old new (each_lines format from to 1 (so_far.all ++ sums ∷ []))
    one_cut new cut = subst (AppendsFront old new) (sym more_lines)
        (front_then old now new (each_lines format from to 1 so_far.all) text so_far.lines cut)

    pub some_cut : (new : Option (List ℕ)) (e : SeveralRefusal)
        → IsLineRefusal number (OneTableFits sums) text now new e → WritesSomeRows format from to old new e
    some_cut new (Archive k e) (same, is, not, kept) = (
      so_far.all,
      omega (arith, same, so_far.count, place),
      Appends-kept old now new (each_lines format from to 1 so_far.all) so_far.lines kept,
    )
    some_cut new SumSpent h = absurd h
    some_cut new OutOfMemory kept =
        (so_far.all, Appends-kept old now new (each_lines format from to 1 so_far.all) so_far.lines kept)
    some_cut new (Write failed) cut = (so_far.all ++ sums ∷ [], one_cut new cut)

    -- the same where all disks are honest
    pub each_cut : honest → (new : Option (List ℕ)) (e : SeveralRefusal)
        → IsLineRefusal number (OneTableFits sums) text now new e → IsEachRefused format from to reads old new e
    each_cut h new (Archive k e) (same, is, not, kept) =
        let t = so_far.own h in
        let a = next t.rest t.waiting in
        let vs = views_of format from to t.before so_far.all 1 t.own in
        record {
          before = t.before;
          own = a.0;
          after = a.1;
          views = vs.0;
          all = t.parts ∙ ap (λ (rs : List DiskReading). t.before ++ rs) a.2;
          place = omega (arith, same, place, so_far.count, zip_length IsSummedAlone t.before so_far.all t.own);
          answered = vs.1;
          unanswered = unfit a.0 sums a.3 e is not;
          written = subst (Appends old new) vs.2
              (Appends-kept old now new (each_lines format from to 1 so_far.all) so_far.lines kept);
        }
    each_cut h new SumSpent e = absurd e
    each_cut h new OutOfMemory kept =
        let t = so_far.own h in
        let vs = views_of format from to t.before so_far.all 1 t.own in (
          each_lines format from to 1 so_far.all,
          (t.before, t.rest, vs.0, t.parts, vs.1, vs.2),
          Appends-kept old now new (each_lines format from to 1 so_far.all) so_far.lines kept,
        )
    each_cut h new (Write failed) cut =
        let t = taken_more h in
        let vs = views_of format from to t.before (so_far.all ++ sums ∷ []) 1 t.own in (
          each_lines format from to 1 (so_far.all ++ sums ∷ []),
          (t.before, t.rest, vs.0, t.parts, vs.1, vs.2),
          one_cut new cut,
        )

  -- an archive that isn't asked
  module _ (waits : List DiskReading → Type 0) (n number : ℕ) (old now : Option (List ℕ))
      (so_far : Written format from to reads honest waits n old now) (place : number ≡ n + 1) (e : SummingRefusal) where
    pub some_refused : WritesSomeRows format from to old now (Archive number e)
    some_refused = (so_far.all, omega (arith, so_far.count, place), so_far.lines)

    pub each_refused : ((rs : List DiskReading) → waits rs → (own : DiskReading) × (rest : List DiskReading)
        × (rs ≡ own ∷ rest) × IsNotSummedAlone own e)
        → honest → IsEachRefused format from to reads old now (Archive number e)
    each_refused next h =
        let t = so_far.own h in
        let a = next t.rest t.waiting in
        let vs = views_of format from to t.before so_far.all 1 t.own in
        record {
          before = t.before;
          own = a.0;
          after = a.1;
          views = vs.0;
          all = t.parts ∙ ap (λ (rs : List DiskReading). t.before ++ rs) a.2;
          place = omega (arith, place, so_far.count, zip_length IsSummedAlone t.before so_far.all t.own);
          answered = vs.1;
          unanswered = alone a.0 e a.3;
          written = subst (Appends old now) vs.2 so_far.lines;
        }

  -- all archives
  pub all_written : (waits : List DiskReading → Type 0) (n : ℕ) (old now : Option (List ℕ))
      → Written format from to reads honest waits n old now → ((rs : List DiskReading) → waits rs → rs ≡ [])
      → honest → WritesEach format from to reads old now
  all_written waits n old now so_far end h =
      let t = so_far.own h in
      let vs = views_of format from to t.before so_far.all 1 t.own in
      let whole : reads ≡ t.before =
      t.parts ∙ ap (λ (rs : List DiskReading). t.before ++ rs) (end t.rest t.waiting) ∙ append-nil t.before in (
        vs.0,
        subst (λ (rs : List DiskReading). AllZip IsViewRead rs vs.0) (sym whole) vs.1,
        subst (Appends old now) vs.2 so_far.lines,
      )

  pub rows_written : (waits : List DiskReading → Type 0) (n count : ℕ) (old now : Option (List ℕ))
      → Written format from to reads honest waits n old now → n ≡ count → WritesEachRows format from to count old now
  rows_written waits n count old now so_far is = (so_far.all, so_far.count ∙ is, so_far.lines)

-- ---- refusals

pub rows_refused : (number : ℕ) (fit : Type 0) (lines : List ℕ) (known : Option (List ℕ)) (e : SumError)
    → IsUnmade fit e → IsLineRefusal number fit lines known known (of_rows number e)
rows_refused number fit lines known sum.SumSpent not = (refl, refl, not, Keeps-refl known)
rows_refused number fit lines known sum.OutOfMemory h = Keeps-refl known

pub line_is_no_fault : (number : ℕ) (fit : Type 0) (text : List ℕ) (old new : Option (List ℕ)) (e : SeveralRefusal)
    → IsLineRefusal number fit text old new e → IsReadFault e → ⊥
line_is_no_fault number fit text old new (Archive n (Opening e)) h fault = fault
line_is_no_fault number fit text old new (Archive n (Sums (together.Query e))) (same, is, not, kept) fault = absurd cc
line_is_no_fault number fit text old new (Archive n (Sums together.OtherWidths)) h fault = fault
line_is_no_fault number fit text old new (Archive n (Sums together.SumSpent)) h fault = fault
line_is_no_fault number fit text old new SumSpent h fault = fault
line_is_no_fault number fit text old new OutOfMemory h fault = fault
line_is_no_fault number fit text old new (Write failed) h fault = fault
