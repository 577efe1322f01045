-- The sums of several archives, by their views.
use Rattle.std.specs.Prelude.{◌≡◌, ⊤, ℕ, Bool, true, false, ◌==◌, ◌&&◌, List, [], ◌∷◌, ◌++◌, map, take, drop}
use Rattle.std.specs.Prelude.{Option, Some, None, Result, Ok, Err}
use Rattle.std.specs.FinMap.{FinMap}
use Rattle.std.specs.List.{flat_map}
use Rattle.flow_measure.specs.declared.error.SumError.{SumError}
use Rattle.flow_measure.specs.declared.error.SumError.TheVariants as measure
use Rattle.flow_measure.specs.declared.flow.Flow.{Flow}
use Rattle.flow_measure.specs.declared.rows.Row.{Row}
use Rattle.flow_measure.specs.declared.rows.Sums.{Sums}
use Rattle.flow_measure.specs.History.{flows_in, History, IsHistory}
use Rattle.flow_measure.specs.Query.{narrow_table_in, rows_of_both, totals_in_view}
use Rattle.flow_measure.specs.Sums.{key_cmp, merged, table_of, AllFit, Table}
use Rattle.flow_measure.specs.View.{view_of, AreCountsOf, View}
use Rattle.flow_model.specs.Shelf.{Shelf}
use Rattle.flow_refusals.specs.declared.read_refusal.ReadRefusal.TheVariants as query
use Rattle.flow_snapshot.specs.declared.shares.PartSums.{PartSums}
use Rattle.flow_snapshot.specs.Shares.{summed, AreNarrow, AreWide}
use Rattle.flow_snapshot.specs.Totals.{wide_table_in, IsTotalsRefusal}
use Rattle.flow_several.specs.declared.error.TogetherError.{TogetherError}
use Rattle.flow_several.specs.declared.error.TogetherError.TheVariants.{OtherWidths, Query, SumSpent}

-- tables, added to one, one after the other
abbrev pub added : Table → List Table → Table
added t [] = t
added t (x ∷ xs) = added (merged t x) xs

-- the sums of several views by either width
abbrev pub narrow_of : View → List View → Table
narrow_of v vs = added (narrow_table_in v) (map narrow_table_in vs)

abbrev pub wide_of : View → List View → Table
wide_of v vs = added (wide_table_in v) (map wide_table_in vs)

-- each has these widths
abbrev pub HaveWidths : ℕ → ℕ → List View → Type 0
HaveWidths width wide [] = Unit {0}
HaveWidths width wide (v ∷ vs) = ((v.width ≡ width) × (v.wide ≡ wide)) × HaveWidths width wide vs

-- the width of the first
abbrev pub first_width : List View → ℕ
first_width [] = 0
first_width (v ∷ vs) = v.width

-- what several views answer together, of the intervals that start in a span
abbrev pub totals_in_views : ℕ → ℕ → List View → List Row
totals_in_views from to [] = []
totals_in_views from to (v ∷ vs) = rows_of_both from to (narrow_of v vs) (wide_of v vs)

-- these are the sums of archives of these views, all by the widths of the first
abbrev pub AreSumsOf : Option PartSums → List View → Type 0
AreSumsOf None [] = Unit {0}
AreSumsOf None (v ∷ vs) = ⊥
AreSumsOf (Some s) [] = ⊥
AreSumsOf (Some s) (v ∷ vs) =
    HaveWidths v.width v.wide vs × (s.narrow ≡ narrow_of v vs) × (s.wide ≡ wide_of v vs)

-- the width of sums; 0 where there are none
abbrev pub width_of_sums : Option PartSums → ℕ
width_of_sums None = 0
width_of_sums (Some s) = s.narrow.width

-- the rows of sums by both widths, of the intervals that start in a span
abbrev pub rows_of_sums : ℕ → ℕ → Option PartSums → List Row
rows_of_sums from to None = []
rows_of_sums from to (Some s) = rows_of_both from to s.narrow s.wide

-- the sums of all these views fit their types
abbrev pub FitTogether : List View → Type 0
FitTogether [] = Unit {0}
FitTogether (v ∷ vs) = AllFit (narrow_of v vs) × AllFit (wide_of v vs)

-- where both widths are one, those of all flows together too
abbrev pub BothFitTogether : List View → Type 0
BothFitTogether [] = Unit {0}
BothFitTogether (v ∷ vs) = v.width ≡ v.wide → AllFit (merged (narrow_of v vs) (wide_of v vs))

-- the same of sums
abbrev pub OneTableFits : Option PartSums → Type 0
OneTableFits None = Unit {0}
OneTableFits (Some s) = s.narrow.width ≡ s.wide.width → AllFit (merged s.narrow s.wide)

-- ---- refusals

abbrev pub of_sums : SumError → TogetherError
of_sums measure.SumSpent = SumSpent
of_sums measure.OutOfMemory = Query query.OutOfMemory

-- memory ran out, or a sum is spent, and that only where the sums don't fit
abbrev pub IsUnmade : Type 0 → SumError → Type 0
IsUnmade fit measure.SumSpent = fit → ⊥
IsUnmade fit measure.OutOfMemory = ⊤

-- this view has the widths of the first
abbrev pub HasSameWidths : List View → View → Type 0
HasSameWidths [] u = Unit {0}
HasSameWidths (v ∷ vs) u = (u.width ≡ v.width) × (u.wide ≡ v.wide)

-- Why an archive isn't added to others: a read failed, or memory ran out; its own sums don't fit their types, and the
-- first part is reported as damaged; its widths are others; or they are the same, and the sums of all don't fit.
abbrev pub IsAddingRefused : ℕ → List View → View → TogetherError → Type 0
IsAddingRefused first vs u (Query e) = IsTotalsRefusal first (FitTogether (u ∷ [])) e
IsAddingRefused first vs u OtherWidths = HasSameWidths vs u → ⊥
IsAddingRefused first vs u SumSpent = HasSameWidths vs u × (FitTogether (vs ++ u ∷ []) → ⊥)

-- Why its sums, which are made, aren't: memory ran out; or the last two.
abbrev pub IsJoiningRefused : List View → View → TogetherError → Type 0
IsJoiningRefused vs u (Query e) = e ≡ query.OutOfMemory
IsJoiningRefused vs u OtherWidths = HasSameWidths vs u → ⊥
IsJoiningRefused vs u SumSpent = HasSameWidths vs u × (FitTogether (vs ++ u ∷ []) → ⊥)

-- ---- sums of two

abbrev pub same_widths : PartSums → PartSums → Bool
same_widths a b = (a.narrow.width == b.narrow.width) && (a.wide.width == b.wide.width)

abbrev pub BothFit : PartSums → PartSums → Type 0
BothFit a b = AllFit (merged a.narrow b.narrow) × AllFit (merged a.wide b.wide)

-- sums that are those of two, by the same widths
abbrev pub AreBoth : PartSums → PartSums → PartSums → Type 0
AreBoth a b s = (s.narrow ≡ merged a.narrow b.narrow) × (s.wide ≡ merged a.wide b.wide)

-- the sums of two, or the second has other widths
abbrev pub IsJointWith : Bool → PartSums → PartSums → Result PartSums TogetherError → Type 0
IsJointWith true a b (Ok s) = AreBoth a b s
IsJointWith true a b (Err e) = (why : SumError) × IsUnmade (BothFit a b) why × (e ≡ of_sums why)
IsJointWith false a b r = r ≡ Err OtherWidths

-- the sums of some archives and those of one more
abbrev pub IsJoint : Option PartSums → PartSums → Result PartSums TogetherError → Type 0
IsJoint None more r = r ≡ Ok more
IsJoint (Some all) more r = IsJointWith (same_widths all more) all more r

-- the sums of some archives and of more
abbrev pub AreJoined : Option PartSums → Option PartSums → Option PartSums → Type 0
AreJoined old None new = new ≡ old
AreJoined old (Some more) new = (all : PartSums) × IsJoint old more (Ok all) × (new ≡ Some all)

-- why there are none
abbrev pub AreNotJoined : Option PartSums → Option PartSums → TogetherError → Type 0
AreNotJoined old None e = ⊥
AreNotJoined old (Some more) e = IsJoint old more (Err e)

-- ---- of files, damaged or not

-- the sums of all parts of an archive, each of which was read whole, with its own prefix
abbrev pub ArePartSums : Shelf → PartSums → Type 0
ArePartSums s sums =
    (wide : List (FinMap key_cmp Sums)) × (narrow : List (FinMap key_cmp Sums)) × AreWide s wide × AreNarrow s narrow
    × (sums.wide ≡ summed s.wide wide) × (sums.narrow ≡ summed s.width narrow)

-- the sums of one archive, of all its parts
abbrev pub AreOfParts : Shelf → Option PartSums → Type 0
AreOfParts s None = ⊥
AreOfParts s (Some sums) = ArePartSums s sums

-- ---- of histories

-- a history, and how its rolled messages are divided into entries
abbrev pub Kept : Type 0
Kept = History × List ℕ

abbrev pub view_in : Kept → View
view_in k = view_of k.0 k.1

-- the flows that aren't summed over wide intervals, and those that are
abbrev pub narrow_flows : Kept → List Flow
narrow_flows k = flows_in (drop k.0.second k.0.all)

abbrev pub wide_flows : Kept → List Flow
wide_flows k = flows_in (take k.0.second k.0.all)

-- each is one, by these widths
abbrev pub AreHistories : ℕ → ℕ → List Kept → Type 0
AreHistories width wide [] = Unit {0}
AreHistories width wide (k ∷ ks) =
    (IsHistory k.0 × AreCountsOf k.0 k.1 × (k.0.width ≡ width) × (k.0.wide ≡ wide)) × AreHistories width wide ks

-- What the views of histories answer together are the sums of all their flows.
abbrev pub TotalsTogether : Type 0
TotalsTogether =
    (from to width wide : ℕ) (k : Kept) (ks : List Kept) → AreHistories width wide (k ∷ ks)
    → totals_in_views from to (map view_in (k ∷ ks))
    ≡ rows_of_both from to (table_of width (flat_map narrow_flows (k ∷ ks)))
    (table_of wide (flat_map wide_flows (k ∷ ks)))

-- One view answers what it answers alone.
abbrev pub TotalsAlone : Type 0
TotalsAlone = (from to : ℕ) (v : View) → totals_in_views from to (v ∷ []) ≡ totals_in_view from to v
