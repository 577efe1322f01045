-- Totals of a view.
use Rattle.std.proofs.Common.{◌≡◌, ℕ, ◌-◌, ◌<◌, ◌≤◌, ◌^◌, List, [], ◌∷◌, ◌++◌, length}
use Rattle.std.proofs.Common.{take, drop, refl, sym, ap, subst, ◌∙◌, arith}
use Rattle.std.specs.Prelude.{sum, Result, Ok, Err}
use Rattle.std.specs.List.{AllByRecursion}
use Rattle.std.specs.FinMap.{FinMap, entries}
use Rattle.std.proofs.lemmas.List.{take-append-drop, drop-drop, length-drop, length-take}
use Rattle.flow_codec.specs.Templates.{AllTemplates}
use Rattle.flow_measure.specs.declared.flow.Flow.{Flow}
use Rattle.flow_measure.specs.declared.rows.Sums.{Sums}
use Rattle.flow_measure.specs.Flows.{FlowFits}
use Rattle.flow_measure.specs.History.{Accepted, AreAcceptedFrom, flows_in, templates_from, History, IsHistory}
use Rattle.flow_measure.specs.declared.rows.Row.{Row}
use Rattle.flow_measure.specs.Query.{narrow_table_in, rows_of_both, totals_between, totals_in_view}
use Rattle.flow_measure.specs.Sums.{key_cmp, gathered, empty_table, merged, sums_by, table_of, AllFit, Table}
use Rattle.flow_measure.specs.View.{messages_between_cuts, view_of, AreCountsOf, View}
use Rattle.flow_measure.proofs.Gathering.{gathered-same, sum_at, sum_at-append}
use Rattle.flow_measure.proofs.SumLaws.{merged-table_of}
use Rattle.flow_measure.proofs.ViewLaws.{both_sums, flows-append, parts_sum, totals_same}
use Rattle.flow_measure.proofs.Widening.{joined-comm}
use Rattle.flow_segment.specs.PartFlows.{with_flows}
use Rattle.flow_segment.proofs.FewMessages.{few_fit_behind}
use Rattle.flow_segment.proofs.FlowsFit.{messages_fit}
use Rattle.flow_refusals.specs.declared.read_refusal.ReadRefusal.{ReadRefusal}
use Rattle.flow_refusals.specs.declared.read_refusal.ReadRefusal.TheVariants.{Damaged, Fault, OutOfMemory}
use Rattle.flow_model.specs.Shelf.{messages_in, Shelf}
use Rattle.flow_snapshot.specs.Answered.{IsAnswered}
use Rattle.flow_snapshot.specs.Totals.{wide_table_in, with_maps, IsMade, IsWithinHistoryLimits, SumsFit}
use Rattle.flow_model.specs.Views.{IsViewOf}
use Rattle.flow_model.proofs.Accepting.{accepted_first, accepted_rest}
use Rattle.flow_snapshot.proofs.Asking.{kept_in_two}
use Rattle.flow_snapshot.proofs.KeptFlows.{Next}
use Rattle.flow_snapshot.proofs.Adding.{flows_both, made_err, only_maps, without_flows_fit}

-- ---- the sums of what isn't summed over wide intervals

module _ (s : Shelf) (v : View) (is : IsViewOf s v) where
  abbrev pub halves : Next (λ ms. ms ≡ []) v.templates v.kept (messages_in s.sealed) s.active v.templates
  halves = kept_in_two s v is

  pub both_halves : v.kept ≡ halves.own ++ halves.rest
  both_halves = halves.whole ∙ ap (λ (ms : List Accepted). (ms ++ halves.own) ++ halves.rest) halves.has

  pub sealed_first : (first : AllTemplates) → first ≡ v.templates → AreAcceptedFrom first halves.own
  sealed_first first start = subst (λ (t : AllTemplates). AreAcceptedFrom t halves.own) (sym start) halves.accepted

  pub active_first : (first middle : AllTemplates) → first ≡ v.templates → middle ≡ templates_from first halves.own
      → AreAcceptedFrom middle halves.rest
  active_first first middle start moved = subst (λ (t : AllTemplates). AreAcceptedFrom t halves.rest)
      (ap (λ (t : AllTemplates). templates_from t halves.own) (sym start) ∙ sym moved)
      (behind v.templates halves.own halves.rest (subst (AreAcceptedFrom v.templates) both_halves is.accepted))
    where
      behind : (t : AllTemplates) (xs ys : List Accepted) → AreAcceptedFrom t (xs ++ ys)
          → AreAcceptedFrom (templates_from t xs) ys
      behind t [] ys h = h
      behind t (x ∷ xs) ys h = behind x.after xs ys h.1

  -- the flows of sealed messages and then of active ones, added to sums
  module _ (start : Table) where
    pub kept_is : with_flows (flows_in halves.rest) (with_flows (flows_in halves.own) start)
        ≡ with_flows (flows_in v.kept) start
    kept_is =
        flows_both start (flows_in halves.own) (flows_in halves.rest)
        ∙ ap (λ (fs : List Flow). with_flows fs start)
        (sym (ap flows_in both_halves ∙ flows-append halves.own halves.rest))

    pub active_fits : AllFit (with_flows (flows_in v.kept) start)
        → AllFit (with_flows (flows_in halves.rest) (with_flows (flows_in halves.own) start))
    active_fits fit = subst AllFit (sym kept_is) fit

    pub sealed_fits : AllFit (with_flows (flows_in v.kept) start) → AllFit (with_flows (flows_in halves.own) start)
    sealed_fits fit =
        without_flows_fit (with_flows (flows_in halves.own) start) (flows_in halves.rest) (active_fits fit)

    -- what is answered once both were added
    pub kept_added : {X : Type 0} (Q : Type 0) (middle new : Table) (first : ℕ) (r : Result X ReadRefusal)
        → middle ≡ with_flows (flows_in halves.own) start
        → IsMade first (AllFit (with_flows (flows_in halves.rest) middle))
        (λ _. Q × (new ≡ with_flows (flows_in halves.rest) middle)) r
        → IsMade first (AllFit (with_flows (flows_in v.kept) start)) (λ _. new ≡ with_flows (flows_in v.kept) start) r
    kept_added Q middle new first (Ok x) was made = made.1 ∙ ap (with_flows (flows_in halves.rest)) was ∙ kept_is
    kept_added {X} Q middle new first (Err e) was made =
        made_err {Y = X} (λ _. new ≡ with_flows (flows_in v.kept) start) first
        (AllFit (with_flows (flows_in halves.rest) middle)) (AllFit (with_flows (flows_in v.kept) start)) (Err e) e
        (λ fit. subst AllFit (ap (with_flows (flows_in halves.rest)) (sym was)) (active_fits fit)) refl made

    -- they are added to the sums of rolled files
    module _ (none : start ≡ empty_table s.width) where
      pub narrow_is : with_flows (flows_in v.kept) (with_maps v.rolled start) ≡ narrow_table_in v
      narrow_is =
          ap (λ (t : Table). with_flows (flows_in v.kept) (with_maps v.rolled t))
          (none ∙ ap empty_table (sym is.width))
          ∙ ap (with_flows (flows_in v.kept)) (only_maps v.width v.rolled)

      pub rolled_fits : AllFit (narrow_table_in v) → AllFit (with_maps v.rolled start)
      rolled_fits fit =
          without_flows_fit (with_maps v.rolled start) (flows_in v.kept) (subst AllFit (sym narrow_is) fit)

  -- the sums over wide intervals
  pub wide_is : (start : Table) → start ≡ empty_table s.wide → with_maps is.merged.0 start ≡ wide_table_in v
  wide_is start none =
      ap (with_maps is.merged.0) none ∙ only_maps s.wide is.merged.0 ∙ (λ i. record {
        width = sym is.wide i;
        sums = sym is.merged.2 i;
      })

-- ---- histories within the limits

few_fit_in : (width : ℕ) (before : AllTemplates) (messages : List Accepted) → AreAcceptedFrom before messages
    → AllByRecursion FlowFits (flows_in messages) → length messages < 2 ^ 48
    → AllFit (table_of width (flows_in messages))
few_fit_in width before messages are fit few =
    subst AllFit (merged-table_of width [] (flows_in messages))
    (few_fit_behind width before [] messages are tt fit (omega (arith, few)))

fit_in_two : (xs ys : List Flow) → AllByRecursion FlowFits (xs ++ ys)
    → AllByRecursion FlowFits xs × AllByRecursion FlowFits ys
fit_in_two [] ys h = (tt, h)
fit_in_two (x ∷ xs) ys h = let more = fit_in_two xs ys h.1 in ((h.0, more.0), more.1)

merged-comm : (a b : Table) → a.width ≡ b.width → merged a b ≡ merged b a
merged-comm a b same = λ i. record {
  width = same i;
  sums = (gathered-same (entries a.sums ++ entries b.sums) (entries b.sums ++ entries a.sums) (λ q.
      sum_at-append q (entries a.sums) (entries b.sums)
      ∙ joined-comm (sum_at q (entries a.sums)) (sum_at q (entries b.sums))
      ∙ sym (sum_at-append q (entries b.sums) (entries a.sums)))) i;
}

module _ (h : History) (counts : List ℕ) (is : IsHistory h) (all : AreCountsOf h counts) where
  short : length (messages_between_cuts h) ≤ sum counts
  short = omega (arith, length-take (h.cut - h.second) (drop h.second h.all), all)

  later_messages : messages_between_cuts h ++ drop h.cut h.all ≡ drop h.second h.all
  later_messages =
      ap (λ (n : ℕ). messages_between_cuts h ++ drop n h.all) (omega (arith, is.second))
      ∙ ap (λ (ms : List Accepted). messages_between_cuts h ++ ms) (sym (drop-drop (h.cut - h.second) h.second h.all))
      ∙ take-append-drop (h.cut - h.second) (drop h.second h.all)

  narrow_of : narrow_table_in (view_of h counts) ≡ table_of h.width (flows_in (drop h.second h.all))
  narrow_of = ap (λ (m : FinMap key_cmp Sums). let t : Table = record { width = h.width; sums = m } in t)
      (ap (λ (m : FinMap key_cmp Sums). gathered (entries m ++ entries (sums_by h.width (flows_in (drop h.cut h.all)))))
      (parts_sum h.width counts (messages_between_cuts h) short)
      ∙ both_sums h.width (flows_in (messages_between_cuts h)) (flows_in (drop h.cut h.all))
      ∙ ap (sums_by h.width) (sym (flows-append (messages_between_cuts h) (drop h.cut h.all))
      ∙ ap flows_in later_messages))

  module _ (within : IsWithinHistoryLimits h) where
    all_fit : AllByRecursion FlowFits (flows_in h.all)
    all_fit = messages_fit [] h.all is.accepted within.octets

    in_two : flows_in h.all ≡ flows_in (take h.second h.all) ++ flows_in (drop h.second h.all)
    in_two = ap flows_in (sym (take-append-drop h.second h.all))
        ∙ flows-append (take h.second h.all) (drop h.second h.all)

    fit_both_parts : AllByRecursion FlowFits (flows_in (take h.second h.all))
        × AllByRecursion FlowFits (flows_in (drop h.second h.all))
    fit_both_parts = fit_in_two (flows_in (take h.second h.all)) (flows_in (drop h.second h.all))
        (subst (AllByRecursion FlowFits) in_two all_fit)

    pub sums_fit : SumsFit (view_of h counts)
    sums_fit = record {
      narrow = subst AllFit (sym narrow_of) (few_fit_in h.width (templates_from [] (take h.second h.all))
          (drop h.second h.all) (accepted_rest [] h.second h.all is.accepted) fit_both_parts.1
          (omega (arith, within.few, length-drop h.second h.all)));
      wide = few_fit_in h.wide [] (take h.second h.all) (accepted_first [] h.second h.all is.accepted) fit_both_parts.0
          (omega (arith, within.few, length-take h.second h.all));
      both = λ same.
          let later = flows_in (drop h.second h.all) in
          let early = flows_in (take h.second h.all) in
          subst AllFit (sym (ap (λ (t : Table). merged t (table_of h.wide early)) narrow_of
          ∙ merged-comm (table_of h.width later) (table_of h.wide early) same
          ∙ ap (λ (k : ℕ). merged (table_of h.wide early) (table_of k later)) same
          ∙ merged-table_of h.wide early later ∙ ap (table_of h.wide) (sym in_two)))
          (few_fit_in h.wide [] h.all is.accepted all_fit within.few);
    }

    -- what totals answer of such a history
    pub answered_within : {X : Type 0} (items : X → List Row) (from to first : ℕ) (r : Result X ReadRefusal)
        → IsMade first (SumsFit (view_of h counts)) (λ x. items x ≡ totals_in_view from to (view_of h counts)) r
        → IsAnswered (λ x. items x ≡ totals_between from to h) r
    answered_within items from to first (Ok x) made = made ∙ totals_same h counts is all from to
    answered_within items from to first (Err (Damaged file at)) made = made.2 sums_fit
    answered_within items from to first (Err Fault) made = tt
    answered_within items from to first (Err OutOfMemory) made = tt

-- ---- both tables

module _ (v : View) (narrow wide : Table) (left : narrow ≡ narrow_table_in v) (right : wide ≡ wide_table_in v)
    (from to : ℕ) where
  pub both_made : {X : Type 0} (items : X → List Row) (first : ℕ) (r : Result X ReadRefusal)
      → IsMade first (narrow.width ≡ wide.width → AllFit (merged narrow wide))
      (λ x. items x ≡ rows_of_both from to narrow wide) r
      → IsMade first (SumsFit v) (λ x. items x ≡ totals_in_view from to v) r
  both_made items first (Ok x) made =
      made ∙ ap (λ (t : Table). rows_of_both from to t wide) left
      ∙ ap (λ (t : Table). rows_of_both from to (narrow_table_in v) t) right
  both_made {X} items first (Err e) made =
      made_err {Y = X} (λ x. items x ≡ totals_in_view from to v) first
      (narrow.width ≡ wide.width → AllFit (merged narrow wide)) (SumsFit v) (Err e) e fits refl made
    where
      fits : SumsFit v → narrow.width ≡ wide.width → AllFit (merged narrow wide)
      fits fit same = subst AllFit (ap (λ (t : Table). merged t (wide_table_in v)) (sym left)
          ∙ ap (λ (t : Table). merged narrow t) (sym right))
          (fit.both (sym (ap (λ (t : Table). t.width) left) ∙ same ∙ ap (λ (t : Table). t.width) right))
