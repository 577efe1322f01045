-- The sums of several histories.
use Rattle.std.proofs.Common.{◌≡◌, ◌∙◌, ℕ, ◌-◌, ◌≤◌, List, [], ◌∷◌, ◌++◌, map, length, drop, refl, sym, ap, ap₂}
use Rattle.std.proofs.Common.{append_assoc, append-nil, arith}
use Rattle.std.specs.Prelude.{sum}
use Rattle.std.specs.FinMap.{FinMap, entries}
use Rattle.std.specs.List.{flat_map}
use Rattle.std.proofs.lemmas.List.{take-append-drop, drop-drop, length-take}
use Rattle.flow_measure.specs.declared.flow.Flow.{Flow}
use Rattle.flow_measure.specs.declared.rows.Sums.{Sums}
use Rattle.flow_measure.specs.History.{flows_in, Accepted, History, IsHistory}
use Rattle.flow_measure.specs.Query.{narrow_table_in, rows_of_both}
use Rattle.flow_measure.specs.Sums.{key_cmp, gathered, sums_by, table_of, Table}
use Rattle.flow_measure.specs.View.{messages_between_cuts, view_of, AreCountsOf}
use Rattle.flow_measure.proofs.SumLaws.{merged-table_of}
use Rattle.flow_measure.proofs.ViewLaws.{both_sums, flows-append, parts_sum}
use Rattle.flow_snapshot.specs.Totals.{wide_table_in}
use Rattle.flow_several.specs.Together.{added, narrow_flows, view_in, wide_flows, AreHistories}
use Rattle.flow_several.specs.Together.{Kept, TotalsTogether}

abbrev tables_of : ℕ → List (List Flow) → List Table
tables_of width more = map (table_of width) more

abbrev all_flows : List (List Flow) → List Flow
all_flows more = flat_map (λ flows. flows) more

tables_added : (width : ℕ) (flows : List Flow) (more : List (List Flow))
    → added (table_of width flows) (tables_of width more) ≡ table_of width (flows ++ all_flows more)
tables_added width flows [] = ap (table_of width) (sym (append-nil flows))
tables_added width flows (m ∷ ms) =
    ap (λ (t : Table). added t (tables_of width ms)) (merged-table_of width flows m)
    ∙ tables_added width (flows ++ m) ms ∙ ap (table_of width) (append_assoc flows m (all_flows ms))

flat : {A : Type 0} (f : A → List Flow) (xs : List A) → all_flows (map f xs) ≡ flat_map f xs
flat f [] = refl
flat f (x ∷ xs) = ap (λ (l : List Flow). f x ++ l) (flat f xs)

-- ---- of one history

module _ (h : History) (counts : List ℕ) (is : IsHistory h) (all : AreCountsOf h counts) where
  short : length (messages_between_cuts h) ≤ sum counts
  short = omega (arith, length-take (h.cut - h.second) (drop h.second h.all), all)

  joined_messages : messages_between_cuts h ++ drop h.cut h.all ≡ drop h.second h.all
  joined_messages =
      ap (λ (n : ℕ). messages_between_cuts h ++ drop n h.all) (omega (arith, is.second))
      ∙ ap (λ (ms : List Accepted). messages_between_cuts h ++ ms) (sym (drop-drop (h.cut - h.second) h.second h.all))
      ∙ take-append-drop (h.cut - h.second) (drop h.second h.all)

  narrow : narrow_table_in (view_of h counts) ≡ table_of h.width (flows_in (drop h.second h.all))
  narrow = ap (λ (m : FinMap key_cmp Sums). record { width = h.width; sums = m })
      (ap (λ (m : FinMap key_cmp Sums). gathered (entries m ++ entries (sums_by h.width (flows_in (drop h.cut h.all)))))
      (parts_sum h.width counts (messages_between_cuts h) short)
      ∙ both_sums h.width (flows_in (messages_between_cuts h)) (flows_in (drop h.cut h.all))
      ∙ ap (sums_by h.width) (sym (flows-append (messages_between_cuts h) (drop h.cut h.all)) ∙ ap flows_in joined_messages))

-- ---- of several

narrow_tables : (width wide : ℕ) (ks : List Kept) → AreHistories width wide ks
    → map narrow_table_in (map view_in ks) ≡ tables_of width (map narrow_flows ks)
narrow_tables width wide [] h = refl
narrow_tables width wide (k ∷ ks) ((is, all, same, other), h) =
    ap₂ (λ (t : Table) (ts : List Table). t ∷ ts)
    (narrow k.0 k.1 is all ∙ ap (λ (w : ℕ). table_of w (narrow_flows k)) same)
    (narrow_tables width wide ks h)

wide_tables : (width wide : ℕ) (ks : List Kept) → AreHistories width wide ks
    → map wide_table_in (map view_in ks) ≡ tables_of wide (map wide_flows ks)
wide_tables width wide [] h = refl
wide_tables width wide (k ∷ ks) ((is, all, same, other), h) =
    ap₂ (λ (t : Table) (ts : List Table). t ∷ ts) (ap (λ (w : ℕ). table_of w (wide_flows k)) other)
    (wide_tables width wide ks h)

pub together : TotalsTogether
together from to width wide k ks ((is, all, same, other), h) =
    ap₂ (rows_of_both from to)
    (ap₂ added (narrow k.0 k.1 is all ∙ ap (λ (w : ℕ). table_of w (narrow_flows k)) same) (narrow_tables width wide ks h)
    ∙ tables_added width (narrow_flows k) (map narrow_flows ks)
    ∙ ap (λ (l : List Flow). table_of width (narrow_flows k ++ l)) (flat narrow_flows ks))
    (ap₂ added (ap (λ (w : ℕ). table_of w (wide_flows k)) other) (wide_tables width wide ks h)
    ∙ tables_added wide (wide_flows k) (map wide_flows ks)
    ∙ ap (λ (l : List Flow). table_of wide (wide_flows k ++ l)) (flat wide_flows ks))
