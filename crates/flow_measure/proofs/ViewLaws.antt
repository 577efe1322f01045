-- Queries of a history are answered by its view.
use Rattle.std.proofs.Common.{◌≡◌, ℕ, ◌+◌, ◌-◌, ◌<◌, ◌≤◌, true, false, cond, List, [], ◌∷◌, ◌++◌, map, length, take}
use Rattle.std.proofs.Common.{drop, None, refl, sym, ap, ◌∙◌, arith, zero, suc, zero-add}
use Rattle.std.specs.Prelude.{slice_get, option_map, nat_lt, sum}
use Rattle.std.proofs.lemmas.Bool.{ltb-true}
use Rattle.std.specs.List.{flat_map}
use Rattle.std.specs.FinMap.{FinMap, entries}
use Rattle.std.proofs.lemmas.List.{take-append-drop, drop-drop, length-drop, length-take}
use Rattle.std.proofs.lemmas.List.Concat.{flat_map-append}
use Rattle.std.proofs.lemmas.List.Sums.{sum_by-cons}
use Rattle.flow_measure.specs.declared.flow.Flow.{Flow}
use Rattle.flow_measure.specs.declared.rows.Key.{Key}
use Rattle.flow_measure.specs.declared.rows.Sums.{Sums}
use Rattle.flow_measure.specs.Flows.{flows_of}
use Rattle.flow_codec.specs.Message.{in_fields}
use Rattle.flow_measure.specs.Sums.{Table, key_cmp, gathered, sums_by}
use Rattle.flow_measure.specs.History.{Accepted, History, IsHistory, flows_in}
use Rattle.flow_measure.specs.View.{view_of, parted, messages_between_cuts, AreCountsOf, gathered_all}
use Rattle.flow_measure.specs.Query.{rows_of_both, narrow_table, narrow_table_in, wide_table, totals_between}
use Rattle.flow_measure.specs.Query.{totals_in_view, flows_between, flows_in_view, message_at, message_in_view}
use Rattle.flow_measure.proofs.Gathering.{sum_at-append, sum_at-entries, get-gathered, gathered-same, joined, sum_at}
use Rattle.flow_measure.proofs.SumLaws.{merged-table_of}

pub flows-append : (ms ns : List Accepted) → flows_in (ms ++ ns) ≡ flows_in ms ++ flows_in ns
flows-append ms ns = flat_map-append (λ (a : Accepted). flows_of (in_fields a.message)) ms ns

-- the second of two lists may be gathered first
gathered-behind : (es fs : List (Key × Sums)) → gathered (es ++ fs) ≡ gathered (es ++ entries (gathered fs))
gathered-behind es fs = gathered-same (es ++ fs) (es ++ entries (gathered fs)) (λ q.
    sum_at-append q es fs ∙ ap (joined (sum_at q es)) (sym (sum_at-entries (gathered fs) q ∙ get-gathered fs q))
    ∙ sym (sum_at-append q es (entries (gathered fs))))

-- sums of flows and of others, gathered, are the sums of all
pub both_sums : (width : ℕ) (fs gs : List Flow)
    → gathered (entries (sums_by width fs) ++ entries (sums_by width gs)) ≡ sums_by width (fs ++ gs)
both_sums width fs gs = ap (λ (t : Table). t.sums) (merged-table_of width fs gs)

pub no_sums : (width : ℕ) → gathered [] ≡ sums_by width []
unfolding sums_by
no_sums width = refl

none : (ms : List Accepted) → length ms ≤ 0 → ms ≡ []
none [] h = refl
none (m ∷ ms) h = absurd (omega arith)

-- the sums of parts, gathered, are the sums of the whole
pub parts_sum : (width : ℕ) (counts : List ℕ) (ms : List Accepted) → length ms ≤ sum counts
    → gathered_all (map (λ part. sums_by width (flows_in part)) (parted counts ms)) ≡ sums_by width (flows_in ms)
parts_sum width [] ms h = no_sums width ∙ ap (λ (ns : List Accepted). sums_by width (flows_in ns)) (sym (none ms h))
parts_sum width (n ∷ ns) ms h =
    let rest = map (λ (part : List Accepted). sums_by width (flows_in part)) (parted ns (drop n ms)) in
    let shorter : length (drop n ms) ≤ sum ns = omega (arith, length-drop n ms, sum_by-cons (λ (k : ℕ). k) n ns) in
    gathered-behind (entries (sums_by width (flows_in (take n ms)))) (flat_map entries rest)
    ∙ ap (λ (m : FinMap key_cmp Sums). gathered (entries (sums_by width (flows_in (take n ms))) ++ entries m))
    (parts_sum width ns (drop n ms) shorter)
    ∙ both_sums width (flows_in (take n ms)) (flows_in (drop n ms))
    ∙ ap (sums_by width) (sym (flows-append (take n ms) (drop n ms)) ∙ ap flows_in (take-append-drop n ms))

module _ (h : History) (counts : List ℕ) (is : IsHistory h) (all : AreCountsOf h counts) where
  short : length (messages_between_cuts h) ≤ sum counts
  short = omega (arith, length-take (h.cut - h.second) (drop h.second h.all), all)

  joined_messages : messages_between_cuts h ++ drop h.cut h.all ≡ drop h.second h.all
  joined_messages =
      ap (λ (n : ℕ). messages_between_cuts h ++ drop n h.all) (omega (arith, is.second))
      ∙ ap (λ (ms : List Accepted). messages_between_cuts h ++ ms) (sym (drop-drop (h.cut - h.second) h.second h.all))
      ∙ take-append-drop (h.cut - h.second) (drop h.second h.all)

  narrow : narrow_table_in (view_of h counts) ≡ narrow_table h
  narrow = ap (λ (m : FinMap key_cmp Sums). record { width = h.width; sums = m })
      (ap (λ (m : FinMap key_cmp Sums). gathered (entries m ++ entries (sums_by h.width (flows_in (drop h.cut h.all)))))
      (parts_sum h.width counts (messages_between_cuts h) short)
      ∙ both_sums h.width (flows_in (messages_between_cuts h)) (flows_in (drop h.cut h.all))
      ∙ ap (sums_by h.width) (sym (flows-append (messages_between_cuts h) (drop h.cut h.all))
      ∙ ap flows_in joined_messages))

  pub totals_same : (from to : ℕ) → totals_in_view from to (view_of h counts) ≡ totals_between from to h
  totals_same from to = ap (λ (t : Table). rows_of_both from to t (wide_table h)) narrow

  pub flows_same : (from to : ℕ) → flows_in_view from to (view_of h counts) ≡ flows_between from to h
  flows_same from to = refl

  -- the item at a place after the first k
  at_place : {A : Type 0} (k i : ℕ) (xs : List A) → slice_get (drop k xs) i ≡ slice_get xs (k + i)
  at_place zero i xs = ap (slice_get xs) (sym (zero-add i))
  at_place (suc k) i [] = refl
  at_place (suc k) i (x ∷ xs) = at_place k i xs ∙ ap (slice_get (x ∷ xs)) (suc_first k i)
    where
      suc_first : (a b : ℕ) → suc (a + b) ≡ suc a + b
      suc_first a b = omega arith

  pub message_same : (n : ℕ) → message_in_view n (view_of h counts) ≡ message_at n h
  message_same n =
      elim (nat_lt h.cut n) as (λ b. nat_lt h.cut n ≡ b
      → cond b (option_map (λ (a : Accepted). a.octets) (slice_get (drop h.cut h.all) (n - h.cut - 1))) None
      ≡ cond b (option_map (λ (a : Accepted). a.octets) (slice_get h.all (n - 1))) None) [
        | true ↦ λ w.
            let behind : h.cut < n = ltb-true h.cut n w in
            ap (option_map (λ (a : Accepted). a.octets)) (at_place h.cut (n - h.cut - 1) h.all
            ∙ ap (slice_get h.all) (omega arith))
        | false ↦ λ w. refl
      ] refl
