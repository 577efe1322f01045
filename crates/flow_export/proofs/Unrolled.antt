-- Where no sums meet a span, none of its flows is in sums alone.
use Rattle.std.proofs.Common.{◌≡◌, ◌∙◌, ◌<◌, ◌≤◌, ℕ, zero, suc, ◌+◌, ◌-◌, List, [], ◌∷◌, ◌++◌, length, map, take, drop}
use Rattle.std.proofs.Common.{Bool, true, false, refl, sym, ap, arith, true≢false}
use Rattle.std.specs.Prelude.{◌||◌, ◌&&◌, max, min, nat_le, nat_lt, sum}
use Rattle.std.specs.List.{list_any}
use Rattle.std.proofs.lemmas.Bool.{leb-true, lt-ltb, ltb-true}
use Rattle.std.proofs.lemmas.List.{length-drop, length-take, take-append-drop}
use Rattle.std.proofs.lemmas.List.Elements.{filter-append}
use Rattle.std.proofs.lemmas.List.Sums.{sum_by-cons}
use Rattle.std.proofs.lemmas.Nat.{mod_below}
use Rattle.flow_measure.specs.declared.flow.Flow.{Flow}
use Rattle.flow_measure.specs.declared.rows.Key.{Key}
use Rattle.flow_measure.specs.declared.rows.Sums.{Sums}
use Rattle.flow_measure.specs.History.{flows_in, Accepted, History, IsHistory}
use Rattle.flow_measure.specs.Query.{flows_in_view}
use Rattle.flow_measure.specs.Sums.{counted, key_of, sums_by}
use Rattle.flow_measure.specs.View.{messages_between_cuts, parted, view_of, AreCountsOf}
use Rattle.flow_measure.proofs.ViewLaws.{flows-append}
use Rattle.flow_segment.specs.PartFlows.{flows_within}
use Rattle.flow_export.specs.Span.{has_row, meets, meets_sums, starts_within}
use Rattle.flow_export.proofs.Spanning.{both_false}
use Rattle.flow_export.proofs.SumsMet.{passes_gathered}

abbrev no_messages : List Accepted
no_messages = []

none_dropped : (n : ℕ) → drop n no_messages ≡ no_messages
none_dropped zero = refl
none_dropped (suc n) = refl

module _ (from to : ℕ) where
  -- the interval of a flow that starts in the span meets it
  interval_meets : (w : ℕ) (f : Flow) → 0 < w → starts_within from to f ≡ true → meets from to w (key_of w f) ≡ true
  interval_meets w f some is =
      let both = parts (nat_le from f.start) (nat_lt f.start to) is in
      let first = leb-true from f.start both.0 in
      let last = ltb-true f.start to both.1 in
      let less = mod_below f.start w some in
      let key = key_of w f in
      lt-ltb (max from key.start) (min to (key.start + w)) (omega (arith, first, last, less))
    where
      parts : (a b : Bool) → (a && b) ≡ true → (a ≡ true) × (b ≡ true)
      parts true b e = (refl, e)
      parts false b e = absurd cc

  none_of_flows : (w : ℕ) (flows : List Flow) → 0 < w → list_any (λ f. meets from to w (key_of w f)) flows ≡ false
      → flows_within from to flows ≡ []
  none_of_flows w [] some none = refl
  none_of_flows w (f ∷ flows) some none = by (starts_within from to f) refl (none_of_flows w flows some each.1)
    where
      each : (meets from to w (key_of w f) ≡ false) × (list_any (λ f. meets from to w (key_of w f)) flows ≡ false)
      each = both_false (meets from to w (key_of w f)) (list_any (λ f. meets from to w (key_of w f)) flows) none

      by : (b : Bool) → starts_within from to f ≡ b → flows_within from to flows ≡ []
          → flows_within from to (f ∷ flows) ≡ []
      by true is others = absurd (true≢false (sym (interval_meets w f some is) ∙ each.0))
      by false is others = rw is others

  any_map : {A B : Type 0} (test : B → Bool) (g : A → B) (xs : List A)
      → list_any test (map g xs) ≡ list_any (λ x. test (g x)) xs
  any_map test g [] = refl
  any_map test g (x ∷ xs) = ap (λ (b : Bool). test (g x) || b) (any_map test g xs)

  row_of_flows : (w : ℕ) (flows : List Flow)
      → has_row from to w (sums_by w flows) ≡ list_any (λ f. meets from to w (key_of w f)) flows
  unfolding sums_by
  row_of_flows w flows =
      passes_gathered (meets from to w) (map (λ (f : Flow). (key_of w f, counted f)) flows)
      ∙ any_map (λ (e : Key × Sums). meets from to w e.0) (λ (f : Flow). (key_of w f, counted f)) flows

  none_in : (w : ℕ) (messages : List Accepted) → 0 < w → has_row from to w (sums_by w (flows_in messages)) ≡ false
      → flows_within from to (flows_in messages) ≡ []
  none_in w messages some none =
      none_of_flows w (flows_in messages) some (sym (row_of_flows w (flows_in messages)) ∙ none)

  both_lists : (xs ys : List Accepted) → flows_within from to (flows_in (xs ++ ys))
      ≡ flows_within from to (flows_in xs) ++ flows_within from to (flows_in ys)
  both_lists xs ys =
      ap (flows_within from to) (flows-append xs ys)
      ∙ filter-append (starts_within from to) (flows_in xs) (flows_in ys)

  none_in_parts : (w : ℕ) (counts : List ℕ) (messages : List Accepted) → 0 < w → sum counts ≡ length messages
      → list_any (has_row from to w) (map (λ (ms : List Accepted). sums_by w (flows_in ms)) (parted counts messages))
      ≡ false → flows_within from to (flows_in messages) ≡ []
  none_in_parts w [] [] some all none = refl
  none_in_parts w [] (m ∷ messages) some all none = absurd (omega (arith, all))
  none_in_parts w (n ∷ counts) messages some all none =
      let first = take n messages in
      let rest = drop n messages in
      let left = length-drop n messages in
      let total = sum_by-cons (λ (k : ℕ). k) n counts in
      let each = both_false (has_row from to w (sums_by w (flows_in first)))
      (list_any (has_row from to w) (map (λ (ms : List Accepted). sums_by w (flows_in ms)) (parted counts rest))) none in
      ap (λ (ms : List Accepted). flows_within from to (flows_in ms)) (sym (take-append-drop n messages))
      ∙ both_lists first rest
      ∙ ap (λ (fs : List Flow). fs ++ flows_within from to (flows_in rest)) (none_in w first some each.0)
      ∙ none_in_parts w counts rest some (omega (arith, all, left, total)) each.1

  pub all_flows : (h : History) (counts : List ℕ) → IsHistory h → AreCountsOf h counts
      → meets_sums from to (view_of h counts) ≡ false
      → flows_within from to (flows_in h.all) ≡ flows_in_view from to (view_of h counts)
  all_flows h counts is are none =
      let each = both_false (has_row from to h.wide (sums_by h.wide (flows_in (take h.second h.all))))
      (list_any (has_row from to h.width) ((view_of h counts).rolled)) none in
      let second = is.second in
      let cut = is.cut in
      let between = messages_between_cuts h in
      let rest = drop h.second h.all in
      let size = length-drop h.second h.all in
      let many = length-take (h.cut - h.second) rest in
      let split : take (h.cut - h.second) rest ++ drop (h.cut - h.second) rest ≡ rest =
      take-append-drop (h.cut - h.second) rest in
      ap (λ (ms : List Accepted). flows_within from to (flows_in ms)) (sym (take-append-drop h.second h.all))
      ∙ both_lists (take h.second h.all) rest
      ∙ ap (λ (fs : List Flow). fs ++ flows_within from to (flows_in rest))
      (none_in h.wide (take h.second h.all) is.wide each.0)
      ∙ ap (λ (ms : List Accepted). flows_within from to (flows_in ms)) (sym split)
      ∙ both_lists between (drop (h.cut - h.second) rest)
      ∙ ap (λ (fs : List Flow). fs ++ flows_within from to (flows_in (drop (h.cut - h.second) rest)))
      (none_in_parts h.width counts between is.width (omega (arith, are, second, cut, size, many)) each.1)
      ∙ ap (λ (ms : List Accepted). flows_within from to (flows_in ms)) (later h.second h.cut h.all second)
    where
      later : (m n : ℕ) (xs : List Accepted) → m ≤ n → drop (n - m) (drop m xs) ≡ drop n xs
      later zero n xs few = let same : n - 0 ≡ n = omega arith in ap (λ (k : ℕ). drop k xs) same
      later (suc m) zero xs few = absurd (omega (arith, few))
      later (suc m) (suc n) [] few = none_dropped (suc n - suc m)
      later (suc m) (suc n) (x ∷ xs) few =
          let same : suc n - suc m ≡ n - m = omega arith in
          ap (λ (k : ℕ). drop k (drop m xs)) same ∙ later m n xs (omega (arith, few))
