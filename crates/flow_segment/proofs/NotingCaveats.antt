-- Flows that are summed otherwise than their exporter may mean, with those of one record more.
use Rattle.std.proofs.Common.{◌≡◌, ◌∙◌, ℕ, ◌+◌, ◌-◌, ◌^◌, Bool, List, [], ◌∷◌, ◌++◌, sym, ap, arith}
use Rattle.std.proofs.Common.{refl}
use Rattle.std.specs.Prelude.{true, false, cond, option_map, min, count_by, is_some, not, Option, Some, None}
use Rattle.std.specs.Option.{is_none}
use Rattle.std.proofs.lemmas.List.Sums.{fold-append}
use Rattle.flow_codec.specs.declared.losses.CaveatCounts.{CaveatCounts}
use Rattle.flow_codec.specs.declared.message.Header.{Header}
use Rattle.flow_codec.specs.Caveats.{are_uncounted, elements_of, is_sampled, is_uncounted}
use Rattle.flow_codec.specs.Fields.{fields_in}
use Rattle.flow_codec.specs.Layout.{Layout}
use Rattle.flow_codec.specs.Losses.{both_caveats}
use Rattle.flow_codec.specs.Plan.{values_of}
use Rattle.flow_codec.specs.Raw.{Placed, raw}
use Rattle.flow_measure.specs.Caveats.{has_no_start, is_placed, with_caveats}
use Rattle.flow_segment.specs.Spans.{caveats_if, caveats_where}

-- a count that stops at a limit, with one record more
counted_more : (p : Placed → Bool) (taken : List Placed) (x : Placed) (first : ℕ) (b : Bool) → p x ≡ b
    → min (first + count_by p (taken ++ x ∷ [])) (2 ^ 64 - 1)
    ≡ min (min (first + count_by p taken) (2 ^ 64 - 1) + cond b 1 0) (2 ^ 64 - 1)
counted_more p taken x first b holds =
    let more = fold-append (λ (n : ℕ) (y : Placed). n + cond (p y) 1 0) 0 taken (x ∷ [])
    ∙ ap (λ (b : Bool). count_by p taken + cond b 1 0) holds in
    omega (arith, more)

not_counted : (p : Placed → Bool) (taken : List Placed) (x : Placed) (first : ℕ) → p x ≡ false
    → min (first + count_by p taken) (2 ^ 64 - 1) ≡ min (first + count_by p (taken ++ x ∷ [])) (2 ^ 64 - 1)
not_counted p taken x first fails =
    let more = fold-append (λ (n : ℕ) (y : Placed). n + cond (p y) 1 0) 0 taken (x ∷ [])
    ∙ ap (λ (b : Bool). count_by p taken + cond b 1 0) fails in
    omega (arith, more)

abbrev three : (p u s : ℕ) → CaveatCounts
three p u s = record { placed = p; uncounted = u; sampled = s }

alike : (p0 p1 u0 u1 s0 s1 : ℕ) → p0 ≡ p1 → u0 ≡ u1 → s0 ≡ s1 → three p0 u0 s0 ≡ three p1 u1 s1
alike p0 p1 u0 u1 s0 s1 pp pu ps =
    ap (λ (x : ℕ). three x u0 s0) pp ∙ ap (λ (x : ℕ). three p1 x s0) pu ∙ ap (three p1 u1) ps

module _ (taken : List Placed) (header : Header) (id : ℕ) (layout : Layout) (octets : List ℕ)
  where
    abbrev x : Placed
    x = (header, raw id layout octets)

    -- one of an Options Template
    same : (start : CaveatCounts) → layout.options ≡ true
        → with_caveats start taken ≡ with_caveats start (taken ++ x ∷ [])
    same start kind = alike _ _ _ _ _ _ (not_counted (λ y. is_placed y.1) taken x start.placed (rw kind refl))
        (not_counted (λ y. is_uncounted y.1) taken x start.uncounted (rw kind refl))
        (not_counted (λ y. is_sampled y.1) taken x start.sampled (rw kind refl))

    -- one of a Template
    more : (start : CaveatCounts) → layout.options ≡ false → (placed : Bool)
        → placed ≡ has_no_start (values_of (fields_in layout.fields octets))
        → both_caveats (with_caveats start taken) (caveats_where placed layout) ≡ with_caveats start (taken ++ x ∷ [])
    more start kind placed own = sym (alike _ _ _ _ _ _
        (counted_more (λ y. is_placed y.1) taken x start.placed placed (rw kind (sym own)))
        (counted_more (λ y. is_uncounted y.1) taken x start.uncounted (are_uncounted (elements_of layout.fields))
        (rw kind refl))
        (counted_more (λ y. is_sampled y.1) taken x start.sampled (elements_of layout.fields).rate (rw kind refl)))

    -- where they are counted
    pub option_more : layout.options ≡ true → (start old : Option CaveatCounts)
        → old ≡ option_map (λ c. with_caveats c taken) start → old ≡ option_map (λ c. with_caveats c (taken ++ x ∷ [])) start
    option_more kind None old h = h
    option_more kind (Some s) old h = h ∙ ap Some (same s kind)

    pub flow_more : layout.options ≡ false → (placed : Bool)
        → placed ≡ has_no_start (values_of (fields_in layout.fields octets)) → (start old new : Option CaveatCounts)
        → new ≡ option_map (λ c. both_caveats c (caveats_where placed layout)) old
        → old ≡ option_map (λ c. with_caveats c taken) start → new ≡ option_map (λ c. with_caveats c (taken ++ x ∷ [])) start
    flow_more kind placed own start old new added h =
        added ∙ ap (option_map (λ c. both_caveats c (caveats_where placed layout))) h ∙ by start
      where
        by : (o : Option CaveatCounts)
            → option_map (λ c. both_caveats c (caveats_where placed layout)) (option_map (λ c. with_caveats c taken) o)
            ≡ option_map (λ c. with_caveats c (taken ++ x ∷ [])) o
        by None = refl
        by (Some s) = ap Some (more s kind placed own)

-- before any record
pub none_noted : (counting : Bool) (start : Option CaveatCounts) → start ≡ caveats_if counting
    → start ≡ option_map (λ c. with_caveats c []) start
none_noted true start is =
    is ∙ ap Some (alike _ _ _ _ _ _ (omega arith) (omega arith) (omega arith))
    ∙ ap (option_map (λ c. with_caveats c [])) (sym is)
none_noted false start is = is ∙ ap (option_map (λ c. with_caveats c [])) (sym is)

pub none_of : (o : Option ℕ) (none : Bool) → is_some o ≡ not none → none ≡ is_none o
none_of None true is = refl
none_of None false is = absurd cc
none_of (Some n) true is = absurd cc
none_of (Some n) false is = refl
