-- One record more, for what counts records.
use Rattle.std.proofs.Common.{◌≡◌, ◌∙◌, ℕ, ◌+◌, ◌-◌, ◌^◌, Bool, List, [], ◌∷◌, ◌++◌, Option, Some, None, map, sym, ap}
use Rattle.std.proofs.Common.{refl, arith}
use Rattle.std.specs.Prelude.{true, false, not, cond, min, count_by, fold}
use Rattle.std.specs.List.{cons_option}
use Rattle.std.proofs.lemmas.List.Elements.{filter_map-append}
use Rattle.std.proofs.lemmas.List.{append-nil, map-append}
use Rattle.std.proofs.lemmas.List.Sums.{fold-append}
use Rattle.flow_codec.specs.declared.message.Header.{Header}
use Rattle.flow_codec.specs.Fields.{fields_in}
use Rattle.flow_codec.specs.Layout.{Layout}
use Rattle.flow_codec.specs.Plan.{values_of}
use Rattle.flow_codec.specs.Raw.{Placed, raw}
use Rattle.flow_measure.specs.declared.flow.Flow.{Flow}
use Rattle.flow_measure.specs.Flows.{flow_from, flows_of_records}
use Rattle.flow_measure.proofs.SinkSteps.{one_more, none_more}
use Rattle.flow_inspect.specs.declared.counting.RecordCounts.{RecordCounts}
use Rattle.flow_inspect.specs.declared.span.Span.{Span}
use Rattle.flow_inspect.specs.declared.lasting.Lasted.{Lasted}
use Rattle.flow_codec.specs.Caveats.{are_uncounted, elements_of, is_sampled, is_uncounted}
use Rattle.flow_measure.specs.Caveats.{has_no_start, is_placed}
use Rattle.flow_inspect.specs.Lasting.{ends_of, lasted_after, lasting, lasting_of, lastings_of, with_lasting}
use Rattle.flow_inspect.specs.Counting.{HasCounted, is_flow, is_option, starts_of, widened}

-- a count of those that hold, with one more that may
risen_if : (p : Placed → Bool) (taken : List Placed) (x : Placed) (first old new : ℕ) (b : Bool) → p x ≡ b
    → old ≡ min (first + count_by p taken) (2 ^ 32 - 1) → new ≡ min (old + cond b 1 0) (2 ^ 32 - 1)
    → new ≡ min (first + count_by p (taken ++ x ∷ [])) (2 ^ 32 - 1)
risen_if p taken x first old new b holds was is =
    let more = fold-append (λ (n : ℕ) (y : Placed). n + cond (p y) 1 0) 0 taken (x ∷ [])
    ∙ ap (λ (b : Bool). count_by p taken + cond b 1 0) holds in
    omega (arith, more, was, is)

-- with one more that does
risen : (p : Placed → Bool) (taken : List Placed) (x : Placed) (first old new : ℕ) → p x ≡ true
    → old ≡ min (first + count_by p taken) (2 ^ 32 - 1) → new ≡ min (old + 1) (2 ^ 32 - 1)
    → new ≡ min (first + count_by p (taken ++ x ∷ [])) (2 ^ 32 - 1)
risen p taken x first old new = risen_if p taken x first old new true

-- with one more that doesn't
stayed : (p : Placed → Bool) (taken : List Placed) (x : Placed) (first old : ℕ) → p x ≡ false
    → old ≡ min (first + count_by p taken) (2 ^ 32 - 1)
    → old ≡ min (first + count_by p (taken ++ x ∷ [])) (2 ^ 32 - 1)
stayed p taken x first old fails was =
    let more = fold-append (λ (n : ℕ) (y : Placed). n + cond (p y) 1 0) 0 taken (x ∷ [])
    ∙ ap (λ (b : Bool). count_by p taken + cond b 1 0) fails in
    omega (arith, more, was)

module _ (start : RecordCounts) (taken : List Placed) (header : Header) (id : ℕ) (layout : Layout) (octets : List ℕ)
    (old : RecordCounts) (took : HasCounted start taken old) where
  abbrev x : Placed
  x = (header, raw id layout octets)

  -- a record that isn't a flow, or has no start or no end
  no_lasting : lasting_of x ≡ None → lastings_of (taken ++ x ∷ []) ≡ lastings_of taken
  no_lasting none = filter_map-append lasting_of taken (x ∷ [])
      ∙ ap (λ (o : Option ℕ). lastings_of taken ++ cons_option o []) none ∙ append-nil (lastings_of taken)

  -- a record of an Options Template
  pub option_more : layout.options ≡ true → (options : ℕ) → options ≡ min (old.options + 1) (2 ^ 32 - 1)
      → HasCounted start (taken ++ x ∷ []) (record old { options = options })
  option_more kind options is =
      let none : lasting_of x ≡ None = rw kind refl in (
        stayed (λ y. is_flow y.1) taken x start.records old.records (ap not kind) took.0,
        risen (λ y. is_option y.1) taken x start.options old.options options kind took.1 is,
        took.2 ∙ ap (λ (fs : List Flow). fold widened start.starts (map (λ (f : Flow). f.start) fs))
            (sym (none_more taken header id layout octets kind)),
        took.3 ∙ ap (fold lasted_after start.lasted) (sym (no_lasting none)),
        stayed (λ y. is_placed y.1) taken x start.placed old.placed (rw kind refl) took.4,
        stayed (λ y. is_uncounted y.1) taken x start.uncounted old.uncounted (rw kind refl) took.5,
        stayed (λ y. is_sampled y.1) taken x start.sampled old.sampled (rw kind refl) took.6,
      )

  -- how long one flow more lasts
  lasted_more : layout.options ≡ false → (lasted : Lasted)
      → lasted ≡ with_lasting old.lasted (lasting (ends_of (fields_in layout.fields octets)))
      → lasted ≡ fold lasted_after start.lasted (lastings_of (taken ++ x ∷ []))
  lasted_more kind lasted is = by (lasting (ends_of (fields_in layout.fields octets))) refl
    where
      own : lasting_of x ≡ lasting (ends_of (fields_in layout.fields octets))
      own = rw kind refl

      by : (o : Option ℕ) → lasting (ends_of (fields_in layout.fields octets)) ≡ o
          → lasted ≡ fold lasted_after start.lasted (lastings_of (taken ++ x ∷ []))
      by None none =
          is ∙ ap (with_lasting old.lasted) none ∙ took.3
          ∙ ap (fold lasted_after start.lasted) (sym (no_lasting (own ∙ none)))
      by (Some seconds) some =
          let all : lastings_of (taken ++ x ∷ []) ≡ lastings_of taken ++ seconds ∷ [] =
          filter_map-append lasting_of taken (x ∷ [])
          ∙ ap (λ (o : Option ℕ). lastings_of taken ++ cons_option o []) (own ∙ some) in
          is ∙ ap (with_lasting old.lasted) some ∙ ap (λ (l : Lasted). lasted_after l seconds) took.3
          ∙ sym (ap (fold lasted_after start.lasted) all
          ∙ fold-append lasted_after start.lasted (lastings_of taken) (seconds ∷ []))

  -- a record of a Template
  pub flow_more : layout.options ≡ false → (records : ℕ) → records ≡ min (old.records + 1) (2 ^ 32 - 1) → (flow : Flow)
      → flow ≡ flow_from header (values_of (fields_in layout.fields octets)) → (starts : Option Span)
      → starts ≡ widened old.starts flow.start → (lasted : Lasted)
      → lasted ≡ with_lasting old.lasted (lasting (ends_of (fields_in layout.fields octets)))
      → (placed uncounted sampled : ℕ)
      → placed ≡ min (old.placed + cond (has_no_start (values_of (fields_in layout.fields octets))) 1 0) (2 ^ 32 - 1)
      → uncounted ≡ min (old.uncounted + cond (are_uncounted (elements_of layout.fields)) 1 0) (2 ^ 32 - 1)
      → sampled ≡ min (old.sampled + cond (elements_of layout.fields).rate 1 0) (2 ^ 32 - 1)
      → HasCounted start (taken ++ x ∷ [])
      (record {
        records = records;
        options = old.options;
        starts = starts;
        lasted = lasted;
        placed = placed;
        uncounted = uncounted;
        sampled = sampled;
      })
  flow_more kind records is flow flow_is starts starts_are lasted lasted_is placed uncounted sampled placed_is
      uncounted_is sampled_is = (
        risen (λ y. is_flow y.1) taken x start.records old.records records (ap not kind) took.0 is,
        stayed (λ y. is_option y.1) taken x start.options old.options kind took.1,
        starts_are ∙ ap (λ (s : Option Span). widened s flow.start) took.2
            ∙ sym (ap (λ (fs : List Flow). fold widened start.starts (map (λ (f : Flow). f.start) fs)) all
            ∙ ap (fold widened start.starts) (map-append (λ (f : Flow). f.start) (flows_of_records taken) (flow ∷ []))
            ∙ fold-append widened start.starts (starts_of taken) (flow.start ∷ [])),
        lasted_more kind lasted lasted_is,
        risen_if (λ y. is_placed y.1) taken x start.placed old.placed placed
            (has_no_start (values_of (fields_in layout.fields octets))) (rw kind refl) took.4 placed_is,
        risen_if (λ y. is_uncounted y.1) taken x start.uncounted old.uncounted uncounted
            (are_uncounted (elements_of layout.fields)) (rw kind refl) took.5 uncounted_is,
        risen_if (λ y. is_sampled y.1) taken x start.sampled old.sampled sampled (elements_of layout.fields).rate
            (rw kind refl) took.6 sampled_is,
      )
    where
      all : flows_of_records (taken ++ x ∷ []) ≡ flows_of_records taken ++ flow ∷ []
      all =
          one_more taken header id layout octets kind
          ∙ ap (λ (f : Flow). flows_of_records taken ++ f ∷ []) (sym flow_is)
