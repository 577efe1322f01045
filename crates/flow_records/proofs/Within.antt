-- Which records are chosen.
use Rattle.std.proofs.Common.{◌≡◌, ℕ, List, [], ◌∷◌, ◌++◌, length, refl, sym, ap, subst, ◌∙◌, Bool, true, false}
use Rattle.std.proofs.Common.{arith, suc}
use Rattle.std.specs.Prelude.{◌&&◌, nat_le, nat_lt}
use Rattle.std.proofs.lemmas.List.Concat.{flat_map-append}
use Rattle.std.proofs.lemmas.List.Elements.{filter-append, filter_passes}
use Rattle.flow_codec.specs.Message.{interpreted}
use Rattle.flow_codec.specs.Plan.{values_of}
use Rattle.flow_codec.specs.Raw.{under, Placed}
use Rattle.flow_measure.specs.declared.flow.Flow.{Flow}
use Rattle.flow_measure.specs.Flows.{flow_from, flows_of_records}
use Rattle.flow_measure.specs.History.{flows_in, Accepted}
use Rattle.flow_segment.specs.PartFlows.{flows_within, records_in}
use Rattle.flow_segment.proofs.Taking.{flows_in_records, records_then}
use Rattle.flow_records.specs.Records.{is_chosen, records_within, start_of, AreChosen}

pub option_not_chosen : (from to : ℕ) (x : Placed) → x.1.layout.options ≡ true → is_chosen from to x ≡ false
option_not_chosen from to x is = rw is refl

pub chosen_is : (from to start : ℕ) (x : Placed) (b : Bool) → x.1.layout.options ≡ false → start ≡ start_of x
    → (nat_le from start && nat_lt start to) ≡ b → is_chosen from to x ≡ b
chosen_is from to start x b none same is =
    let same_test : (nat_le from (start_of x) && nat_lt (start_of x) to) ≡ b =
    subst (λ (n : ℕ). (nat_le from n && nat_lt n to) ≡ b) same is in
    rw none same_test

-- ---- their flows

abbrev pub flow_within : ℕ → ℕ → Flow → Bool
flow_within from to f = nat_le from f.start && nat_lt f.start to

abbrev flow_at : Placed → Flow
flow_at x = flow_from x.0 (values_of (interpreted x.1).fields)

one_more : (from to : ℕ) (x : Placed) (xs : List Placed)
    → flows_of_records (records_within from to xs) ≡ flows_within from to (flows_of_records xs)
    → flows_of_records (records_within from to (x ∷ xs)) ≡ flows_within from to (flows_of_records (x ∷ xs))
one_more from to x xs so = by x.1.layout.options (flow_within from to (flow_at x)) refl refl
  where
    by : (o t : Bool) → x.1.layout.options ≡ o → flow_within from to (flow_at x) ≡ t
        → flows_of_records (records_within from to (x ∷ xs)) ≡ flows_within from to (flows_of_records (x ∷ xs))
    by true t is within = rw is so
    by false true is within = rw (is, within) (ap (λ (fs : List Flow). flow_at x ∷ fs) so)
    by false false is within = rw (is, within) so

-- the flows of the records that are chosen
pub chosen_flows : (from to : ℕ) (xs : List Placed)
    → flows_of_records (records_within from to xs) ≡ flows_within from to (flows_of_records xs)
chosen_flows from to [] = refl
chosen_flows from to (x ∷ xs) = one_more from to x xs (chosen_flows from to xs)

one_counted : (from to : ℕ) (x : Placed) (xs : List Placed)
    → length (flows_of_records (records_within from to xs)) ≡ length (records_within from to xs)
    → length (flows_of_records (records_within from to (x ∷ xs))) ≡ length (records_within from to (x ∷ xs))
one_counted from to x xs so = by x.1.layout.options (flow_within from to (flow_at x)) refl refl
  where
    by : (o t : Bool) → x.1.layout.options ≡ o → flow_within from to (flow_at x) ≡ t
        → length (flows_of_records (records_within from to (x ∷ xs))) ≡ length (records_within from to (x ∷ xs))
    by true t is within = rw is so
    by false true is within = rw (is, within) (ap suc so)
    by false false is within = rw (is, within) so

-- each has one
pub chosen_count : (from to : ℕ) (xs : List Placed)
    → length (flows_of_records (records_within from to xs)) ≡ length (records_within from to xs)
chosen_count from to [] = refl
chosen_count from to (x ∷ xs) = one_counted from to x xs (chosen_count from to xs)

pub flows_chosen : (from to : ℕ) (messages : List Accepted)
    → flows_of_records (records_within from to (records_in messages)) ≡ flows_within from to (flows_in messages)
flows_chosen from to messages =
    chosen_flows from to (records_in messages) ∙ ap (flows_within from to) (flows_in_records messages)

none_of : {A : Type 0} (xs : List A) → length xs ≡ 0 → xs ≡ []
none_of [] is = refl
none_of (x ∷ xs) is = absurd (omega (arith, is))

-- where no flow starts within, none is chosen
pub none_chosen : (from to : ℕ) (messages : List Accepted) → flows_within from to (flows_in messages) ≡ []
    → records_within from to (records_in messages) ≡ []
none_chosen from to messages none =
    none_of (records_within from to (records_in messages))
    (sym (chosen_count from to (records_in messages)) ∙ ap length (flows_chosen from to messages ∙ none))

-- those that are chosen are chosen
pub all_chosen : (from to : ℕ) (xs : List Placed) → AreChosen from to (records_within from to xs)
all_chosen from to xs = filter_passes (is_chosen from to) xs

pub within_both : (from to : ℕ) (xs ys : List Placed)
    → records_within from to (xs ++ ys) ≡ records_within from to xs ++ records_within from to ys
within_both from to xs ys = filter-append (is_chosen from to) xs ys

pub in_both : (ms more : List Accepted) → records_in (ms ++ more) ≡ records_in ms ++ records_in more
in_both ms more = flat_map-append (λ (x : Accepted). under x.message.header x.message.records) ms more

pub messages_within : (from to : ℕ) (ms more : List Accepted) → records_within from to (records_in (ms ++ more))
    ≡ records_within from to (records_in ms) ++ records_within from to (records_in more)
messages_within from to ms more =
    ap (records_within from to) (in_both ms more) ∙ within_both from to (records_in ms) (records_in more)

pub one_within : (from to : ℕ) (ms : List Accepted) (a : Accepted)
    → records_within from to (records_in (ms ++ a ∷ []))
    ≡ records_within from to (records_in ms) ++ records_within from to (under a.message.header a.message.records)
one_within from to ms a =
    ap (records_within from to) (records_then ms a)
    ∙ within_both from to (records_in ms) (under a.message.header a.message.records)
