-- The numbers that count in a record, step by step.
use Rattle.std.proofs.Common.{◌≡◌, ℕ, ◌+◌, ◌<◌, ◌≤◌, Bool, true, false, cond, ◌⊎◌, inl, inr, List, [], ◌∷◌, ◌++◌}
use Rattle.std.proofs.Common.{length, drop, get_or, Option, Some, None, refl, sym, ap, subst, ◌∙◌, drop-cons, add-one}
use Rattle.std.proofs.Common.{eqb, suc}
use Rattle.std.specs.Prelude.{nat_le, ◌&&◌}
use Rattle.std.specs.Option.{option_or}
use Rattle.std.specs.List.{AllByRecursion}
use Rattle.std.proofs.lemmas.Bool.{leb-true}
use Rattle.std.proofs.lemmas.List.{drop_all}
use Rattle.std.proofs.lemmas.List.Concat.{flat_map-cons}
use Rattle.flow_elements.specs.declared.element.ElementId.{ElementId}
use Rattle.flow_elements.specs.Values.{number_of}
use Rattle.flow_codec.specs.declared.message.Header.{Header}
use Rattle.flow_codec.specs.declared.message.Field.{Field}
use Rattle.flow_codec.specs.declared.plan.Role.{Role}
use Rattle.flow_codec.specs.declared.plan.Role.TheVariants.{Octets, Packets, Protocol, Seconds, Milliseconds}
use Rattle.flow_codec.specs.declared.plan.FieldStep.{FieldStep}
use Rattle.flow_codec.specs.declared.plan.FieldStep.TheVariants.{Skip, Fixed, Variable}
use Rattle.flow_codec.specs.Plan.{counting, values_of, is_counted, least_of, most_of, values_by, steps_of, step_of}
use Rattle.flow_codec.specs.Plan.{fixed_step, role_of, before_steps}
use Rattle.flow_measure.specs.declared.counts.Counts.{Counts}
use Rattle.flow_measure.specs.Counting.{no_counts, with_value, counts_with, flow_by, step_values, step_rest, IsStep}
use Rattle.flow_measure.specs.Flows.{number_in, flow_from}

pub counts-append : (counts : Counts) (xs ys : List (Role × List ℕ))
    → counts_with counts (xs ++ ys) ≡ counts_with (counts_with counts xs) ys
unfolding counts_with
counts-append counts [] ys = refl
counts-append counts (x ∷ xs) ys = counts-append (with_value x.0 x.1 counts) xs ys

values-split : (step : FieldStep) (steps : List FieldStep) (octets : List ℕ)
    → values_by (step ∷ steps) octets ≡ step_values step octets ++ values_by steps (step_rest step octets)
unfolding values_by
values-split (Skip count) steps octets = refl
values-split (Fixed role count) steps octets = refl
values-split (Variable role) steps octets = refl

-- the numbers so far, and those of the steps that are left
module _ (steps : List FieldStep) (octets : List ℕ) (i : ℕ) (counts : Counts) (rest : List ℕ) where
  module _ (d : FieldStep) (lt : i < length steps) where
    split : drop i steps ≡ get_or steps i d ∷ drop (i + 1) steps
    split = rw add-one (drop-cons steps i d lt)

    pub goes_on : (step : FieldStep) (next : Counts) (after : List ℕ) → get_or steps i d ≡ step
        → next ≡ counts_with counts (step_values step rest) → after ≡ step_rest step rest
        → counts_with counts (values_by (drop i steps) rest) ≡ counts_with no_counts (values_by steps octets)
        → counts_with next (values_by (drop (i + 1) steps) after) ≡ counts_with no_counts (values_by steps octets)
    goes_on step next after is counted behind same =
        ap (λ (c : Counts). counts_with c (values_by (drop (i + 1) steps) after)) counted
        ∙ ap (λ (o : List ℕ). counts_with (counts_with counts (step_values step rest))
        (values_by (drop (i + 1) steps) o)) behind
        ∙ sym (counts-append counts (step_values step rest) (values_by (drop (i + 1) steps) (step_rest step rest)))
        ∙ ap (counts_with counts) (sym (values-split step (drop (i + 1) steps) rest))
        ∙ ap (λ (s : List FieldStep). counts_with counts (values_by s rest)) (sym (split
        ∙ ap (λ (x : FieldStep). x ∷ drop (i + 1) steps) is))
        ∙ same

    pub first_step : (step : FieldStep) → get_or steps i d ≡ step → AllByRecursion IsStep (drop i steps)
        → IsStep step × AllByRecursion IsStep (drop (i + 1) steps)
    first_step step is all =
        let h = subst (AllByRecursion IsStep) (split ∙ ap (λ (x : FieldStep). x ∷ drop (i + 1) steps) is) all in (
          h.0,
          h.1,
        )

  pub is_done : length steps ≤ i
      → counts_with counts (values_by (drop i steps) rest) ≡ counts_with no_counts (values_by steps octets)
      → counts ≡ counts_with no_counts (values_by steps octets)
  unfolding counts_with values_by
  is_done le same = sym (ap (λ (s : List FieldStep). counts_with counts (values_by s rest)) (drop_all i steps le))
      ∙ same

-- ---- the steps of a plan

both : (a b : Bool) → (a && b) ≡ true → b ≡ true
both true b h = h
both false b h = absurd cc

by_bool : (b : Bool) → (b ≡ true) ⊎ (b ≡ false)
by_bool true = inl refl
by_bool false = inr refl

is_step-fixed : (role : Option Role) (len : ℕ) → IsStep (fixed_step role len)
is_step-fixed None len = tt
is_step-fixed (Some role) len = elim (by_bool (is_counted role len)) [
  | inl w ↦ rw w (leb-true len (most_of role) (both (nat_le (least_of role) len) (nat_le len (most_of role)) w))
  | inr w ↦ rw w tt
]

is_step-of : (id : ElementId) (len : ℕ) → IsStep (step_of id len)
is_step-of id len =
    elim (eqb len 65535) as (λ b. IsStep (cond b (Variable (role_of id)) (fixed_step (role_of id) len))) [
      | true ↦ tt
      | false ↦ is_step-fixed (role_of id) len
    ]

before-all : (step : FieldStep) (steps : List FieldStep) → IsStep step → AllByRecursion IsStep steps
    → AllByRecursion IsStep (before_steps step steps)
before-all (Skip count) [] h all = (tt, tt)
before-all (Skip count) (Skip more ∷ steps) h all = (tt, all.1)
before-all (Skip count) (Fixed role len ∷ steps) h all = (tt, all)
before-all (Skip count) (Variable role ∷ steps) h all = (tt, all)
before-all (Fixed role len) steps h all = (h, all)
before-all (Variable role) steps h all = (tt, all)

pub are_steps : (fs : List (ElementId × ℕ)) → AllByRecursion IsStep (steps_of fs)
unfolding steps_of
are_steps [] = tt
are_steps (f ∷ fs) = before-all (step_of f.0 f.1) (steps_of fs) (is_step-of f.0 f.1) (are_steps fs)

-- ---- of each role the first

or-none : (a : Option ℕ) → option_or a None ≡ a
or-none None = refl
or-none (Some x) = refl

or-some : (a : Option ℕ) (n : ℕ) (b : Option ℕ) → option_or (option_or a (Some n)) b ≡ option_or a (Some n)
or-some None n b = refl
or-some (Some x) n b = refl

octets_after : (c : Counts) (vs : List (Role × List ℕ))
    → (counts_with c vs).octets ≡ option_or c.octets (number_in Octets vs)
unfolding counts_with
octets_after c [] = sym (or-none c.octets)
octets_after c ((Octets, value) ∷ vs) =
    octets_after (with_value Octets value c) vs ∙ or-some c.octets (number_of value) (number_in Octets vs)
octets_after c ((Packets, value) ∷ vs) = octets_after (with_value Packets value c) vs
octets_after c ((Protocol, value) ∷ vs) = octets_after (with_value Protocol value c) vs
octets_after c ((Seconds, value) ∷ vs) = octets_after (with_value Seconds value c) vs
octets_after c ((Milliseconds, value) ∷ vs) = octets_after (with_value Milliseconds value c) vs

packets_after : (c : Counts) (vs : List (Role × List ℕ))
    → (counts_with c vs).packets ≡ option_or c.packets (number_in Packets vs)
unfolding counts_with
packets_after c [] = sym (or-none c.packets)
packets_after c ((Octets, value) ∷ vs) = packets_after (with_value Octets value c) vs
packets_after c ((Packets, value) ∷ vs) =
    packets_after (with_value Packets value c) vs ∙ or-some c.packets (number_of value) (number_in Packets vs)
packets_after c ((Protocol, value) ∷ vs) = packets_after (with_value Protocol value c) vs
packets_after c ((Seconds, value) ∷ vs) = packets_after (with_value Seconds value c) vs
packets_after c ((Milliseconds, value) ∷ vs) = packets_after (with_value Milliseconds value c) vs

protocol_after : (c : Counts) (vs : List (Role × List ℕ))
    → (counts_with c vs).protocol ≡ option_or c.protocol (number_in Protocol vs)
unfolding counts_with
protocol_after c [] = sym (or-none c.protocol)
protocol_after c ((Octets, value) ∷ vs) = protocol_after (with_value Octets value c) vs
protocol_after c ((Packets, value) ∷ vs) = protocol_after (with_value Packets value c) vs
protocol_after c ((Protocol, value) ∷ vs) =
    protocol_after (with_value Protocol value c) vs ∙ or-some c.protocol (number_of value) (number_in Protocol vs)
protocol_after c ((Seconds, value) ∷ vs) = protocol_after (with_value Seconds value c) vs
protocol_after c ((Milliseconds, value) ∷ vs) = protocol_after (with_value Milliseconds value c) vs

seconds_after : (c : Counts) (vs : List (Role × List ℕ))
    → (counts_with c vs).seconds ≡ option_or c.seconds (number_in Seconds vs)
unfolding counts_with
seconds_after c [] = sym (or-none c.seconds)
seconds_after c ((Octets, value) ∷ vs) = seconds_after (with_value Octets value c) vs
seconds_after c ((Packets, value) ∷ vs) = seconds_after (with_value Packets value c) vs
seconds_after c ((Protocol, value) ∷ vs) = seconds_after (with_value Protocol value c) vs
seconds_after c ((Seconds, value) ∷ vs) =
    seconds_after (with_value Seconds value c) vs ∙ or-some c.seconds (number_of value) (number_in Seconds vs)
seconds_after c ((Milliseconds, value) ∷ vs) = seconds_after (with_value Milliseconds value c) vs

milliseconds_after : (c : Counts) (vs : List (Role × List ℕ))
    → (counts_with c vs).milliseconds ≡ option_or c.milliseconds (number_in Milliseconds vs)
unfolding counts_with
milliseconds_after c [] = sym (or-none c.milliseconds)
milliseconds_after c ((Octets, value) ∷ vs) = milliseconds_after (with_value Octets value c) vs
milliseconds_after c ((Packets, value) ∷ vs) = milliseconds_after (with_value Packets value c) vs
milliseconds_after c ((Protocol, value) ∷ vs) = milliseconds_after (with_value Protocol value c) vs
milliseconds_after c ((Seconds, value) ∷ vs) = milliseconds_after (with_value Seconds value c) vs
milliseconds_after c ((Milliseconds, value) ∷ vs) =
    milliseconds_after (with_value Milliseconds value c) vs
    ∙ or-some c.milliseconds (number_of value) (number_in Milliseconds vs)

pub flow_of_counts : (header : Header) (vs : List (Role × List ℕ))
    → flow_by header (counts_with no_counts vs) ≡ flow_from header vs
flow_of_counts header vs =
    rw (
      octets_after no_counts vs,
      packets_after no_counts vs,
      protocol_after no_counts vs,
      seconds_after no_counts vs,
      milliseconds_after no_counts vs,
    ) refl

-- what the starts alone decide
pub by_starts : {X : Type 0} (own : Option ℕ → Option ℕ → X) (vs : List (Role × List ℕ))
    → own (counts_with no_counts vs).milliseconds (counts_with no_counts vs).seconds
    ≡ own (number_in Milliseconds vs) (number_in Seconds vs)
by_starts own vs = rw (milliseconds_after no_counts vs, seconds_after no_counts vs) refl

-- ---- the fields of a record, one after the other

module _ (fields : List Field) (i : ℕ) (counts : Counts) (all : Counts) where
  pub next_field : (x : Field) → i < length fields → x ≡ get_or fields i x → (next : Counts)
      → next ≡ counts_with counts (counting (role_of x.id) x.octets)
      → counts_with counts (values_of (drop i fields)) ≡ all → counts_with next (values_of (drop (i + 1) fields)) ≡ all
  next_field x lt is next counted same =
      let split : drop i fields ≡ x ∷ drop (i + 1) fields =
      rw add-one (drop-cons fields i x lt ∙ ap (λ (y : Field). y ∷ drop (suc i) fields) (sym is)) in
      ap (λ (c : Counts). counts_with c (values_of (drop (i + 1) fields))) counted
      ∙ sym (counts-append counts (counting (role_of x.id) x.octets) (values_of (drop (i + 1) fields)))
      ∙ ap (counts_with counts)
      (sym (flat_map-cons (λ (y : Field). counting (role_of y.id) y.octets) x (drop (i + 1) fields)))
      ∙ ap (λ (fs : List Field). counts_with counts (values_of fs)) (sym split)
      ∙ same

  pub last_field : length fields ≤ i → counts_with counts (values_of (drop i fields)) ≡ all → counts ≡ all
  unfolding counts_with
  last_field le same = sym (ap (λ (fs : List Field). counts_with counts (values_of fs)) (drop_all i fields le)) ∙ same
