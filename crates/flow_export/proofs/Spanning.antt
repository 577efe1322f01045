-- The messages of a span: accepted after those before them, with all flows that start in it.
use Rattle.std.proofs.Common.{◌≡◌, ◌≢◌, ◌∙◌, ℕ, zero, suc, ◌+◌, ◌<◌, ◌≤◌, List, [], ◌∷◌, ◌++◌, length}
use Rattle.std.proofs.Common.{take, drop, refl, sym, ap, subst, append-nil, length-append, length-drop, arith}
use Rattle.std.proofs.Common.{Bool, true, false, true≢false}
use Rattle.std.specs.Prelude.{◌||◌, ◌==◌, ◌-◌, min, not, nat_lt, filter, cond, if◌then◌else◌}
use Rattle.std.specs.List.{flat_map, list_any}
use Rattle.std.proofs.lemmas.Bool.{le-ltb, lt-ltb, ne_eqb}
use Rattle.std.proofs.lemmas.List.{drop_at, drop_min, take_all}
use Rattle.std.proofs.lemmas.List.Concat.{flat_map-cons}
use Rattle.std.proofs.lemmas.List.Elements.{filter-append}
use Rattle.flow_codec.specs.Cutting.{length_of}
use Rattle.flow_codec.specs.Message.{header_octets, in_fields, set_octets, AreSets, Division, IsSet}
use Rattle.flow_codec.specs.Raw.{under, RawMessage, RawRecord, Took}
use Rattle.flow_codec.specs.Templates.{AllTemplates}
use Rattle.flow_measure.specs.declared.flow.Flow.{Flow}
use Rattle.flow_measure.specs.Flows.{flows_of, flows_of_records}
use Rattle.flow_measure.proofs.SinkSteps.{flows-in_fields}
use Rattle.flow_measure.specs.History.{flows_in, templates_from, Accepted, AreAcceptedFrom}
use Rattle.flow_measure.specs.Query.{flows_in_view}
use Rattle.flow_measure.specs.View.{View}
use Rattle.flow_model.specs.Shelf.{Shelf}
use Rattle.flow_model.specs.Views.{IsViewOf}
use Rattle.flow_model.proofs.Accepting.{accepted_rest}
use Rattle.flow_segment.specs.declared.sinks.Chosen.{Chosen}
use Rattle.flow_segment.specs.Batch.{id_of, LeavesTemplates}
use Rattle.flow_segment.specs.PartFlows.{flows_within, HasChosen}
use Rattle.flow_segment.proofs.Batches.{head_of, set_leaves as plain_leaves}
use Rattle.flow_export.specs.Export.{IsReadAs}
use Rattle.flow_export.specs.Span.{before_first, has_flow, holds_templates, is_of_span, is_of_templates, set_ids}
use Rattle.flow_export.specs.Span.{span_messages, starts_within, up_to_last, IsSpanExportOf}
use Rattle.flow_export.proofs.ReadBack.{read_with}

pub both_false : (x y : Bool) → (x || y) ≡ false → (x ≡ false) × (y ≡ false)
both_false true y e = absurd cc
both_false false y e = (refl, e)

none_pass : {X : Type 0} (test : X → Bool) (xs : List X) → list_any test xs ≡ false → filter test xs ≡ []
none_pass test [] none = refl
none_pass test (x ∷ xs) none =
    let each = both_false (test x) (list_any test xs) none in rw each.0 (none_pass test xs each.1)

pub any_pass : {X : Type 0} (test : X → Bool) (xs : List X) → not (length (filter test xs) == 0) ≡ list_any test xs
any_pass test [] = refl
any_pass {X} test (x ∷ xs) = by (test x) (any_pass test xs)
  where
    by : (b : Bool) → not (length (filter test xs) == 0) ≡ list_any test xs
        → not (length (cond b (x ∷ filter test xs) (filter test xs)) == 0) ≡ (b || list_any test xs)
    by true others = ap not (ne_eqb (suc (length (filter test xs))) 0 (λ e. omega (arith, e)))
    by false others = others

-- what held nothing has the flows of a message that start within
pub flows_taken : (m : RawMessage) (old new : Chosen) → old.flows.items ≡ []
    → Took (λ start taken now. HasChosen start.from start.to start.flows.items taken now.from now.to now.flows.items)
    m.header old m.records new → new.flows.items ≡ flows_within old.from old.to (flows_of (in_fields m))
flows_taken m old new none took =
    let taken = took old [] (refl, refl, sym (append-nil old.flows.items)) in
    taken.2
    ∙ ap (λ (l : List Flow). l ++ flows_within old.from old.to (flows_of_records (under m.header m.records))) none
    ∙ ap (flows_within old.from old.to) (sym (flows-in_fields m))

-- ---- octets without Sets of template records

-- a Set that isn't of template records
set_leaves : (domain : ℕ) (before : AllTemplates) (set : Division) (records : List RawRecord) (after : AllTemplates)
    → IsSet domain before set records after → is_of_templates set.id ≡ false → after ≡ before
set_leaves domain before set records after is other =
    let each = both_false (set.id == 2) (set.id == 3) other in
    let plain : set.id ≢ 2 = λ e. true≢false (sym (ap (λ (id : ℕ). id == 2) e) ∙ each.0) in
    let options : set.id ≢ 3 = λ e. true≢false (sym (ap (λ (id : ℕ). id == 3) e) ∙ each.1) in
    plain_leaves domain before set records after is plain options

ids_more : (most : ℕ) (octets : List ℕ) → 4 ≤ length octets
    → set_ids (suc most) octets ≡ id_of octets ∷ set_ids most (drop (length_of octets) octets)
ids_more most octets some =
    let enough : nat_lt (length octets) 4 ≡ false = le-ltb (length octets) 4 some in rw enough refl

-- one Set more
pub set_next : (n m : ℕ) (octets : List ℕ) → n ≡ suc m → 4 ≤ length octets
    → list_any is_of_templates (set_ids n octets)
    ≡ (is_of_templates (id_of octets)
    || list_any is_of_templates (set_ids m (drop (length_of octets) octets)))
set_next n m octets is some =
    ap (λ (k : ℕ). list_any is_of_templates (set_ids k octets)) is
    ∙ ap (list_any is_of_templates) (ids_more m octets some)

-- no Set more
pub set_none : (n : ℕ) (octets : List ℕ) → length octets < 4 → list_any is_of_templates (set_ids n octets) ≡ false
set_none zero octets few = refl
set_none (suc n) octets few =
    let short : nat_lt (length octets) 4 ≡ true = lt-ltb (length octets) 4 few in rw short refl

-- the Sets after a message's header
pub sets_begin : (n : ℕ) (octets : List ℕ) → n ≡ min 16 (length octets)
    → holds_templates octets
    ≡ list_any is_of_templates (set_ids (length octets - 0) (take (length octets - n) (drop n octets)))
sets_begin n octets is =
    let all : length octets - 0 ≡ length octets = omega arith in
    let sets : take (length octets - n) (drop n octets) ≡ drop 16 octets =
    take_all (length octets - n) (drop n octets) (omega (arith, length-drop n octets))
    ∙ ap (λ (k : ℕ). drop k octets) is ∙ drop_min 16 octets in
    sym (ap (λ (k : ℕ). list_any is_of_templates (set_ids k (take (length octets - n) (drop n octets)))) all
    ∙ ap (λ (l : List ℕ). list_any is_of_templates (set_ids (length octets) l)) sets)

module _ (octets rest : List ℕ) (i : ℕ)
    (so_far : holds_templates octets ≡ list_any is_of_templates (set_ids (length octets - i) rest)) where
  next_set_is : i < length octets → 4 ≤ length rest
      → holds_templates octets ≡ (is_of_templates (id_of rest)
      || list_any is_of_templates (set_ids (length octets - (i + 1)) (drop (length_of rest) rest)))
  next_set_is within some =
      so_far ∙ set_next (length octets - i) (length octets - (i + 1)) rest (omega (arith, within)) some

  -- it is of template records
  pub one_holds : (id : ℕ) → i < length octets → 4 ≤ length rest → id ≡ id_of rest → is_of_templates id ≡ true
      → true ≡ holds_templates octets
  one_holds id within some is templates =
      sym (next_set_is within some
      ∙ ap (λ (b : Bool). b
      || list_any is_of_templates (set_ids (length octets - (i + 1)) (drop (length_of rest) rest)))
      (sym (ap is_of_templates is) ∙ templates))

  -- it isn't
  pub next_holds : (id : ℕ) (after : List ℕ) → i < length octets → 4 ≤ length rest → id ≡ id_of rest
      → after ≡ drop (length_of rest) rest → is_of_templates id ≡ false
      → holds_templates octets ≡ list_any is_of_templates (set_ids (length octets - (i + 1)) after)
  next_holds id after within some is left other =
      next_set_is within some
      ∙ ap (λ (b : Bool). b
      || list_any is_of_templates (set_ids (length octets - (i + 1)) (drop (length_of rest) rest)))
      (sym (ap is_of_templates is) ∙ other)
      ∙ ap (λ (l : List ℕ). list_any is_of_templates (set_ids (length octets - (i + 1)) l)) (sym left)

  pub none_holds : length rest < 4 → false ≡ holds_templates octets
  none_holds few = sym (so_far ∙ set_none (length octets - i) rest few)

  pub end_holds : i ≡ length octets → false ≡ holds_templates octets
  end_holds end =
      let none : length octets - i ≡ 0 = omega (arith, end) in
      sym (so_far ∙ ap (λ (n : ℕ). list_any is_of_templates (set_ids n rest)) none)

sets_leave : (most domain : ℕ) (before : AllTemplates) (sets : List Division) (records : List RawRecord)
    (after : AllTemplates) → AreSets domain before sets records after → length (flat_map set_octets sets) ≤ most
    → list_any is_of_templates (set_ids most (flat_map set_octets sets)) ≡ false → after ≡ before
sets_leave most domain before [] records after are few none = are.1
sets_leave zero domain before (s ∷ ss) records after are few none =
    absurd (omega (
      arith,
      few,
      ap length (flat_map-cons set_octets s ss),
      length-append (set_octets s) (flat_map set_octets ss),
    ))
sets_leave (suc most) domain before (s ∷ ss) records after are few none =
    let octets = flat_map set_octets (s ∷ ss) in
    let rest = flat_map set_octets ss in
    let split : octets ≡ set_octets s ++ rest = flat_map-cons set_octets s ss in
    let count = ap length split in
    let both = length-append (set_octets s) rest in
    let head = head_of s octets rest (are.3).id (are.3).fits split in
    let others : drop (length_of octets) octets ≡ rest = ap (λ (n : ℕ). drop n octets) head.len ∙ head.after in
    let ids : set_ids (suc most) octets ≡ s.id ∷ set_ids most rest =
    ids_more most octets (omega (arith, count, both))
    ∙ ap (λ (id : ℕ). id ∷ set_ids most (drop (length_of octets) octets)) head.id
    ∙ ap (λ (l : List ℕ). s.id ∷ set_ids most l) others in
    let each = both_false (is_of_templates s.id) (list_any is_of_templates (set_ids most rest))
    (sym (ap (list_any is_of_templates) ids) ∙ none) in
    sets_leave most domain are.2 ss are.1 after are.4 (omega (arith, few, count, both)) each.1
    ∙ set_leaves domain before s are.0 are.2 are.3 each.0

pub leaves_templates : (octets : List ℕ) → holds_templates octets ≡ false → LeavesTemplates octets
leaves_templates octets none before message after accepted =
    let front = accepted.0 in
    let sets = flat_map set_octets front.sets in
    let own : drop 16 octets ≡ sets =
    ap (drop 16) front.parts ∙ drop_at (header_octets message.header) (sets ++ []) 16 refl ∙ append-nil sets in
    let fits : length sets ≤ length octets =
    omega (
      arith,
      ap length front.parts,
      length-append (header_octets message.header) (sets ++ []),
      length-append sets [],
    ) in
    sets_leave (length octets) message.header.domain before front.sets message.records after front.hold fits
    (sym (ap (λ (l : List ℕ). list_any is_of_templates (set_ids (length octets) l)) own) ∙ none)

-- ---- the flows of the span

module _ (from to : ℕ) where
  flows_none : (a : Accepted) (more : List Accepted) → has_flow from to a ≡ false
      → flows_within from to (flows_in (a ∷ more)) ≡ flows_within from to (flows_in more)
  flows_none a more none =
      filter-append (starts_within from to) (flows_of (in_fields a.message)) (flows_in more)
      ∙ ap (λ (l : List Flow). l ++ flows_within from to (flows_in more))
      (none_pass (starts_within from to) (flows_of (in_fields a.message)) none)

  flows_more : (a : Accepted) (xs ys : List Accepted)
      → flows_within from to (flows_in xs) ≡ flows_within from to (flows_in ys)
      → flows_within from to (flows_in (a ∷ xs)) ≡ flows_within from to (flows_in (a ∷ ys))
  flows_more a xs ys same =
      let own = flows_of (in_fields a.message) in
      filter-append (starts_within from to) own (flows_in xs)
      ∙ ap (λ (l : List Flow). flows_within from to own ++ l) same
      ∙ sym (filter-append (starts_within from to) own (flows_in ys))

  first_flows : (kept : List Accepted)
      → flows_within from to (flows_in (drop (before_first from to kept) kept)) ≡ flows_within from to (flows_in kept)
  first_flows [] = refl
  first_flows (a ∷ more) = by (has_flow from to a) refl (first_flows more)
    where
      by : (b : Bool) → has_flow from to a ≡ b
          → flows_within from to (flows_in (drop (before_first from to more) more))
          ≡ flows_within from to (flows_in more)
          → flows_within from to (flows_in (drop (if b then 0 else suc (before_first from to more)) (a ∷ more)))
          ≡ flows_within from to (flows_in (a ∷ more))
      by true is others = refl
      by false is others = others ∙ sym (flows_none a more is)

  no_flows : (xs : List Accepted) → list_any (has_flow from to) xs ≡ false → flows_within from to (flows_in xs) ≡ []
  no_flows [] none = refl
  no_flows (a ∷ more) none =
      let each = both_false (has_flow from to a) (list_any (has_flow from to) more) none in
      flows_none a more each.0 ∙ no_flows more each.1

  last_flows : (xs : List Accepted)
      → flows_within from to (flows_in (up_to_last from to xs)) ≡ flows_within from to (flows_in xs)
  last_flows [] = refl
  last_flows (a ∷ more) = by (list_any (has_flow from to) (a ∷ more)) refl (last_flows more)
    where
      by : (b : Bool) → list_any (has_flow from to) (a ∷ more) ≡ b
          → flows_within from to (flows_in (up_to_last from to more)) ≡ flows_within from to (flows_in more)
          → flows_within from to (flows_in (if b then a ∷ up_to_last from to more else []))
          ≡ flows_within from to (flows_in (a ∷ more))
      by true is others = flows_more a (up_to_last from to more) more others
      by false is others = sym (no_flows (a ∷ more) is)

  chosen_flows : (xs : List Accepted)
      → flows_within from to (flows_in (filter (is_of_span from to) xs)) ≡ flows_within from to (flows_in xs)
  chosen_flows [] = refl
  chosen_flows (a ∷ more) = by (is_of_span from to a) refl (chosen_flows more)
    where
      by : (b : Bool) → is_of_span from to a ≡ b
          → flows_within from to (flows_in (filter (is_of_span from to) more)) ≡ flows_within from to (flows_in more)
          → flows_within from to (flows_in (cond b (a ∷ filter (is_of_span from to) more)
          (filter (is_of_span from to) more))) ≡ flows_within from to (flows_in (a ∷ more))
      by true is others = flows_more a (filter (is_of_span from to) more) more others
      by false is others =
          others ∙ sym (flows_none a more (both_false (has_flow from to a) (holds_templates a.octets) is).0)

  pub span_flows : (v : View)
      → flows_within from to (flows_in (span_messages from to v.kept)) ≡ flows_in_view from to v
  span_flows v =
      let rest = drop (before_first from to v.kept) v.kept in
      chosen_flows (up_to_last from to rest) ∙ last_flows rest ∙ first_flows v.kept

  -- ---- accepted again

  last_accepted : (t : AllTemplates) (xs : List Accepted) → AreAcceptedFrom t xs
      → AreAcceptedFrom t (up_to_last from to xs)
  last_accepted t [] all = tt
  last_accepted t (a ∷ more) all =
      by (list_any (has_flow from to) (a ∷ more)) (last_accepted a.after more all.1)
    where
      by : (b : Bool) → AreAcceptedFrom a.after (up_to_last from to more)
          → AreAcceptedFrom t (if b then a ∷ up_to_last from to more else [])
      by true others = (all.0, others)
      by false others = tt

  chosen_accepted : (t : AllTemplates) (xs : List Accepted) → AreAcceptedFrom t xs
      → AreAcceptedFrom t (filter (is_of_span from to) xs)
  chosen_accepted t [] all = tt
  chosen_accepted t (a ∷ more) all = by (is_of_span from to a) refl (chosen_accepted a.after more all.1)
    where
      by : (b : Bool) → is_of_span from to a ≡ b → AreAcceptedFrom a.after (filter (is_of_span from to) more)
          → AreAcceptedFrom t (cond b (a ∷ filter (is_of_span from to) more) (filter (is_of_span from to) more))
      by true is others = (all.0, others)
      by false is others =
          subst (λ (s : AllTemplates). AreAcceptedFrom s (filter (is_of_span from to) more))
          (leaves_templates a.octets (both_false (has_flow from to a) (holds_templates a.octets) is).1 t a.message
          a.after all.0) others

  pub span_read : (s : Shelf) (v : View) (text : List ℕ) → IsViewOf s v → IsSpanExportOf s v from to text
      → IsReadAs text (templates_from v.templates (take (before_first from to v.kept) v.kept))
      (span_messages from to v.kept)
  span_read s v text view (carry, before, is) =
      let skip = before_first from to v.kept in
      let t = templates_from v.templates (take skip v.kept) in
      let rest = drop skip v.kept in
      let all : AreAcceptedFrom t rest = accepted_rest v.templates skip v.kept view.accepted in
      read_with s v view skip (span_messages from to v.kept) carry text before
      (chosen_accepted t (up_to_last from to rest) (last_accepted t rest all)) is
