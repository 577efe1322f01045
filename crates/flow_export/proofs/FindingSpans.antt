-- Where the messages of a span are, message by message.
use Rattle.std.proofs.Common.{◌≡◌, ◌∙◌, ℕ, suc, ◌+◌, List, [], ◌∷◌, ◌++◌, length, Bool, true, false, refl, sym, ap}
use Rattle.std.proofs.Common.{length-append, arith, Option, Some, None, subst, take, drop, get_or, ◌<◌}
use Rattle.std.specs.Prelude.{◌||◌, if◌then◌else◌, Err, IsErrAnd, Result}
use Rattle.std.specs.List.{list_any}
use Rattle.std.specs.Option.{option_map_or}
use Rattle.flow_codec.specs.Templates.{AllTemplates}
use Rattle.flow_codec.specs.Raw.{RawMessage}
use Rattle.flow_codec.specs.Message.{in_fields, IsAccepted}
use Rattle.flow_measure.specs.Flows.{flows_of}
use Rattle.flow_measure.specs.History.{templates_from, Accepted, AreAcceptedFrom}
use Rattle.flow_measure.proofs.Histories.{accepted_then}
use Rattle.flow_codec.proofs.FaultLaws.{never_both}
use Rattle.flow_model.proofs.Accepting.{read_as, templates_then}
use Rattle.flow_refusals.specs.declared.read_refusal.ReadRefusal.{ReadRefusal}
use Rattle.flow_refusals.specs.declared.read_refusal.ReadRefusal.TheVariants as read
use Rattle.flow_segment.specs.Carry.{carry_from, octets_of, Carry}
use Rattle.flow_segment.specs.PartFlows.{IsWalkedInto}
use Rattle.flow_segment.proofs.Batches.{templates_carried}
use Rattle.flow_snapshot.specs.Answered.{IsAnswered, IsNoDamage}
use Rattle.flow_snapshot.proofs.KeptFlows.{answered_err}
use Rattle.flow_export.proofs.Passed.{next_accepted}
use Rattle.std.proofs.lemmas.List.{length-map, length-take-le, map-append, take_more}
use Rattle.flow_export.specs.declared.finding.Found.{Found}
use Rattle.flow_export.specs.Span.{before_first, has_flow, starts_within, up_to_last, FindsIn, IsFound}

pub either : (b c : Bool) → c ≡ true → (b || c) ≡ true
either true c is = refl
either false c is = is

pub neither : (b c : Bool) → b ≡ false → c ≡ false → (b || c) ≡ false
neither true c one is = absurd cc
neither false c one is = is

-- of an accepted message no damage is reported
pub walk_blameless : {X : Type 0} (takes : X → RawMessage → Type 0) (file at : ℕ) (octets : List ℕ)
    (before now after : AllTemplates) (m : RawMessage) (e : ReadRefusal) → IsAccepted octets before m after
    → IsWalkedInto takes file at octets before now (Err e) → IsNoDamage e
walk_blameless takes file at octets before now after m (read.Damaged f place) is (x, y, (all, (fault, bad))) =
    absurd (never_both before octets m after fault all is bad)
walk_blameless takes file at octets before now after m read.Fault is w = absurd w
walk_blameless takes file at octets before now after m read.OutOfMemory is w = tt

module _ (from to : ℕ) where
  any_then : (xs : List Accepted) (a : Accepted)
      → list_any (has_flow from to) (xs ++ a ∷ []) ≡ (list_any (has_flow from to) xs || has_flow from to a)
  any_then [] a = by (has_flow from to a)
    where
      by : (b : Bool) → (b || false) ≡ b
      by true = refl
      by false = refl
  any_then (x ∷ xs) a = by (has_flow from to x) (any_then xs a)
    where
      by : (b : Bool) → list_any (has_flow from to) (xs ++ a ∷ [])
          ≡ (list_any (has_flow from to) xs || has_flow from to a)
          → (b || list_any (has_flow from to) (xs ++ a ∷ []))
          ≡ ((b || list_any (has_flow from to) xs) || has_flow from to a)
      by true same = refl
      by false same = same

  -- one more after some that have none
  first_then : (xs : List Accepted) (a : Accepted) → has_flow from to a ≡ true
      → list_any (has_flow from to) xs ≡ false → before_first from to (xs ++ a ∷ []) ≡ length xs
  first_then [] a has none = rw has refl
  first_then (x ∷ xs) a has none = by (has_flow from to x) none (first_then xs a has)
    where
      by : (b : Bool) → (b || list_any (has_flow from to) xs) ≡ false
          → (list_any (has_flow from to) xs ≡ false → before_first from to (xs ++ a ∷ []) ≡ length xs)
          → (if b then 0 else suc (before_first from to (xs ++ a ∷ []))) ≡ suc (length xs)
      by true some others = absurd cc
      by false some others = ap suc (others some)

  -- after some of which one has
  first_stays : (xs : List Accepted) (a : Accepted) → list_any (has_flow from to) xs ≡ true
      → before_first from to (xs ++ a ∷ []) ≡ before_first from to xs
  first_stays [] a some = absurd cc
  first_stays (x ∷ xs) a some = by (has_flow from to x) some (first_stays xs a)
    where
      by : (b : Bool) → (b || list_any (has_flow from to) xs) ≡ true
          → (list_any (has_flow from to) xs ≡ true
          → before_first from to (xs ++ a ∷ []) ≡ before_first from to xs)
          → (if b then 0 else suc (before_first from to (xs ++ a ∷ [])))
          ≡ (if b then 0 else suc (before_first from to xs))
      by true has others = refl
      by false has others = ap suc (others has)

  any_last : (xs : List Accepted) (a : Accepted) → has_flow from to a ≡ true
      → list_any (has_flow from to) (xs ++ a ∷ []) ≡ true
  any_last xs a has = any_then xs a ∙ either (list_any (has_flow from to) xs) (has_flow from to a) has

  last_then : (xs : List Accepted) (a : Accepted) → has_flow from to a ≡ true
      → up_to_last from to (xs ++ a ∷ []) ≡ xs ++ a ∷ []
  last_then [] a has = rw has refl
  last_then (x ∷ xs) a has =
      by (list_any (has_flow from to) (x ∷ (xs ++ a ∷ []))) (any_last (x ∷ xs) a has) (last_then xs a has)
    where
      by : (b : Bool) → b ≡ true → up_to_last from to (xs ++ a ∷ []) ≡ xs ++ a ∷ []
          → (if b then x ∷ up_to_last from to (xs ++ a ∷ []) else []) ≡ x ∷ (xs ++ a ∷ [])
      by true is others = ap (λ (l : List Accepted). x ∷ l) others
      by false is others = absurd cc

  last_stays : (xs : List Accepted) (a : Accepted) → has_flow from to a ≡ false
      → up_to_last from to (xs ++ a ∷ []) ≡ up_to_last from to xs
  last_stays [] a none = rw none refl
  last_stays (x ∷ xs) a none =
      ap (λ (b : Bool). if b then x ∷ up_to_last from to (xs ++ a ∷ []) else []) (any_then (x ∷ xs) a)
      ∙ by (list_any (has_flow from to) (x ∷ xs)) (has_flow from to a) none (last_stays xs a none)
    where
      by : (b c : Bool) → c ≡ false → up_to_last from to (xs ++ a ∷ []) ≡ up_to_last from to xs
          → (if b || c then x ∷ up_to_last from to (xs ++ a ∷ []) else [])
          ≡ (if b then x ∷ up_to_last from to xs else [])
      by true c is others = ap (λ (l : List Accepted). x ∷ l) others
      by false true is others = absurd cc
      by false false is others = refl

  -- one message more that has a flow of the span
  found_more : (xs : List Accepted) (a : Accepted) (o : Option Found) (new : Found) → IsFound from to xs o
      → has_flow from to a ≡ true → new.before ≡ option_map_or (λ f. f.before) o (length xs)
      → new.upto ≡ length xs + 1 → IsFound from to (xs ++ a ∷ []) (Some new)
  found_more xs a o new was has first upto = (
    any_then xs a ∙ either (list_any (has_flow from to) xs) (has_flow from to a) has,
    by o was first,
    omega (arith, upto, ap length (last_then xs a has), length-append xs (a ∷ [])),
  )
    where
      by : (p : Option Found) → IsFound from to xs p → new.before ≡ option_map_or (λ f. f.before) p (length xs)
          → new.before ≡ before_first from to (xs ++ a ∷ [])
      by None none first = first ∙ sym (first_then xs a has none)
      by (Some f) (some, before, last) first = first ∙ before ∙ sym (first_stays xs a some)

  -- one that has none
  found_less : (xs : List Accepted) (a : Accepted) (o : Option Found) → IsFound from to xs o
      → has_flow from to a ≡ false → IsFound from to (xs ++ a ∷ []) o
  found_less xs a None none not =
      any_then xs a ∙ neither (list_any (has_flow from to) xs) (has_flow from to a) none not
  found_less xs a (Some f) (some, before, upto) not = (
    any_then xs a ∙ ap (λ (b : Bool). b || has_flow from to a) some,
    before ∙ sym (first_stays xs a some),
    upto ∙ ap length (sym (last_stays xs a not)),
  )

  pub finds_none : (t : AllTemplates) → FindsIn from to [] t t None
  finds_none t = ([], refl, tt, refl, refl)

  -- one message more, whose octets these are
  pub finds_more : (done : List (List ℕ)) (octets : List ℕ) (t now next : AllTemplates) (o : Option Found) (new : Found)
      (m : RawMessage) → FindsIn from to done t now o → IsAccepted octets now m next
      → has_flow from to (record { octets = octets; message = m; after = next }) ≡ true
      → new.before ≡ option_map_or (λ f. f.before) o (length done) → new.upto ≡ length done + 1
      → FindsIn from to (done ++ octets ∷ []) t next (Some new)
  finds_more done octets t now next o new m (xs, is, all, templates, found) accepted has first upto =
      let a : Accepted = record { octets = octets; message = m; after = next } in
      let many : length done ≡ length xs = sym (ap length is) ∙ length-map xs (λ (x : Accepted). x.octets) in (
        xs ++ a ∷ [],
        map-append (λ (x : Accepted). x.octets) xs (a ∷ []) ∙ ap (λ (l : List (List ℕ)). l ++ octets ∷ []) is,
        accepted_then t xs a all
            (subst (λ (s : AllTemplates). IsAccepted octets s m next) templates accepted),
        sym (templates_then t xs (a ∷ [])),
        found_more xs a o new found has
            (first ∙ ap (option_map_or (λ f. f.before) o) many)
            (upto ∙ ap (λ (n : ℕ). n + 1) many),
      )

  pub finds_less : (done : List (List ℕ)) (octets : List ℕ) (t now next : AllTemplates) (o : Option Found)
      (m : RawMessage) → FindsIn from to done t now o → IsAccepted octets now m next
      → has_flow from to (record { octets = octets; message = m; after = next }) ≡ false
      → FindsIn from to (done ++ octets ∷ []) t next o
  finds_less done octets t now next o m (xs, is, all, templates, found) accepted not =
      let a : Accepted = record { octets = octets; message = m; after = next } in (
        xs ++ a ∷ [],
        map-append (λ (x : Accepted). x.octets) xs (a ∷ []) ∙ ap (λ (l : List (List ℕ)). l ++ octets ∷ []) is,
        accepted_then t xs a all
            (subst (λ (s : AllTemplates). IsAccepted octets s m next) templates accepted),
        sym (templates_then t xs (a ∷ [])),
        found_less xs a o found not,
      )

  -- ---- the message at a place

  pub next_taken : (os : List (List ℕ)) (i : ℕ) (x y : List ℕ) → i < length os → x ≡ get_or os i x → y ≡ x
      → take (i + 1) os ≡ take i os ++ y ∷ []
  next_taken os i x y within is same =
      take_more os i x within ∙ ap (λ (a : List ℕ). take i os ++ a ∷ []) (sym is ∙ sym same)

  module _ (os : List (List ℕ)) (i : ℕ) (x y : List ℕ) (within : i < length os) (is : x ≡ get_or os i x) (same : y ≡ x)
      (t now next : AllTemplates) (o : Option Found) (so_far : FindsIn from to (take i os) t now o) (m : RawMessage)
      (accepted : IsAccepted y now m next) where
    pub step_more : (new : Found) → list_any (starts_within from to) (flows_of (in_fields m)) ≡ true
        → new.before ≡ option_map_or (λ f. f.before) o i → new.upto ≡ i + 1
        → FindsIn from to (take (i + 1) os) t next (Some new)
    step_more new has before upto =
        let count : length (take i os) ≡ i = length-take-le i os (omega (arith, within)) in
        subst (λ (l : List (List ℕ)). FindsIn from to l t next (Some new)) (sym (next_taken os i x y within is same))
        (finds_more (take i os) y t now next o new m so_far accepted has
        (before ∙ ap (option_map_or (λ f. f.before) o) (sym count))
        (upto ∙ ap (λ (n : ℕ). n + 1) (sym count)))

    pub step_less : list_any (starts_within from to) (flows_of (in_fields m)) ≡ false
        → FindsIn from to (take (i + 1) os) t next o
    step_less none =
        subst (λ (l : List (List ℕ)). FindsIn from to l t next o) (sym (next_taken os i x y within is same))
        (finds_less (take i os) y t now next o m so_far accepted none)

  -- ---- accepted messages

  -- what is found is of these
  pub finds_same : (octets : List (List ℕ)) (t now : AllTemplates) (o : Option Found) (list : List Accepted)
      → FindsIn from to octets t now o → AreAcceptedFrom t list → octets_of list ≡ octets
      → (now ≡ templates_from t list) × IsFound from to list o
  finds_same octets t now o list (xs, is, all, templates, found) accepted same =
      let lists : xs ≡ list = sym (read_as t xs octets all is) ∙ read_as t list octets accepted same in (
        templates ∙ ap (templates_from t) lists,
        subst (λ (ys : List Accepted). IsFound from to ys o) lists found,
      )

  -- the next one isn't refused by damage
  pub step_blameless : {X Y : Type 0} (takes : Y → RawMessage → Type 0) (P : X → Type 0) (r : Result X ReadRefusal)
      (e : ReadRefusal) (os more : List (List ℕ)) (i : ℕ) (octets : List ℕ) (list : List Accepted)
      (t now next : AllTemplates) (o : Option Found) (file at : ℕ) → drop i os ≡ octets ∷ more
      → FindsIn from to (take i os) t now o → AreAcceptedFrom t list → octets_of list ≡ os
      → IsErrAnd r (λ x. x ≡ e) → IsWalkedInto takes file at octets now next (Err e) → IsAnswered P r
  step_blameless takes P r e os more i octets list t now next o file at here (xs, is, all, templates, found) accepted same
      told walked =
      let before : Carry = record { templates = t; due = []; time = 0 } in
      let one = next_accepted before (carry_from before xs) os more i octets list here (xs, is, all, refl) accepted same in
      let moved : (carry_from before xs).templates ≡ now = templates_carried before xs ∙ sym templates in
      let under : IsAccepted octets now (one.0).message (one.0).after =
      subst (λ (s : AllTemplates). IsAccepted octets s (one.0).message (one.0).after) moved one.2 in
      answered_err P r e told
      (walk_blameless takes file at octets now next (one.0).after (one.0).message e under walked)
