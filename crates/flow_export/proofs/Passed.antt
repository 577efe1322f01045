-- What messages pass on, taken in one after the other.
use Rattle.std.proofs.Common.{◌≡◌, ℕ, ◌+◌, ◌<◌, List, [], ◌∷◌, ◌++◌, length, take, drop, refl, sym, ap, subst, ◌∙◌}
use Rattle.std.proofs.Common.{get_or}
use Rattle.std.specs.Prelude.{min, Result, IsErrAnd}
use Rattle.std.proofs.lemmas.List.{take-append-drop, take-map, drop-map, take_more}
use Rattle.flow_codec.specs.Cutting.{IsCutOff}
use Rattle.flow_codec.specs.Message.{IsAccepted}
use Rattle.flow_codec.specs.Templates.{AllTemplates}
use Rattle.flow_measure.specs.History.{Accepted, AreAcceptedFrom, templates_from}
use Rattle.flow_segment.specs.Carry.{carry_from, carry_of, carry_with, no_carry, octets_of, Carry, IsTaken}
use Rattle.flow_segment.specs.Batch.{AreTaken}
use Rattle.flow_segment.proofs.Batches.{carried_then, taken_more, templates_carried}
use Rattle.flow_segment.proofs.Restating.{one_more, Behind}
use Rattle.flow_model.proofs.Accepting.{accepted_first, accepted_rest, read_as}
use Rattle.flow_refusals.specs.declared.read_refusal.ReadRefusal.{ReadRefusal}
use Rattle.flow_snapshot.specs.Answered.{IsAnswered, IsNoDamage}
use Rattle.flow_snapshot.proofs.KeptFlows.{answered_err}
use Rattle.flow_export.specs.Export.{PassesOn, PrefixPasses}
use Rattle.flow_export.proofs.Choosing.{first_ones}

-- ---- a prefix

-- what was read of a prefix so far, and what it passes on
abbrev pub IsPassedSoFar : List ℕ → List ℕ → Carry → Type 0
IsPassedSoFar prefix rest carry =
    (place : ℕ) × Behind (λ ms. carry ≡ carry_of ms) prefix 0 [] carry.templates place rest

pub none_passed : (prefix : List ℕ) (carry : Carry) → carry ≡ no_carry 0 → IsPassedSoFar prefix prefix carry
none_passed prefix carry none = (
  0,
  record {
    messages = [];
    read = record { divided = record { whole = refl; each = tt }; accepted = tt };
    kind = none;
    same = ap (λ (c : Carry). c.templates) none;
    at = refl;
  },
)

-- a message more, whose octets and templates are given by others
pub carried_one : (before now new : Carry) (ms : List Accepted) (message : List ℕ) (a : Accepted)
    → now ≡ carry_from before ms → new ≡ carry_with now a → (moved : new.templates ≡ a.after)
    → new ≡ carry_from before
    (ms ++ record { octets = message; message = a.message; after = new.templates } ∷ [])
carried_one before now new ms message a was is moved =
    is
    ∙ ap (λ (t : AllTemplates). carry_with now (record { octets = message; message = a.message; after = t })) (sym moved)
    ∙ ap (λ (c : Carry). carry_with c (record { octets = message; message = a.message; after = new.templates })) was
    ∙ sym (carried_then before ms
    (record { octets = message; message = a.message; after = new.templates } ∷ []))

pub one_passed : (prefix rest message left : List ℕ) (n : ℕ) (now new : Carry) → IsPassedSoFar prefix rest now
    → IsCutOff (take n rest) → message ≡ take n rest → left ≡ drop n rest → IsTaken message now new
    → IsPassedSoFar prefix left new
one_passed prefix rest message left n now new (place, b) cut front back (a, octets, accepted, is) =
    let moved : new.templates ≡ a.after = ap (λ (c : Carry). c.templates) is in (
      place + length message,
      one_more (λ ms. now ≡ carry_of ms) (λ ms. new ≡ carry_of ms) prefix 0 [] now.templates new.templates place
          (place + length message) rest left message a.message b (subst IsCutOff (sym front) cut)
          (sym (take-append-drop n rest) ∙ ap (λ (o : List ℕ). o ++ drop n rest) (sym front)
          ∙ ap (λ (o : List ℕ). message ++ o) (sym back))
          refl (subst (IsAccepted message now.templates a.message) (sym moved) accepted)
          (carried_one (no_carry 0) now new b.messages message a b.kind is moved),
    )

pub whole_passed : (prefix rest : List ℕ) (carry : Carry) → length rest ≡ 0 → IsPassedSoFar prefix rest carry
    → PrefixPasses prefix carry
whole_passed prefix [] carry none (place, b) = (b.messages, b.read, b.kind)
whole_passed prefix (o ∷ os) carry none (place, b) = absurd cc

-- ---- messages of a file

pub one_taken : (before now new : Carry) (os : List (List ℕ)) (i : ℕ) (item here : List ℕ) → i < length os
    → item ≡ get_or os i item → here ≡ item → AreTaken (take i os) before now → IsTaken here now new
    → AreTaken (take (i + 1) os) before new
one_taken before now new os i item here within is same t taken =
    subst (λ (xs : List (List ℕ)). AreTaken xs before new)
    (sym (take_more os i item within ∙ ap (λ (x : List ℕ). take i os ++ x ∷ []) (sym is ∙ sym same)))
    (taken_more (take i os) here before now new t taken)

-- messages that are taken in are the accepted ones of these octets
pub taken_are : (before now : Carry) (os : List (List ℕ)) (list : List Accepted) → AreTaken os before now
    → AreAcceptedFrom before.templates list → octets_of list ≡ os → now ≡ carry_from before list
taken_are before now os list t accepted is =
    t.3 ∙ ap (carry_from before) (sym (read_as before.templates t.0 os t.2 t.1)
    ∙ read_as before.templates list os accepted is)

first_of : (before : AllTemplates) (list : List Accepted) (o : List ℕ) (more : List (List ℕ))
    → AreAcceptedFrom before list → octets_of list ≡ o ∷ more
    → (a : Accepted) × (a.octets ≡ o) × IsAccepted o before a.message a.after
first_of before [] o more accepted is = absurd cc
first_of before (a ∷ list) o more accepted is =
    let same : a.octets ≡ o = cc in
    (a, same, subst (λ (x : List ℕ). IsAccepted x before a.message a.after) same accepted.0)

-- the next one of them
pub next_accepted : (before now : Carry) (os more : List (List ℕ)) (i : ℕ) (o : List ℕ) (list : List Accepted)
    → drop i os ≡ o ∷ more → AreTaken (take i os) before now → AreAcceptedFrom before.templates list
    → octets_of list ≡ os → (a : Accepted) × (a.octets ≡ o) × IsAccepted o now.templates a.message a.after
next_accepted before now os more i o list next t accepted is =
    let front = take i list in
    let first = accepted_first before.templates i list accepted in
    let same : now ≡ carry_from before front = taken_are before now (take i os) front t first
    (sym (take-map (λ (a : Accepted). a.octets) i list) ∙ ap (take i) is) in
    let moved : templates_from before.templates front ≡ now.templates =
    sym (templates_carried before front) ∙ ap (λ (c : Carry). c.templates) (sym same) in
    first_of now.templates (drop i list) o more
    (subst (λ (s : AllTemplates). AreAcceptedFrom s (drop i list)) moved (accepted_rest before.templates i list accepted))
    (sym (drop-map (λ (a : Accepted). a.octets) i list) ∙ ap (drop i) is ∙ next)

-- what is reported of it is no damage
pub next_blameless : {X : Type 0} (before now : Carry) (os more : List (List ℕ)) (i : ℕ) (o : List ℕ)
    (list : List Accepted) (P : X → Type 0) (r : Result X ReadRefusal) (e : ReadRefusal) → drop i os ≡ o ∷ more
    → AreTaken (take i os) before now → AreAcceptedFrom before.templates list → octets_of list ≡ os
    → IsErrAnd r (λ x. x ≡ e)
    → ((a : Accepted) → a.octets ≡ o → IsAccepted o now.templates a.message a.after → IsNoDamage e)
    → IsAnswered P r
next_blameless before now os more i o list P r e next t accepted is told given =
    let one = next_accepted before now os more i o list next t accepted is in
    answered_err P r e told (given one.0 one.1 one.2)

-- ---- a file's first messages

-- what the prefix and the first messages pass on
pub passes : (prefix : List ℕ) (messages : List (List ℕ)) (count most n : ℕ) (own carry : Carry) → most ≡ length messages
    → n ≡ min count most → PrefixPasses prefix own → AreTaken (take n messages) own carry
    → PassesOn (record { prefix = prefix; messages = messages }) count carry
passes prefix messages count most n own carry is few front taken =
    (own, front, subst (λ (os : List (List ℕ)). AreTaken os own carry) (first_ones count most n messages is few) taken)

pub first_accepted : (own : Carry) (before : AllTemplates) (list : List Accepted) (messages : List (List ℕ)) (n : ℕ)
    → own.templates ≡ before → AreAcceptedFrom before list → octets_of list ≡ messages
    → AreAcceptedFrom own.templates (take n list) × (octets_of (take n list) ≡ take n messages)
first_accepted own before list messages n same accepted is = (
  subst (λ (t : AllTemplates). AreAcceptedFrom t (take n list)) (sym same) (accepted_first before n list accepted),
  sym (take-map (λ (a : Accepted). a.octets) n list) ∙ ap (take n) is,
)
