-- What is passed on by the last file is what the archive passes on.
use Rattle.std.proofs.Common.{◌≡◌, ◌∙◌, ℕ, List, [], ◌∷◌, ◌++◌, length, take, refl, sym, ap, subst}
use Rattle.flow_codec.specs.Templates.{AllTemplates}
use Rattle.flow_measure.specs.History.{Accepted, AreAcceptedFrom, templates_from}
use Rattle.flow_segment.specs.Carry.{carry_from, carry_of, no_carry, prefix_of, Carry}
use Rattle.flow_segment.proofs.Batches.{carried_then, templates_carried}
use Rattle.flow_model.specs.Chain.{HandsOn, IsSegment}
use Rattle.flow_model.specs.Shelf.{Shelf}
use Rattle.flow_model.specs.State.{Part, State}
use Rattle.flow_model.proofs.Accepting.{read_as, read_once}
use Rattle.flow_export.specs.Export.{AreTemplatesAfter, PassesOn}

-- The time of no message is in no prefix.
time_alone : (t : ℕ) (xs : List Accepted)
    → prefix_of (carry_from (no_carry 0) xs) ≡ prefix_of (carry_from (no_carry t) xs)
time_alone t [] = refl
time_alone t (x ∷ xs) = refl

whole : {A : Type 0} (xs : List A) → take (length xs) xs ≡ xs
whole [] = refl
whole (x ∷ xs) = ap (λ ys. x ∷ ys) (whole xs)

pub of_segment : (part : Part) (carry passed : Carry) → IsSegment part carry
    → PassesOn (record { prefix = part.front; messages = part.messages }) (length part.messages) passed
    → prefix_of passed ≡ prefix_of carry
of_segment part carry passed segment (own, (first, read, own_is), (list, octets, accepted, is)) =
    let fronts : first ≡ segment.prefix = read_once part.front first segment.prefix read segment.front in
    let before : own.templates ≡ templates_from [] segment.prefix =
    ap (λ (c : Carry). c.templates) own_is ∙ templates_carried (no_carry 0) first ∙ ap (templates_from []) fronts in
    let lists : list ≡ segment.messages =
    sym (read_as (templates_from [] segment.prefix) list part.messages
    (subst (λ (t : AllTemplates). AreAcceptedFrom t list) before accepted) (octets ∙ whole part.messages))
    ∙ read_as (templates_from [] segment.prefix) segment.messages part.messages segment.accepted segment.octets in
    let all : passed ≡ carry_from (no_carry 0) (segment.prefix ++ segment.messages) =
    is ∙ ap (λ (c : Carry). carry_from c list) own_is ∙ ap (λ (ms : List Accepted). carry_from (carry_of first) ms) lists
    ∙ ap (λ (ms : List Accepted). carry_from (carry_of ms) segment.messages) fronts
    ∙ sym (carried_then (no_carry 0) segment.prefix segment.messages) in
    ap prefix_of all ∙ time_alone segment.time (segment.prefix ++ segment.messages)
    ∙ ap prefix_of (sym segment.hands_on)

pub handed : (s : State) (carry : Carry) (shelf : Shelf) (text : List ℕ) → HandsOn s carry
    → shelf.prefix ≡ s.active.front → shelf.active ≡ s.active.messages → AreTemplatesAfter shelf text
    → text ≡ prefix_of carry
handed s carry shelf text hands prefix active (passed, passes, is) =
    let own = hands.active in
    let same : carry ≡ own.0 = cc in
    let file : PassesOn (record { prefix = s.active.front; messages = s.active.messages }) (length s.active.messages)
    passed = subst (λ (ms : List (List ℕ)). PassesOn (record { prefix = s.active.front; messages = ms }) (length ms)
    passed) active (subst (λ (p : List ℕ). PassesOn (record { prefix = p; messages = shelf.active })
    (length shelf.active) passed) prefix passes) in
    is ∙ of_segment s.active own.0 passed own.2 file ∙ ap prefix_of (sym same)
