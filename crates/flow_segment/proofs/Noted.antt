-- Messages that are taken in one after the other, with the starts of their flows noted.
use Rattle.std.proofs.Common.{◌≡◌, ℕ, List, [], ◌∷◌, ◌++◌, refl, sym, ◌∙◌, ap, subst}
use Rattle.std.specs.Prelude.{Option, Some}
use Rattle.std.proofs.lemmas.List.{map-append}
use Rattle.flow_codec.specs.Message.{IsAccepted}
use Rattle.flow_codec.specs.Templates.{AllTemplates}
use Rattle.flow_measure.specs.declared.span.PartSpan.{PartSpan}
use Rattle.flow_measure.specs.History.{Accepted, AreAcceptedFrom, templates_from}
use Rattle.flow_measure.specs.Span.{no_span}
use Rattle.flow_measure.proofs.Histories.{accepted_then}
use Rattle.flow_segment.specs.Batch.{AreTaken, AreTakenNoting, IsTakenNoting}
use Rattle.flow_segment.specs.Carry.{Carry, carry_from, carry_with, octets_of, IsTaken}
use Rattle.flow_segment.specs.Prefix.{IsRestated}
use Rattle.flow_segment.specs.Spans.{all_noted, noted, AreNotedSoFar}
use Rattle.flow_segment.proofs.Batches.{carried_then, templates_carried}
use Rattle.flow_segment.proofs.NotingStarts.{all_after, all_then, none_after}
use Rattle.flow_segment.proofs.Sure.{all_joined_octets, joined_octets, no_octets}

pub is_taken : (octets : List ℕ) (old new : Carry) (before after : Option PartSpan)
    → IsTakenNoting octets old new before after → IsTaken octets old new
is_taken octets old new before after h = (h.1, h.2, h.3, h.4)

pub are_taken : (octets : List (List ℕ)) (old new : Carry) (before after : Option PartSpan)
    → AreTakenNoting octets old new before after → AreTaken octets old new
are_taken octets old new before after h = (h.1, h.2, h.3, h.4)

pub none_taken : (c : Carry) (span : Option PartSpan) → AreTakenNoting [] c c span span
none_taken c span = (no_octets, [], refl, tt, refl, none_after span)

-- one message more
pub taken_more : (done : List (List ℕ)) (octets : List ℕ) (old mid new : Carry) (before between after : Option PartSpan)
    → AreTakenNoting done old mid before between → IsTakenNoting octets mid new between after
    → AreTakenNoting (done ++ octets ∷ []) old new before after
taken_more done octets old mid new before between after (fit, xs, own, accepted, carry, noting)
    (bytes, a, same, one, next, last) =
    let here : mid.templates ≡ templates_from old.templates xs =
    ap (λ (c : Carry). c.templates) carry ∙ templates_carried old xs in (
      joined_octets done octets fit bytes,
      xs ++ a ∷ [],
      map-append (λ (x : Accepted). x.octets) xs (a ∷ []) ∙ ap (λ (l : List (List ℕ)). l ++ a.octets ∷ []) own
          ∙ ap (λ (o : List ℕ). done ++ o ∷ []) same,
      accepted_then old.templates xs a accepted
          (subst (λ (o : List ℕ). IsAccepted o (templates_from old.templates xs) a.message a.after) (sym same)
          (subst (λ (t : AllTemplates). IsAccepted octets t a.message a.after) here one)),
      next ∙ ap (λ (c : Carry). carry_with c a) carry ∙ sym (carried_then old xs (a ∷ [])),
      last ∙ ap (noted a.message) noting ∙ all_then xs a before,
    )

accepted_join : (before : AllTemplates) (xs ys : List Accepted) → AreAcceptedFrom before xs
    → AreAcceptedFrom (templates_from before xs) ys → AreAcceptedFrom before (xs ++ ys)
accepted_join before [] ys h k = k
accepted_join before (x ∷ xs) ys h k = (h.0, accepted_join x.after xs ys h.1 k)

templates_join : (before : AllTemplates) (xs ys : List Accepted)
    → templates_from before (xs ++ ys) ≡ templates_from (templates_from before xs) ys
templates_join before [] ys = refl
templates_join before (x ∷ xs) ys = templates_join x.after xs ys

-- those of a batch after those that were noted so far
pub noted_more : (prefix : List ℕ) (done octets : List (List ℕ)) (old new : Carry) (before after : Option PartSpan)
    → AreNotedSoFar prefix done old.templates before → AreTakenNoting octets old new before after
    → AreNotedSoFar prefix (done ++ octets) new.templates after
noted_more prefix done octets old new before after (fit, start, xs, restated, accepted, own, now, has)
    (bytes, ys, same, more, carry, noting) = (
      all_joined_octets done octets fit bytes,
      start,
      xs ++ ys,
      restated,
      accepted_join start xs ys accepted (subst (λ (t : AllTemplates). AreAcceptedFrom t ys) now more),
      map-append (λ (x : Accepted). x.octets) xs ys ∙ ap (λ (l : List (List ℕ)). l ++ octets_of ys) own
          ∙ ap (λ (l : List (List ℕ)). done ++ l) same,
      ap (λ (c : Carry). c.templates) carry ∙ templates_carried old ys
          ∙ ap (λ (t : AllTemplates). templates_from t ys) now ∙ sym (templates_join start xs ys),
      noting ∙ ap (all_noted ys) has ∙ all_after xs ys (Some no_span),
    )

-- none as yet
pub none_so_far : (prefix : List ℕ) (now : AllTemplates) → IsRestated prefix now
    → AreNotedSoFar prefix [] now (Some no_span)
none_so_far prefix now restated = (no_octets, now, [], restated, tt, refl, refl, refl)
