-- When the flows of messages in memory start.
use Rattle.std.proofs.Common.{◌≡◌, ℕ, ◌+◌, ◌<◌, List, [], ◌∷◌, ◌++◌, length, map, take, Option, Some, None, refl, sym, ap}
use Rattle.std.proofs.Common.{subst, ◌∙◌, get_or}
use Rattle.std.specs.Prelude.{unwrap_or, IfSome}
use Rattle.std.proofs.lemmas.List.{map-append, take_more}
use Rattle.flow_codec.specs.Fault.{IsOctets}
use Rattle.flow_codec.specs.Message.{joined, IsAccepted}
use Rattle.flow_codec.specs.Templates.{AllTemplates}
use Rattle.flow_measure.specs.declared.span.PartSpan.{PartSpan}
use Rattle.flow_measure.specs.History.{Accepted, AreAcceptedFrom, templates_from}
use Rattle.flow_measure.specs.Span.{no_span}
use Rattle.flow_model.proofs.Accepting.{accepted_then, templates_then}
use Rattle.flow_segment.specs.Carry.{octets_of}
use Rattle.flow_segment.specs.Prefix.{IsRestated}
use Rattle.flow_segment.specs.Spans.{noted, AreNotedSoFar, IsOwnSpan}
use Rattle.flow_segment.proofs.NotingStarts.{all_then}
use Rattle.flow_segment.proofs.Sure.{joined_octets, no_octets}

pub one_more : (prefix : List ℕ) (list : List (List ℕ)) (i : ℕ) (item here : List ℕ) (now after : AllTemplates)
    (span new : Option PartSpan) → i < length list → item ≡ get_or list i item → here ≡ item
    → AreNotedSoFar prefix (take i list) now span
    → IsOctets here × (a : Accepted) × (a.octets ≡ here) × IsAccepted here now a.message a.after × (after ≡ a.after)
    × (new ≡ noted a.message span)
    → AreNotedSoFar prefix (take (i + 1) list) after new
one_more prefix list i item here now after span new within is same
    (fit, before, own, restated, accepted, octets, moved, has) (bytes, a, own_octets, one, there, noting) =
    let x : Accepted = record { octets = here; message = a.message; after = a.after } in
    let next : take i list ++ here ∷ [] ≡ take (i + 1) list =
    ap (λ (o : List ℕ). take i list ++ o ∷ []) (same ∙ is) ∙ sym (take_more list i item within) in (
      subst (λ (l : List (List ℕ)). IsOctets (joined l)) next (joined_octets (take i list) here fit bytes),
      before,
      own ++ x ∷ [],
      restated,
      accepted_then before own (x ∷ []) accepted
          (subst (λ (t : AllTemplates). AreAcceptedFrom t (x ∷ [])) moved (one, tt)),
      map-append (λ (y : Accepted). y.octets) own (x ∷ []) ∙ ap (λ (os : List (List ℕ)). os ++ here ∷ []) octets
          ∙ next,
      there ∙ sym (templates_then before own (x ∷ [])),
      noting ∙ ap (noted a.message) has ∙ all_then own x (Some no_span),
    )

pub all_so_far : (prefix : List ℕ) (messages : List (List ℕ)) (now : AllTemplates) (span : Option PartSpan)
    → IsOctets prefix → AreNotedSoFar prefix messages now span → IfSome span (IsOwnSpan prefix messages)
all_so_far prefix messages now None front h = tt
all_so_far prefix messages now (Some s) front (fit, before, own, restated, accepted, octets, moved, has) =
    (front, fit, before, own, restated, accepted, octets, ap (λ (o : Option PartSpan). unwrap_or o s) has)
