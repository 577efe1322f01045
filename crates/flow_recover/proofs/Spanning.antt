-- When the flows of files that are read start.
use Rattle.std.proofs.Common.{◌≡◌, ℕ, List, [], ◌∷◌, ◌++◌, length, Option, Some, None, sym, ap, subst, ◌∙◌}
use Rattle.std.proofs.Common.{arith}
use Rattle.std.specs.Prelude.{unwrap_or}
use Rattle.std.proofs.lemmas.List.{take_all}
use Rattle.flow_manifest.specs.declared.manifest.Kind.{Kind}
use Rattle.flow_manifest.specs.declared.manifest.Kind.TheVariants.{Wide, Rolled, Sealed, Active}
use Rattle.flow_manifest.specs.declared.manifest.Entry.{Entry}
use Rattle.flow_manifest.specs.declared.manifest.Manifest.{Manifest}
use Rattle.flow_codec.specs.Fault.{IsOctets}
use Rattle.flow_codec.specs.Message.{joined}
use Rattle.flow_measure.specs.declared.span.PartSpan.{PartSpan}
use Rattle.flow_measure.specs.History.{Accepted, AreAcceptedFrom}
use Rattle.flow_measure.specs.Span.{no_span}
use Rattle.flow_measure.specs.Sums.{Table}
use Rattle.flow_rolled.specs.declared.row_span.RowSpan.{RowSpan}
use Rattle.flow_rolled.specs.Rollup.{IsRollup}
use Rattle.flow_rolled.specs.Spans.{HasSpan}
use Rattle.flow_segment.specs.Carry.{no_carry, octets_of, Carry}
use Rattle.flow_segment.specs.Spans.{all_noted, IsOwnSpan}
use Rattle.flow_model.specs.State.{Part}
use Rattle.flow_model.specs.Standing.{IsRolledAt, IsSealedAt, StandsAs}
use Rattle.flow_recover.specs.Reading.{IsRestatement}
use Rattle.flow_recover.specs.Spans.{AreSpansOf, IsSpanOf}
use Rattle.flow_recover.proofs.Accepting.{carry_templates}
use Rattle.flow_recover.proofs.Recovering.{one_part}

-- ---- a sealed segment

pub never_none : (messages : List Accepted) (span : Option PartSpan) → span ≡ all_noted messages (Some no_span)
    → span ≡ None → ⊥
never_none messages span is none = absurd cc

pub segment_span : (p : Part) (front : Carry) (messages : List Accepted) (span : PartSpan) (noted : Option PartSpan)
    → IsOctets p.front → IsOctets (joined p.messages) → IsRestatement p.front front
    → AreAcceptedFrom front.templates messages → octets_of messages ≡ p.messages
    → noted ≡ Some span → noted ≡ all_noted messages (Some no_span) → IsOwnSpan p.front p.messages span
segment_span p front messages span noted first own_octets (ms, read, none, is) accepted own here all = (
  first,
  own_octets,
  front.templates,
  messages,
  (ms, read, none, ap (λ (c : Carry). c.templates) is ∙ carry_templates (no_carry 0) ms),
  accepted,
  own,
  ap (λ (o : Option PartSpan). unwrap_or o span) (sym here ∙ all),
)

pub spanned_sealed : (m : Manifest) (octets : List ℕ) (e : Entry) (kind : Kind) (span : PartSpan) (q : Part)
    → kind ≡ Sealed → IsSealedAt octets e q → IsOwnSpan q.front q.messages span → (p : Part) → StandsAs kind octets e p
    → IsSpanOf m kind p span
spanned_sealed m octets e Sealed span q is at has p stands =
    subst (λ (x : Part). IsOwnSpan x.front x.messages span) (sym (one_part Sealed octets e p q stands at)) has
spanned_sealed m octets e Wide span q is at has p stands = absurd cc
spanned_sealed m octets e Rolled span q is at has p stands = absurd cc
spanned_sealed m octets e Active span q is at has p stands = absurd cc

-- ---- a file of sums

pub first_two : {s : RowSpan} {octets : List ℕ} → HasSpan s octets → (table : Table) × IsRollup s.width octets table
first_two (table, rollup, is) = (table, rollup)

sum_span : (s : RowSpan) (octets : List ℕ) (e : Entry) (p : Part) → length octets ≡ e.length → HasSpan s octets
    → IsRolledAt octets e p → HasSpan s p.front
sum_span s octets e p whole has at =
    subst (HasSpan s) (sym (take_all e.length octets (omega (arith, whole))) ∙ at.front) has

pub spanned_wide : (m : Manifest) (octets : List ℕ) (e : Entry) (kind : Kind) (span : PartSpan) → kind ≡ Wide
    → length octets ≡ e.length → HasSpan (record { width = m.wide; span = span }) octets → (p : Part)
    → StandsAs kind octets e p → IsSpanOf m kind p span
spanned_wide m octets e Wide span is whole has p stands =
    sum_span (record { width = m.wide; span = span }) octets e p whole has stands
spanned_wide m octets e Rolled span is whole has p stands = absurd cc
spanned_wide m octets e Sealed span is whole has p stands = absurd cc
spanned_wide m octets e Active span is whole has p stands = absurd cc

pub spanned_rolled : (m : Manifest) (octets : List ℕ) (e : Entry) (kind : Kind) (span : PartSpan) → kind ≡ Rolled
    → length octets ≡ e.length → HasSpan (record { width = m.width; span = span }) octets → (p : Part)
    → StandsAs kind octets e p → IsSpanOf m kind p span
spanned_rolled m octets e Rolled span is whole has p stands =
    sum_span (record { width = m.width; span = span }) octets e p whole has stands
spanned_rolled m octets e Wide span is whole has p stands = absurd cc
spanned_rolled m octets e Sealed span is whole has p stands = absurd cc
spanned_rolled m octets e Active span is whole has p stands = absurd cc

-- ---- one file after the other

pub spans_push : (image : ℕ → List ℕ) (m : Manifest) (e : Entry) (span : PartSpan)
    → ((p : Part) → StandsAs e.kind (image e.file) e p → IsSpanOf m e.kind p span) → (es : List Entry)
    (spans : List PartSpan) → AreSpansOf image m es spans
    → AreSpansOf image m (es ++ e ∷ []) (spans ++ span ∷ [])
spans_push image m e span own [] [] are = (own, tt)
spans_push image m e span own [] (s ∷ spans) are = absurd are
spans_push image m e span own (x ∷ es) [] are = absurd are
spans_push image m e span own (x ∷ es) (s ∷ spans) are = (are.0, spans_push image m e span own es spans are.1)

-- files that read the same
pub spans_along : (a b : ℕ → List ℕ) (m : Manifest) → ((n : ℕ) → b n ≡ a n) → (es : List Entry)
    (spans : List PartSpan) → AreSpansOf a m es spans → AreSpansOf b m es spans
spans_along a b m same [] [] are = are
spans_along a b m same [] (s ∷ spans) are = absurd are
spans_along a b m same (e ∷ es) [] are = absurd are
spans_along a b m same (e ∷ es) (s ∷ spans) are = (
  λ p stands. are.0 p (subst (λ (l : List ℕ). StandsAs e.kind l e p) (same e.file) stands),
  spans_along a b m same es spans are.1,
)
