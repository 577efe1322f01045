-- When the flows of a segment start.
use Rattle.std.specs.Prelude.{◌≡◌, ℕ, ◌+◌, ◌%◌, ◌^◌, Bool, true, false, List, length, Option, Some, None, cond, option_map}
use Rattle.flow_codec.specs.declared.losses.CaveatCounts.{CaveatCounts}
use Rattle.flow_codec.specs.Caveats.{are_uncounted, elements_of}
use Rattle.flow_codec.specs.Fault.{IsOctets}
use Rattle.flow_codec.specs.Layout.{Layout}
use Rattle.flow_codec.specs.Losses.{no_caveats}
use Rattle.flow_codec.specs.Message.{in_fields, joined}
use Rattle.flow_codec.specs.Raw.{Placed, RawMessage}
use Rattle.flow_codec.specs.Replaced.{one_if}
use Rattle.flow_codec.specs.Templates.{AllTemplates}
use Rattle.flow_measure.specs.declared.span.PartSpan.{PartSpan}
use Rattle.flow_measure.specs.Flows.{flows_of, flows_of_records}
use Rattle.flow_measure.specs.History.{Accepted, AreAcceptedFrom, flows_in, templates_from}
use Rattle.flow_measure.specs.Span.{is_outside, no_span, span_of, starts_of, with_starts}
use Rattle.flow_segment.specs.Carry.{octets_of}
use Rattle.flow_segment.specs.PartFlows.{ArePartMessages}
use Rattle.flow_segment.specs.Prefix.{IsRestated}

-- ---- messages that are taken in

-- with the starts of a message's flows, where starts are noted
abbrev pub noted : RawMessage → Option PartSpan → Option PartSpan
noted m span = option_map (λ s. with_starts s (starts_of (flows_of (in_fields m)))) span

-- with those of several messages
abbrev pub all_noted : List Accepted → Option PartSpan → Option PartSpan
all_noted messages span = option_map (λ s. with_starts s (starts_of (flows_in messages))) span

-- Data records were counted, modulo 2^32, and the starts of their flows noted.
abbrev pub HasNoted : ℕ → Option PartSpan → List Placed → ℕ → Option PartSpan → Type 0
HasNoted start_records start_span taken records span =
    (records % 2 ^ 32 ≡ (start_records + length taken) % 2 ^ 32)
    × (span ≡ option_map (λ s. with_starts s (starts_of (flows_of_records taken))) start_span)

-- of the flow of a record of a Template, which may have no start of its own: whether it is summed otherwise
abbrev pub caveats_where : Bool → Layout → CaveatCounts
caveats_where placed layout = record {
  placed = one_if placed;
  uncounted = one_if (are_uncounted (elements_of layout.fields));
  sampled = one_if (elements_of layout.fields).rate;
}

-- what is counted before any message, where something is
abbrev pub caveats_if : Bool → Option CaveatCounts
caveats_if counting = cond counting (Some no_caveats) None

-- Messages were read after the templates that a prefix restates, up to these templates, and the starts of their flows
-- noted, where starts are noted.
abbrev pub AreNotedSoFar : List ℕ → List (List ℕ) → AllTemplates → Option PartSpan → Type 0
AreNotedSoFar prefix messages now span =
    IsOctets (joined messages) × (before : AllTemplates) × (list : List Accepted) × IsRestated prefix before
    × AreAcceptedFrom before list × (octets_of list ≡ messages) × (now ≡ templates_from before list)
    × (span ≡ all_noted list (Some no_span))

-- ---- a segment

-- A prefix restates templates, these messages are accepted after them, and this is the span of their flows.
abbrev pub IsOwnSpan : List ℕ → List (List ℕ) → PartSpan → Type 0
IsOwnSpan prefix messages span =
    IsOctets prefix × IsOctets (joined messages)
    × (before : AllTemplates) × (list : List Accepted) × IsRestated prefix before × AreAcceptedFrom before list
    × (octets_of list ≡ messages) × (span ≡ span_of (starts_of (flows_in list)))

-- A segment reads whole, and this is the span of its flows: its prefix restates templates, and so many messages,
-- accepted after them, fill the octets after it.
pub record HasSpan (span : PartSpan) (prefix octets : List ℕ) (count : ℕ) : Type 0 where
  pub front : IsOctets prefix
  pub own : IsOctets octets
  pub before : AllTemplates
  pub messages : List Accepted
  pub restated : IsRestated prefix before
  pub read : ArePartMessages octets before count messages
  pub is : span ≡ span_of (starts_of (flows_in messages))

-- It can't be otherwise. A fact of a value has no data: what reading gives is found again from the octets.
abbrev pub IsSure : Type 0 → Type 0
IsSure T = (T → ⊥) → ⊥

-- whether it is known that no interval of this width that starts from one moment on and before another holds a flow
abbrev pub is_known_outside : Option PartSpan → ℕ → ℕ → ℕ → Bool
is_known_outside None width from to = false
is_known_outside (Some span) width from to = is_outside width from to span

-- A segment reads whole, and none of its flows lies in such an interval.
abbrev pub IsPassedOver : ℕ → ℕ → ℕ → List ℕ → List ℕ → ℕ → Type 0
IsPassedOver width from to prefix octets count =
    (span : PartSpan) × HasSpan span prefix octets count × (is_outside width from to span ≡ true)
