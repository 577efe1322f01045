-- What has been read where a query is answered, also of files that are damaged.
use Rattle.std.specs.Prelude.{◌≡◌, ◌⊎◌, ℕ, zero, suc, ◌+◌, ◌≤◌, ◌<◌, List, [], ◌∷◌, ◌++◌, length, map, slice_get}
use Rattle.std.specs.Prelude.{Option, Some, None}
use Rattle.std.specs.List.{flat_map, AllZip}
use Rattle.flow_codec.specs.Cutting.{IsCutOff, IsDivided}
use Rattle.flow_codec.specs.Templates.{AllTemplates}
use Rattle.flow_measure.specs.declared.flow.Flow.{Flow}
use Rattle.flow_measure.specs.History.{flows_in, Accepted, AreAcceptedFrom}
use Rattle.flow_segment.specs.Carry.{octets_of}
use Rattle.flow_segment.specs.PartFlows.{flows_within}
use Rattle.flow_segment.specs.Prefix.{IsRestated}
use Rattle.flow_model.specs.Shelf.{Segment, Shelf, cut_of, messages_in, position_of}

-- ---- messages

-- These octets are messages, each accepted after those before it, the first one after these templates.
abbrev pub AreAccepted : AllTemplates → List (List ℕ) → Type 0
AreAccepted before octets =
    (messages : List Accepted) × AreAcceptedFrom before messages × (octets_of messages ≡ octets)

-- ---- the flows of files

-- a file with kept messages: its prefix, and the messages after it
pub record KeptFile : Type 0 where
  pub prefix : List ℕ
  pub messages : List (List ℕ)

-- the sealed segments, and the active one
abbrev pub kept_file : Segment → KeptFile
kept_file g = record { prefix = g.prefix; messages = g.messages }

abbrev pub kept_by_file : Shelf → List KeptFile
kept_by_file s = map kept_file s.sealed ++ record { prefix = s.prefix; messages = s.active } ∷ []

-- A file's messages are accepted, each after those before it, the first one after the templates that the file's own
-- prefix restates; these are their flows that start in a span.
abbrev pub HaveOwnFlows : ℕ → ℕ → KeptFile → List Flow → Type 0
HaveOwnFlows from to file flows =
    (before : AllTemplates) × (messages : List Accepted) × IsRestated file.prefix before
    × AreAcceptedFrom before messages × (octets_of messages ≡ file.messages)
    × (flows ≡ flows_within from to (flows_in messages))

-- the flows of one file more
abbrev pub AppendsOwnFlows : ℕ → ℕ → KeptFile → List Flow → List Flow → Type 0
AppendsOwnFlows from to file old new = (own : List Flow) × HaveOwnFlows from to file own × (new ≡ old ++ own)

-- the flows of these files, one after the other
abbrev pub AreOwnFlows : ℕ → ℕ → List KeptFile → List Flow → Type 0
AreOwnFlows from to files flows =
    (lists : List (List Flow)) × AllZip (HaveOwnFlows from to) files lists × (flows ≡ flat_map (λ own. own) lists)

-- ---- one message

-- In these octets the message comes after so many others, each cut off by its own header.
abbrev pub IsCutBehind : List ℕ → ℕ → List ℕ → Type 0
IsCutBehind octets skipped message = (front : List (List ℕ)) × (rest : List ℕ)
    × IsDivided octets (front ++ message ∷ []) rest × (length front ≡ skipped)

-- In a segment's messages this one comes after so many others, each cut off by its own header. Octets that are left
-- after the last one are not looked at.
abbrev pub StandsBehind : List (List ℕ) → ℕ → List ℕ → Type 0
StandsBehind [] skipped message = ⊥
StandsBehind (o ∷ os) zero message = IsCutOff message × ((rest : List ℕ) × (o ≡ message ++ rest))
StandsBehind (o ∷ os) (suc n) message = IsCutOff o × StandsBehind os n message

-- The message is so in its own segment, at this place, from 0, among the messages of all segments.
abbrev pub StandsAt : List Segment → ℕ → List ℕ → Type 0
StandsAt segments place message =
    (front : List Segment) × (own : Segment) × (more : List Segment) × (skipped : ℕ)
    × (segments ≡ front ++ own ∷ more) × (place ≡ length (messages_in front) + skipped)
    × StandsBehind own.messages skipped message

-- what is answered of a place: none where the segments have fewer messages
abbrev pub IsSealedAt : List Segment → ℕ → Option (List ℕ) → Type 0
IsSealedAt segments place None = length (messages_in segments) ≤ place
IsSealedAt segments place (Some message) = StandsAt segments place message

-- What is answered of a number: a message of a sealed segment, or of the active one; and none where it isn't kept.
abbrev pub IsMessageAt : Shelf → ℕ → Option (List ℕ) → Type 0
IsMessageAt s n None = (n ≤ cut_of s) ⊎ (position_of s < n)
IsMessageAt s n (Some message) =
    ((place : ℕ) × (n ≡ suc (cut_of s + place)) × StandsAt s.sealed place message)
    ⊎ ((place : ℕ) × (n ≡ suc (cut_of s + length (messages_in s.sealed) + place))
    × (slice_get s.active place ≡ Some message))
