-- Messages that are taken in one after the other, and what is kept of the carry before them.
use Rattle.std.specs.Prelude.{◌≡◌, ◌≢◌, ◌⊎◌, ℕ, ◌≤◌, List, ◌∷◌, ◌++◌, length, take, drop, Option, Some, unwrap_or}
use Rattle.std.specs.Int.{w16, from_be_bytes}
use Rattle.flow_codec.specs.declared.error.MessageError.{MessageError}
use Rattle.flow_codec.specs.Cutting.{length_of}
use Rattle.flow_codec.specs.Fault.{IsFault, IsOctets}
use Rattle.flow_codec.specs.Message.{joined, IsAccepted}
use Rattle.flow_codec.specs.Raw.{RawMessage}
use Rattle.flow_codec.specs.Templates.{AllTemplates}
use Rattle.flow_measure.specs.declared.span.PartSpan.{PartSpan}
use Rattle.flow_measure.specs.History.{Accepted, AreAcceptedFrom, templates_from}
use Rattle.flow_segment.specs.declared.batch.Undo.{Undo}
use Rattle.flow_segment.specs.Carry.{Carry, carry_from, carry_with, kept_as, octets_of}
use Rattle.flow_segment.specs.Spans.{all_noted, noted}

-- These octets are messages, each accepted after those before it.
abbrev pub AreTaken : List (List ℕ) → Carry → Carry → Type 0
AreTaken octets old new =
    (messages : List Accepted) × (octets_of messages ≡ octets) × AreAcceptedFrom old.templates messages
    × (new ≡ carry_from old messages)

-- Octets are a message that is accepted, and the starts of its flows are noted after those of before.
abbrev pub IsTakenNoting : List ℕ → Carry → Carry → Option PartSpan → Option PartSpan → Type 0
IsTakenNoting octets old new before after =
    IsOctets octets × (a : Accepted) × (a.octets ≡ octets) × IsAccepted octets old.templates a.message a.after
    × (new ≡ carry_with old a) × (after ≡ noted a.message before)

-- The same of several messages, one after the other.
abbrev pub AreTakenNoting : List (List ℕ) → Carry → Carry → Option PartSpan → Option PartSpan → Type 0
AreTakenNoting octets old new before after =
    IsOctets (joined octets) × (messages : List Accepted) × (octets_of messages ≡ octets)
    × AreAcceptedFrom old.templates messages × (new ≡ carry_from old messages) × (after ≡ all_noted messages before)

-- The first of these that isn't a message accepted after those before it has this fault.
abbrev pub IsFirstFault : List (List ℕ) → AllTemplates → MessageError → Type 0
IsFirstFault octets before fault =
    (front : List Accepted) × (message : List ℕ) × (rest : List (List ℕ))
    × (octets ≡ octets_of front ++ message ∷ rest) × AreAcceptedFrom before front
    × IsFault message (templates_from before front) fault

-- ---- octets that define nothing

-- Accepted after whatever templates, these octets leave them as they are.
abbrev pub LeavesTemplates : List ℕ → Type 0
LeavesTemplates octets = (before : AllTemplates) → (message : RawMessage) → (after : AllTemplates)
    → IsAccepted octets before message after → after ≡ before

-- the ID of the Set with which octets begin
abbrev pub id_of : List ℕ → ℕ
id_of octets = from_be_bytes w16 (take 2 octets)

-- Octets begin with a Set that isn't of template records, and these are those after it.
pub record IsAfterSet (octets rest : List ℕ) : Type 0 where
  pub plain : id_of octets ≢ 2
  pub options : id_of octets ≢ 3
  pub least : 4 ≤ length_of octets
  pub most : length_of octets ≤ length octets
  pub after : rest ≡ drop (length_of octets) octets

-- ---- what is kept

-- the carry that is put back, where these templates are in force
abbrev pub restored : AllTemplates → Undo → Carry
restored now undo = kept_as (unwrap_or undo.templates now) undo.due.entries undo.time

-- The templates before a message are kept, or it leaves them as they are.
abbrev pub IsReady : Undo → List ℕ → Type 0
IsReady undo octets = ((templates : AllTemplates) × (undo.templates ≡ Some templates)) ⊎ LeavesTemplates octets
