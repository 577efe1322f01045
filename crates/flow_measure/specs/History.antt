-- What an archive has accepted, and the marks up to which its messages were summed and forgotten.
use Rattle.std.specs.Prelude.{◌≡◌, ℕ, ◌%◌, ◌<◌, ◌≤◌, List, [], ◌∷◌, length, Result, Ok, Err}
use Rattle.std.specs.List.{flat_map}
use Rattle.flow_codec.specs.declared.error.MessageError.{MessageError}
use Rattle.flow_codec.specs.Message.{in_fields, IsAccepted}
use Rattle.flow_codec.specs.Raw.{RawMessage}
use Rattle.flow_codec.specs.Reading.{message_at}
use Rattle.flow_codec.specs.Templates.{AllTemplates}
use Rattle.flow_measure.specs.declared.flow.Flow.{Flow}
use Rattle.flow_measure.specs.Flows.{flows_of}

-- a message as it was accepted: its octets, what they are under the templates before it, and the templates after it
pub record Accepted : Type 0 where
  pub octets : List ℕ
  pub message : RawMessage
  pub after : AllTemplates

-- messages accepted one after the other, from these templates on
abbrev pub AreAcceptedFrom : AllTemplates → List Accepted → Type 0
AreAcceptedFrom before [] = Unit {0}
AreAcceptedFrom before (a ∷ more) = IsAccepted a.octets before a.message a.after × AreAcceptedFrom a.after more

-- the templates in force after messages, from these on
abbrev pub templates_from : AllTemplates → List Accepted → AllTemplates
templates_from before [] = before
templates_from before (a ∷ more) = templates_from a.after more

abbrev pub templates_of : List Accepted → AllTemplates
templates_of messages = templates_from [] messages

-- the flows of messages, joined
abbrev pub flows_in : List Accepted → List Flow
flows_in messages = flat_map (λ a. flows_of (in_fields a.message)) messages

-- ---- read one after the other

-- a message as it is read, followed by those that are read after it; none from the first refused one on
abbrev pub followed_by : List ℕ → (AllTemplates → List Accepted) → Result (RawMessage × AllTemplates) MessageError
    → List Accepted
followed_by octets more (Ok x) = record { octets = octets; message = x.0; after = x.1 } ∷ more x.1
followed_by octets more (Err e) = []

-- messages of these octets, read one after the other from these templates on
abbrev pub read_from : AllTemplates → List (List ℕ) → List Accepted
read_from before [] = []
read_from before (o ∷ os) = followed_by o (λ after. read_from after os) (message_at before o)

-- ---- all that was accepted

-- All messages, in the order in which they were accepted. Those up to `second` are summed over wide intervals, those
-- after them up to `cut` over intervals of the width, and those after the cut are kept.
pub record History : Type 0 where
  pub all : List Accepted
  pub second : ℕ
  pub cut : ℕ
  pub width : ℕ
  pub wide : ℕ

pub record IsHistory (h : History) : Type 0 where
  pub accepted : AreAcceptedFrom [] h.all
  pub second : h.second ≤ h.cut
  pub cut : h.cut ≤ length h.all
  pub width : 0 < h.width
  pub wide : 0 < h.wide
  pub multiple : h.wide % h.width ≡ 0
