-- A rolled file as an IPFIX File (RFC 5655): its messages, with the records that a reader finds in them.
use Rattle.std.specs.Prelude.{◌≡◌, ℕ, ◌+◌, true, false, List, [], ◌∷◌, ◌++◌, length, map, filter, Option, Some, None}
use Rattle.std.specs.List.{flat_map}
use Rattle.flow_codec.specs.Message.{in_fields}
use Rattle.flow_measure.specs.declared.flow.Flow.{Flow}
use Rattle.flow_measure.specs.declared.rows.Sums.{Sums}
use Rattle.flow_measure.specs.Flows.{flows_of}
use Rattle.flow_elements.specs.declared.element.ElementId.{ElementId}
use Rattle.flow_codec.specs.declared.templates.DomainTemplates.{DomainTemplates}
use Rattle.flow_codec.specs.Layout.{Layout}
use Rattle.flow_codec.specs.Raw.{RawRecord, RawMessage, raw}
use Rattle.flow_rolled.specs.declared.row.RolledRow.{RolledRow}
use Rattle.flow_rolled.specs.Messages.{RolledMessage}
use Rattle.flow_rolled.specs.Octets.{row_octets, sets_of, has_protocol, has_none}

-- one of IANA's elements, of so many octets
abbrev pub field : ℕ → ℕ → ElementId × ℕ
field number len = (record { enterprise = None; number = number }, len)

-- Template 256: flowStartMilliseconds, flowEndMilliseconds, protocolIdentifier, originalFlowsInitiated,
-- octetDeltaCount, packetDeltaCount
abbrev pub with_protocol : Layout
with_protocol = record {
  options = false;
  scope = 0;
  fields = field 152 8 ∷ field 153 8 ∷ field 4 1 ∷ field 376 8 ∷ field 1 8 ∷ field 2 8 ∷ [];
}

-- Template 257: the same without the protocol
abbrev pub without_protocol : Layout
without_protocol = record {
  options = false;
  scope = 0;
  fields = field 152 8 ∷ field 153 8 ∷ field 376 8 ∷ field 1 8 ∷ field 2 8 ∷ [];
}

-- Options Template 258: for a templateId, valueDistributionMethod (RFC 7015)
abbrev pub distribution : Layout
distribution = record { options = true; scope = 1; fields = field 145 2 ∷ field 384 1 ∷ [] }

-- the templates in force in a domain after its head
abbrev pub in_domain : DomainTemplates
in_domain = record {
  templates = (256, with_protocol) ∷ (257, without_protocol) ∷ [];
  options = (258, distribution) ∷ [];
}

-- rows under a template
abbrev pub rows_under : ℕ → ℕ → Layout → List RolledRow → List RawRecord
rows_under width id layout rows = map (λ r. raw id layout (row_octets width r)) rows

-- a head has two records of the Options Template, each other message its rows
abbrev pub records_of : ℕ → List RolledRow → List RawRecord
records_of width [] =
    raw 258 distribution (1 ∷ 0 ∷ 1 ∷ []) ∷ raw 258 distribution (1 ∷ 1 ∷ 1 ∷ []) ∷ []
records_of width (r ∷ rs) =
    rows_under width 256 with_protocol (filter has_protocol (r ∷ rs))
    ++ rows_under width 257 without_protocol (filter has_none (r ∷ rs))

abbrev pub message_of : ℕ → RolledMessage → RawMessage
message_of width p = record {
  header = record {
    length = 16 + length (sets_of width p.rows);
    time = p.time;
    sequence = p.sequence;
    domain = p.domain;
  };
  records = records_of width p.rows;
}

abbrev pub messages_of : ℕ → List RolledMessage → List RawMessage
messages_of width parts = map (message_of width) parts

-- the flow that a row is read as
abbrev pub flow_of_row : RolledRow → Flow
flow_of_row r = record {
  domain = r.key.domain;
  start = r.key.start;
  protocol = r.key.protocol;
  octets = r.octets;
  packets = r.packets;
}

-- the flows that are read of messages
abbrev pub flows_within : List RawMessage → List Flow
flows_within messages = flat_map (λ m. flows_of (in_fields m)) messages

-- the same octets and packets, whatever the flows
abbrev pub SameCounts : Option Sums → Option Sums → Type 0
SameCounts None None = Unit {0}
SameCounts None (Some t) = ⊥
SameCounts (Some s) None = ⊥
SameCounts (Some s) (Some t) = (s.octets ≡ t.octets) × (s.packets ≡ t.packets)
