-- Elements of definitions whose records may have sums that are other than their exporter means.
use Rattle.std.specs.Prelude.{ℕ, ◌==◌, ◌||◌, ◌&&◌, Bool, not, nat_le, List}
use Rattle.std.specs.List.{list_any}
use Rattle.std.specs.Option.{is_none}
use Rattle.flow_elements.specs.declared.element.ElementId.{ElementId}
use Rattle.flow_codec.specs.declared.caveats.Elements.{Elements}
use Rattle.flow_codec.specs.Raw.{RawRecord}

-- ---- the elements of a definition, by IANA's numbers alone

-- octetDeltaCount and packetDeltaCount, which are summed
abbrev pub is_octets : ElementId → Bool
is_octets id = is_none id.enterprise && (id.number == 1)

abbrev pub is_packets : ElementId → Bool
is_packets id = is_none id.enterprise && (id.number == 2)

-- postOctetDeltaCount, octetTotalCount and layer2OctetDeltaCount
abbrev pub is_other_octets : ElementId → Bool
is_other_octets id = is_none id.enterprise && ((id.number == 23) || (id.number == 85) || (id.number == 352))

-- postPacketDeltaCount and packetTotalCount
abbrev pub is_other_packets : ElementId → Bool
is_other_packets id = is_none id.enterprise && ((id.number == 24) || (id.number == 86))

-- samplingInterval and samplerRandomInterval, and the parameters of a sampling method (RFC 5477, section 8.2):
-- samplingPacketInterval, 305, to samplingProbability, 311
abbrev pub is_rate : ElementId → Bool
is_rate id = is_none id.enterprise
    && ((id.number == 34) || (id.number == 50) || (nat_le 305 id.number && nat_le id.number 311))

-- a field of such an element
abbrev pub has : (ElementId → Bool) → List (ElementId × ℕ) → Bool
has test fields = list_any (λ f. test f.0) fields

abbrev pub elements_of : List (ElementId × ℕ) → Elements
elements_of fields = record {
  octets = has is_octets fields;
  packets = has is_packets fields;
  other_octets = has is_other_octets fields;
  other_packets = has is_other_packets fields;
  rate = has is_rate fields;
}

-- what was found among some fields, and one of this element
abbrev pub with_element : Elements → ElementId → Elements
with_element e id = record {
  octets = e.octets || is_octets id;
  packets = e.packets || is_packets id;
  other_octets = e.other_octets || is_other_octets id;
  other_packets = e.other_packets || is_other_packets id;
  rate = e.rate || is_rate id;
}

-- octets or packets are counted by another element alone
abbrev pub are_uncounted : Elements → Bool
are_uncounted e = (e.other_octets && not e.octets) || (e.other_packets && not e.packets)

-- ---- of records

-- a flow whose octets or packets are counted by an element that isn't summed
abbrev pub is_uncounted : RawRecord → Bool
is_uncounted r = not r.layout.options && are_uncounted (elements_of r.layout.fields)

-- a flow that has a sampling rate
abbrev pub is_sampled : RawRecord → Bool
is_sampled r = not r.layout.options && (elements_of r.layout.fields).rate
