-- The flows of data records.
use Rattle.std.specs.Prelude.{◌<◌, ◌^◌, ℕ, ◌/◌, ◌==◌, List, Option, Some, None, option_map, unwrap_or, nat_le, find}
use Rattle.std.specs.Prelude.{if◌then◌else◌}
use Rattle.std.specs.List.{filter_map}
use Rattle.flow_elements.specs.Values.{number_of}
use Rattle.flow_codec.specs.declared.message.Header.{Header}
use Rattle.flow_codec.specs.declared.message.Message.{Message}
use Rattle.flow_codec.specs.declared.message.DataRecord.{DataRecord}
use Rattle.flow_codec.specs.declared.plan.Role.{Role}
use Rattle.flow_codec.specs.declared.plan.Role.TheVariants.{Octets, Packets, Protocol, Seconds, Milliseconds}
use Rattle.flow_codec.specs.Plan.{element_of, values_of}
use Rattle.flow_codec.specs.Raw.{Placed}
use Rattle.flow_codec.specs.Message.{interpreted}
use Rattle.flow_measure.specs.declared.flow.Flow.{Flow}

-- the number in the first value of a role, among the values that count in a record
abbrev pub number_in : Role → List (Role × List ℕ) → Option ℕ
number_in role values = option_map (λ v. number_of v.1) (find (λ v. element_of v.0 == element_of role) values)

-- milliseconds in seconds, rounded down, where these fit in 32 bits; else seconds; else the message's Export Time
abbrev pub start_of : ℕ → Option ℕ → Option ℕ → ℕ
start_of time None seconds = unwrap_or seconds time
start_of time (Some n) seconds = if nat_le (n / 1000) 4294967295 then n / 1000 else unwrap_or seconds time

-- the flow of the values that count in a record
abbrev pub flow_from : Header → List (Role × List ℕ) → Flow
flow_from header values = record {
  domain = header.domain;
  start = start_of header.time (number_in Milliseconds values) (number_in Seconds values);
  protocol = number_in Protocol values;
  octets = unwrap_or (number_in Octets values) 0;
  packets = unwrap_or (number_in Packets values) 0;
}

-- a data record of a Template is one flow; one of an Options Template is none
abbrev pub flow_of_record : Header → DataRecord → Option Flow
flow_of_record header r = if r.options then None else Some (flow_from header (values_of r.fields))

-- the flows of a message, in the order of its records
abbrev pub flows_of : Message → List Flow
flows_of m = filter_map (flow_of_record m.header) m.records

-- the same of a record in octets, beside the header of its message
abbrev pub flow_of : Placed → Option Flow
flow_of x = flow_of_record x.0 (interpreted x.1)

abbrev pub flows_of_records : List Placed → List Flow
flows_of_records taken = filter_map flow_of taken

-- a flow's counts fit their types
abbrev pub FlowFits : Flow → Type 0
FlowFits f = (f.octets < 2 ^ 64) × (f.packets < 2 ^ 64)
