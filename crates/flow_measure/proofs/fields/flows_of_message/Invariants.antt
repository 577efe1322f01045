use Rattle.std.proofs.Common.{◌≡◌, ◌++◌, drop}
use Rattle.std.specs.List.{filter_map}
use Rattle.flow_measure.specs.Flows.{flow_of_record, flows_of}
use Rattle.flow_measure.proofs.fields.flows_of_message.Given as goal

-- the flows so far and those of the records that are left are all of them
abbrev pub invariant-loop-record : goal.invariant-loop-record
invariant-loop-record l =
    l.flows.items ++ filter_map (flow_of_record l.fn.message.header) (drop l.record-index l.fn.message.records)
    ≡ flows_of l.fn.message
