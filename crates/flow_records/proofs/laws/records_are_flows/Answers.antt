use Rattle.std.proofs.Common.{ap, length, sym, ◌∙◌}
use Rattle.flow_segment.specs.PartFlows.{records_in}
use Rattle.flow_records.proofs.Within.{chosen_count, flows_chosen}
use Rattle.flow_records.proofs.laws.records_are_flows.Goals as goal

pub returns-clause-flows : goal.returns-clause-flows
returns-clause-flows c = λ from to v. flows_chosen from to v.kept

pub returns-clause-count : goal.returns-clause-count
returns-clause-count c = λ from to v.
    sym (chosen_count from to (records_in v.kept)) ∙ ap length (flows_chosen from to v.kept)
