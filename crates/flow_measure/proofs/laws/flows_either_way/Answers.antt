use Rattle.flow_measure.proofs.SinkSteps.{flows-in_fields}
use Rattle.flow_measure.proofs.laws.flows_either_way.Goals as goal

pub returns : goal.returns
returns c = flows-in_fields
