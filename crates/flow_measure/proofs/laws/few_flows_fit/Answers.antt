use Rattle.flow_measure.proofs.FewFlows.{few_fit}
use Rattle.flow_measure.proofs.laws.few_flows_fit.Goals as goal

pub returns : goal.returns
returns c = few_fit
