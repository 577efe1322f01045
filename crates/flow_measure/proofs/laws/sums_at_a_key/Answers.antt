use Rattle.flow_measure.proofs.SumLaws.{get-sums_by}
use Rattle.flow_measure.proofs.laws.sums_at_a_key.Goals as goal

pub returns : goal.returns
returns c = get-sums_by
