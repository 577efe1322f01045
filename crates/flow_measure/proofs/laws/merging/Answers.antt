use Rattle.flow_measure.proofs.SumLaws.{merged-table_of}
use Rattle.flow_measure.proofs.laws.merging.Goals as goal

pub returns : goal.returns
returns c = merged-table_of
