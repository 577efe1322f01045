use Rattle.flow_measure.proofs.SumLaws.{widened-table_of}
use Rattle.flow_measure.proofs.laws.widening.Goals as goal

pub returns : goal.returns
returns c = λ width wide flows positive multiple. widened-table_of width wide positive multiple flows
