use Rattle.flow_export.proofs.Unrolled.{all_flows}
use Rattle.flow_export.proofs.laws.unrolled_spans.Goals as goal

pub returns : goal.returns
returns c = λ from to h counts is are none. all_flows from to h counts is are none
