use Rattle.flow_codec.proofs.RestatingAll.{restated_all}
use Rattle.flow_codec.proofs.laws.restated_templates.Goals as goal

pub returns : goal.returns
returns c = λ time due all h domains numbers t. restated_all time due all h domains numbers t
