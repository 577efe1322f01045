use Rattle.flow_segment.proofs.FewMessages.{few_fit_behind}
use Rattle.flow_segment.proofs.laws.few_messages_fit.Goals as goal

pub returns : goal.returns
returns c = λ width before flows messages are fits fit few. few_fit_behind width before flows messages are fits fit few
