use Rattle.flow_headline.proofs.OneState.{one_state_of}
use Rattle.flow_headline.proofs.laws.answers_lead_to_one_state.Goals as goal

pub returns : goal.returns
returns c = one_state_of
