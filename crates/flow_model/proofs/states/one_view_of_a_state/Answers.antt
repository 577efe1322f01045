use Rattle.flow_model.proofs.Viewing.{has_view, one_view_of}
use Rattle.flow_model.proofs.states.one_view_of_a_state.Goals as goal

pub returns-clause-there : goal.returns-clause-there
returns-clause-there c = λ s h. has_view s h

pub returns-clause-one : goal.returns-clause-one
returns-clause-one c = λ s v w valid h k. one_view_of s v w valid h k
