use Rattle.flow_model.proofs.Meaning.{one_view}
use Rattle.flow_model.proofs.shelves.one_view.Goals as goal

pub returns : goal.returns
returns c = λ s v w narrow wide h k. one_view s v w narrow wide h k
