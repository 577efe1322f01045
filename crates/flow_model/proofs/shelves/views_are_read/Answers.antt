use Rattle.flow_model.proofs.Meaning.{one_read, view_read}
use Rattle.flow_model.proofs.shelves.views_are_read.Goals as goal

pub returns-clause-read : goal.returns-clause-read
returns-clause-read c = λ s v is. view_read s v is

pub returns-clause-one : goal.returns-clause-one
returns-clause-one c = λ s v w narrow wide h k. one_read s v w narrow wide h k
