use Rattle.flow_model.proofs.Stand.{stands_for}
use Rattle.flow_recover.proofs.Recovering.{one_state, unnamed_same}
use Rattle.flow_recover.proofs.laws.what_an_image_stands_for.Goals as goal

pub returns-clause-one_state : goal.returns-clause-one_state
returns-clause-one_state c = one_state

pub returns-clause-unnamed : goal.returns-clause-unnamed
returns-clause-unnamed c = unnamed_same

pub returns-clause-known : goal.returns-clause-known
returns-clause-known c slots image s known = stands_for slots s image known
