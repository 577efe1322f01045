use Rattle.flow_several.proofs.Several.{together}
use Rattle.flow_several.proofs.laws.sums_of_several.Goals as goal

pub returns-clause-together : goal.returns-clause-together
returns-clause-together c = together
