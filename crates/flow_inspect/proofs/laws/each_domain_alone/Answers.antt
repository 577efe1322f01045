use Rattle.flow_inspect.proofs.Alone.{alone}
use Rattle.flow_inspect.proofs.laws.each_domain_alone.Goals as goal

pub returns : goal.returns
returns c = alone
