use Rattle.flow_measure.proofs.OwnStarts.{start_is}
use Rattle.flow_inspect.proofs.laws.own_start_or_export_time.Goals as goal

pub returns : goal.returns
returns c = start_is
