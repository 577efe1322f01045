use Rattle.flow_moments.proofs.ReadBack.{read_back}
use Rattle.flow_moments.proofs.laws.dates_are_read_back.Goals as goal

pub returns : goal.returns
returns c second small = read_back second small
