use Rattle.flow_measure.proofs.Histories.{read_again, read_behind}
use Rattle.flow_measure.proofs.laws.reading.Goals as goal

pub returns-clause-again : goal.returns-clause-again
returns-clause-again c = read_again

pub returns-clause-behind : goal.returns-clause-behind
returns-clause-behind c = read_behind
