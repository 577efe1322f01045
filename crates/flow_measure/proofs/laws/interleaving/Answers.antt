use Rattle.flow_measure.proofs.Interleaving.{sorted_interleaved, permutation, stable}
use Rattle.flow_measure.proofs.laws.interleaving.Goals as goal

pub returns-clause-sorted : goal.returns-clause-sorted
returns-clause-sorted c = sorted_interleaved

pub returns-clause-rows : goal.returns-clause-rows
returns-clause-rows c = permutation

pub returns-clause-stable : goal.returns-clause-stable
returns-clause-stable c = stable
