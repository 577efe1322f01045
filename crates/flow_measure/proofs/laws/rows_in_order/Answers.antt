use Rattle.flow_measure.proofs.Interleaving.{tables_sorted, tables_permutation, tables_stable}
use Rattle.flow_measure.proofs.laws.rows_in_order.Goals as goal

pub returns-clause-sorted : goal.returns-clause-sorted
returns-clause-sorted c = tables_sorted

pub returns-clause-rows : goal.returns-clause-rows
returns-clause-rows c = tables_permutation

pub returns-clause-stable : goal.returns-clause-stable
returns-clause-stable c = tables_stable
