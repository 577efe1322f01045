use Rattle.flow_measure.proofs.Spanning.{no_flow, none_among, none_within, same_both}
use Rattle.flow_measure.proofs.laws.passing_over.Goals as goal

pub returns-clause-flows : goal.returns-clause-flows
returns-clause-flows c = λ width from to flows some out. none_within width from to some flows out

pub returns-clause-each : goal.returns-clause-each
returns-clause-each c = no_flow

pub returns-clause-sums : goal.returns-clause-sums
returns-clause-sums c = λ width from to sums some out aligned. none_among width from to some sums out aligned

pub returns-clause-rows : goal.returns-clause-rows
returns-clause-rows c = same_both
