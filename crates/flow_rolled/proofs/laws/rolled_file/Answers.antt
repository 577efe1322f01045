use Rattle.flow_rolled.proofs.FileForm.{rolled_file}
use Rattle.flow_rolled.proofs.FileFlows.{rolled_flows}
use Rattle.flow_rolled.proofs.RowFlows.{rolled_sums}
use Rattle.flow_rolled.proofs.laws.rolled_file.Goals as goal

pub returns-clause-file : goal.returns-clause-file
returns-clause-file c = λ t time valid small. rolled_file t time valid small

pub returns-clause-flows : goal.returns-clause-flows
returns-clause-flows c = λ t time valid small. rolled_flows t time valid small

pub returns-clause-sums : goal.returns-clause-sums
returns-clause-sums c = λ t time valid small key. rolled_sums t time valid small key
