use Rattle.flow_snapshot.proofs.ByFile.{same_flows, view_flows}
use Rattle.flow_snapshot.proofs.laws.flows_by_file.Goals as goal

pub returns-clause-view : goal.returns-clause-view
returns-clause-view c = λ from to s v is. view_flows from to s v is

pub returns-clause-once : goal.returns-clause-once
returns-clause-once c = λ from to files flows others are also. same_flows from to files flows others are also
