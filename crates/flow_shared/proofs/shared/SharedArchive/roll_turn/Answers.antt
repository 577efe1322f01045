use Rattle.std.proofs.Common.{rules}
use Rattle.flow_shared.proofs.Called.{was_turned}
use Rattle.flow_shared.proofs.shared.SharedArchive.roll_turn.Goals as goal

pub returns-clause-calls : goal.returns-clause-calls
returns-clause-calls g c = search (rules, was_turned)
