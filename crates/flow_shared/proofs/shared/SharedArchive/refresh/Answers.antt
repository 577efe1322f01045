use Rattle.std.proofs.Common.{rules}
use Rattle.flow_shared.proofs.Called.{was_refreshed}
use Rattle.flow_shared.proofs.shared.SharedArchive.refresh.Goals as goal

pub returns : goal.returns
returns g c = search (rules, was_refreshed)
