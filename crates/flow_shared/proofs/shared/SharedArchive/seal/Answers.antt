use Rattle.std.proofs.Common.{rules}
use Rattle.flow_shared.proofs.Called.{was_sealed}
use Rattle.flow_shared.proofs.shared.SharedArchive.seal.Goals as goal

pub returns : goal.returns
returns g c = search (rules, was_sealed)
