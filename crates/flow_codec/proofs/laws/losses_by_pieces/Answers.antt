use Rattle.flow_codec.proofs.Pieces.{by_pieces}
use Rattle.flow_codec.proofs.laws.losses_by_pieces.Goals as goal

pub returns : goal.returns
returns c = λ a messages counts. by_pieces a messages counts
