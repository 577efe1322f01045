use Rattle.std.proofs.Common.{arith}
use Rattle.flow_codec.proofs.Dividing.{cut_off}
use Rattle.flow_feed.proofs.whole.whole_front.Goals as goal

pub returns-clause-front : goal.returns-clause-front
returns-clause-front c =
    let found = c.in_ok-length.ensures.found in
    (omega arith, cut_off c.in_ok-length.length c.args.octets.now found.2 (omega arith) found.0 found.1)
