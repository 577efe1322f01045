use Rattle.std.proofs.Common.{ℕ, arith}
use Rattle.std.proofs.lemmas.List.{length-take, length-drop}
use Rattle.flow_codec.proofs.Streaming.{consumed}
use Rattle.flow_feed.proofs.whole.WholeReader.take.Goals as goal

pub returns-clause-taken : goal.returns-clause-taken
returns-clause-taken c =
    let w = c.args.self.now in
    consumed w.octets.items w.start w.end c.args.size (omega (arith, length-take {A = ℕ}, length-drop {A = ℕ}))
