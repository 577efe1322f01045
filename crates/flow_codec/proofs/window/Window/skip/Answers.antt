use Rattle.std.proofs.Common.{ℕ, arith}
use Rattle.std.proofs.lemmas.List.{length-take, length-drop}
use Rattle.flow_codec.proofs.Streaming.{consumed}
use Rattle.flow_codec.proofs.window.Window.skip.Goals as goal

pub returns : goal.returns
returns c =
    let w = c.args.self.now in
    consumed w.octets.items w.start w.end c.args.count (omega (arith, length-take {A = ℕ}, length-drop {A = ℕ}))
