use Rattle.std.proofs.lemmas.Result.{err_from_is_err_and}
use Rattle.flow_codec.specs.Stream.{held}
use Rattle.flow_codec.proofs.Streaming.{held_next, refused_next}
use Rattle.flow_codec.proofs.stream.find_message.Goals as goal

pub returns-in_err-length-clause-found : goal.returns-in_err-length-clause-found
returns-in_err-length-clause-found g c =
    let bad = rw c.octets.ensures.value at c.in_err-length.ensures.front in
    let p = err_from_is_err_and c.from_residual.result c.from_residual.ensures.1 in
    rw (p.1, p.2) (refused_next c.args.at _ _ (held c.reads.window) _ bad.0 (held_next _ _ _ c.reads.invariant) bad.1)
