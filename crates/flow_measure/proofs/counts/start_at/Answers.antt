use Rattle.std.proofs.Common.{◌∙◌, sym, ap}
use Rattle.std.specs.Prelude.{unwrap_or}
use Rattle.flow_measure.specs.Counting.{counts_at}
use Rattle.flow_measure.proofs.OwnStarts.{start_is}
use Rattle.flow_measure.proofs.counts.start_at.Goals as goal

pub returns : goal.returns
returns c =
    let counts = counts_at c.args.octets.now c.args.places.now in
    c.unwrap_or.ensures ∙ ap (λ o. unwrap_or o c.args.header.now.time) c.own_start_at.ensures
    ∙ sym (start_is c.args.header.now.time counts.milliseconds counts.seconds)
