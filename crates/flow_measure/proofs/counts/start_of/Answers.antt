use Rattle.std.proofs.Common.{◌∙◌, sym, ap}
use Rattle.std.specs.Prelude.{unwrap_or}
use Rattle.flow_measure.proofs.OwnStarts.{start_is}
use Rattle.flow_measure.proofs.counts.start_of.Goals as goal

pub returns : goal.returns
returns c =
    c.unwrap_or.ensures ∙ ap (λ o. unwrap_or o c.args.time) c.own_start.ensures
    ∙ sym (start_is c.args.time c.args.milliseconds c.args.seconds)
