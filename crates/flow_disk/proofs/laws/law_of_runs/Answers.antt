use Rattle.flow_disk.proofs.Moments.{both}
use Rattle.flow_disk.proofs.laws.law_of_runs.Goals as goal

pub returns : goal.returns
returns g c old middle new h before after weaker then =
    let D = g.D.Disk in
    both D old middle new g.F.StopEffect.leads g.S.StopEffect.leads g.W.StopEffect.leads before after
    (λ image is. g.met.D.Disk.counts_now middle (D.moment old) image h before.later is) weaker then
