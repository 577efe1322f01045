use Rattle.std.proofs.Common.{refl}
use Rattle.flow_segment.proofs.walking.hand_over.Goals as goal

pub returns-in-Ok-clause-walked : goal.returns-in-Ok-clause-walked
returns-in-Ok-clause-walked g c =
    let w = c.in-Ok.ensures.found in
    (record { header = c.in-Ok.header; records = w.0 }, w.1, (w.2, refl))
