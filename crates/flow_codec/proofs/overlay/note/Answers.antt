use Rattle.std.proofs.Common.{ap, ◌∙◌}
use Rattle.std.specs.Prelude.{nat_eq}
use Rattle.std.specs.HashMap.{get}
use Rattle.flow_codec.proofs.OverlayLaws.{knows_more}
use Rattle.flow_codec.proofs.overlay.note.Goals as goal

pub returns-in_ok-insert-in-Some : goal.returns-in_ok-insert-in-Some
returns-in_ok-insert-in-Some c change =
    let was = rw c.in-Some.is at c.requires in
    let put = rw c.deref_mut.ensures.value at c.in_ok-insert-in-Some.ensures.updates.0 in
    knows_more _ _ c.args.log.now c.args.id change was put

pub returns-in_ok-new-in-None : goal.returns-in_ok-new-in-None
returns-in_ok-new-in-None c change q =
    ap (λ map. get nat_eq map q) c.in_ok-new-in-None.ensures.ok
    ∙ knows_more _ _ c.args.log.now c.args.id change c.in_ok-map-in-None.ensures
    c.in_ok-insert-in-None.ensures.updates.0 q
