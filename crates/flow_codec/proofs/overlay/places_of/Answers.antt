use Rattle.std.proofs.Common.{cond, Some, sym, ap, ◌∙◌}
use Rattle.std.specs.Prelude.{nat_eq}
use Rattle.flow_codec.proofs.OverlayLaws.{place_take}
use Rattle.flow_codec.proofs.overlay.places_of.Goals as goal

pub loop-place-preserved : goal.loop-place-preserved
loop-place-preserved c q =
    let item = c.index-log-place.result in
    let put = c.in_ok-insert.ensures.updates.0 in
    put q ∙ ap (cond (nat_eq item.0 q) (Some c.loop-place.place)) (c.loop-place.invariant q)
    ∙ sym (place_take q c.args.log.now c.loop-place.place item c.loop-place-test.true c.index-log-place.is)
