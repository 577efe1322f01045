use Rattle.std.proofs.Common.{◌≡◌, ◌∷◌, suc, length, ap, subst, arith}
use Rattle.std.specs.Vec.Iter.{into_iter_items}
use Rattle.flow_codec.specs.Slots.{HasRoom}
use Rattle.flow_codec.proofs.slot_table.SlotTable.make_each.Goals as goal

pub loop-id-preserved : goal.loop-id-preserved
loop-id-preserved c =
    let at = c.loop-id in
    let steps : into_iter_items at.id-iterator ≡ (c.in-Some.id, c.in-Some.change) ∷ into_iter_items c.next.new.self =
    c.in-Some.ensures.steps.0 in
    let n : length (into_iter_items at.id-iterator) ≡ suc (length (into_iter_items c.next.new.self)) =
    ap length steps in (
      c.change.ensures.slots,
      rw c.change.ensures.entries (rw steps at at.invariant.1),
      c.change.ensures.room (length (into_iter_items c.next.new.self))
          (subst (λ m. HasRoom m at.self) n at.invariant.2),
      let was = at.invariant.3 in
          let gone = c.in-Some.ensures.steps.1 in
          omega (arith, n),
    )
