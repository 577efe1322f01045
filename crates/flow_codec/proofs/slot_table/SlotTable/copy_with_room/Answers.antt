use Rattle.std.proofs.Common.{◌≡◌, ◌-◌, ◌+◌, suc, length, subst, arith}
use Rattle.flow_codec.specs.Slots.{HasRoom, entries_of}
use Rattle.flow_codec.proofs.SlotLaws.{copied-none, copied-some, less_room}
use Rattle.flow_codec.proofs.slot_table.SlotTable.copy_with_room.Goals.{in-Some+in_ok-clone, in_default}
use Rattle.flow_codec.proofs.slot_table.SlotTable.copy_with_room.Goals as goal

pub loop-slot-preserved : goal.loop-slot-preserved
loop-slot-preserved c =
    let n = length c.as_slice-slot-items.result.now in
    let left : n - c.loop-slot.slot-index ≡ suc (n - (c.loop-slot.slot-index + 1)) =
    omega (arith, c.loop-slot-test.true) in
    let room = subst (λ m. HasRoom m c.loop-slot.copy) left c.loop-slot.invariant.2 in
    elim c.match-slot.branch [
      | in-Some+in_ok-clone w ↦
          rw w.copy-is (
            w.put.ensures.slots,
            rw (w.put.ensures.entries, w.in_ok-clone.ensures.cases)
                (copied-some (entries_of c.loop-slot.copy)
                (entries_of c.args.self.now) c.as_slice-slot-items.result.now c.loop-slot.slot-index
                c.slot-item.result (w.in-Some.id, w.in-Some.definition) c.loop-slot-test.true c.slot-item.is
                w.in-Some.is c.requires.once c.loop-slot.invariant.1),
            w.put.ensures.room (n - (c.loop-slot.slot-index + 1)) room,
          )
      | in_default w ↦
          rw w.copy-is (
            c.loop-slot.invariant.0,
            copied-none (entries_of c.loop-slot.copy)
                (entries_of c.args.self.now) c.as_slice-slot-items.result.now c.loop-slot.slot-index c.slot-item.result
                c.loop-slot-test.true c.slot-item.is w.in_default.is c.loop-slot.invariant.1,
            less_room (n - (c.loop-slot.slot-index + 1)) c.loop-slot.copy room,
          )
    ]
