use Rattle.std.proofs.Common.{◌≡◌, length}
use Rattle.std.specs.Vec.Iter.{into_iter_items, into_iter_len}
use Rattle.flow_codec.specs.Slots.{entries_of, made, IsTable, HasRoom}
use Rattle.flow_codec.proofs.slot_table.SlotTable.make_each.Given as goal

abbrev pub invariant-loop-id : goal.invariant-loop-id
invariant-loop-id l =
    IsTable l.self
    × (made (entries_of l.self) (into_iter_items l.id-iterator) ≡ made (entries_of l.initial.self)
    (into_iter_items l.initial.id-iterator))
    × HasRoom (length (into_iter_items l.id-iterator)) l.self
    × (into_iter_len l.id-iterator ≡ length (into_iter_items l.id-iterator))
