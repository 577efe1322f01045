use Rattle.std.proofs.Common.{◌≡◌, ◌++◌, ◌-◌, length, drop}
use Rattle.flow_codec.specs.Slots.{standing, entries_of, IsTable, HasRoom}
use Rattle.flow_codec.proofs.slot_table.SlotTable.copy_with_room.Given as goal

abbrev pub invariant-loop-slot : goal.invariant-loop-slot
invariant-loop-slot l =
    IsTable l.copy × (entries_of l.copy ++ standing (drop l.slot-index l.slot-items) ≡ entries_of l.self)
    × HasRoom (length l.slot-items - l.slot-index) l.copy
