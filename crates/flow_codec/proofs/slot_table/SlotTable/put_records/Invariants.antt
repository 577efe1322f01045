use Rattle.std.proofs.Common.{◌≡◌, ◌++◌, drop}
use Rattle.std.specs.List.{AllByRecursion}
use Rattle.flow_codec.specs.Slots.{standing, entries_of}
use Rattle.flow_codec.specs.Templates.{IsEntry}
use Rattle.flow_codec.specs.Message.{joined}
use Rattle.flow_codec.specs.Prefix.{defining_records}
use Rattle.flow_codec.proofs.slot_table.SlotTable.put_records.Given as goal

abbrev pub invariant-loop-slot : goal.invariant-loop-slot
invariant-loop-slot l =
    (l.octets.items ++ joined (defining_records l.kind (standing (drop l.slot-index l.slot-items)))
    ≡ l.initial.octets.items ++ joined (defining_records l.kind (entries_of l.self)))
    × AllByRecursion (IsEntry l.kind) (standing (drop l.slot-index l.slot-items))
