use Rattle.flow_codec.proofs.SlotLaws.{empty-is}
use Rattle.flow_codec.proofs.slot_table.SlotTable.is_empty.Goals as goal

pub returns : goal.returns
returns c = empty-is c.args.self.now.slots.items c.args.self.now.places.entries c.is_empty.result c.requires
    c.is_empty.ensures
