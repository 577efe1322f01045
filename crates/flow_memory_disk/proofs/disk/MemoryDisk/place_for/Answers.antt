use Rattle.std.proofs.Common.{sym, ◌∙◌}
use Rattle.flow_memory_disk.proofs.Looked.{place_found, missing}
use Rattle.flow_memory_disk.proofs.Named.{named_same, named_nowhere, room_left}
use Rattle.flow_memory_disk.proofs.disk.MemoryDisk.place_for.Goals as goal

pub returns-in-Some-clause-place : goal.returns-in-Some-clause-place
returns-in-Some-clause-place c =
    place_found c.args.self.now.files.items c.args.file c.in-Some.index (sym c.place.ensures ∙ c.in-Some.is)

pub returns-in-Some-clause-named : goal.returns-in-Some-clause-named
returns-in-Some-clause-named c = let files = c.args.self.now.files.items in
    named_same files c.args.file c.in-Some.index
    (place_found files c.args.file c.in-Some.index (sym c.place.ensures ∙ c.in-Some.is))

pub begin-requires-clause-room : goal.begin-requires-clause-room
begin-requires-clause-room c = let files = c.args.self.now.files.items in
    let none = named_nowhere files c.args.file (missing files c.args.file (sym c.place.ensures ∙ c.in-None.is)) in
    room_left _ _ _ none c.requires
