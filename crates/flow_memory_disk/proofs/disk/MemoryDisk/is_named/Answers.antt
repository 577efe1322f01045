use Rattle.std.proofs.Common.{sym, ◌∙◌}
use Rattle.flow_memory_disk.proofs.Looked.{place_found, missing}
use Rattle.flow_memory_disk.proofs.Named.{named_here, named_nowhere}
use Rattle.flow_memory_disk.proofs.disk.MemoryDisk.is_named.Goals as goal

pub returns-in-Some : goal.returns-in-Some
returns-in-Some c = let files = c.args.self.now.files.items in
    sym (named_here files c.args.file _ (place_found files c.args.file _ (sym c.place.ensures ∙ c.in-Some.is)))

pub returns-in-None : goal.returns-in-None
returns-in-None c = let files = c.args.self.now.files.items in
    sym (named_nowhere files c.args.file (missing files c.args.file (sym c.place.ensures ∙ c.in-None.is)))
