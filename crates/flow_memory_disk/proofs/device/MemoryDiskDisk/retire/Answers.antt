use Rattle.flow_memory_disk.specs.Memory.{story_of}
use Rattle.flow_memory_disk.proofs.Told.{removes, elapses_removal, covers_removal}
use Rattle.flow_memory_disk.proofs.device.MemoryDiskDisk.retire.Goals as goal

pub returns-clause-held : goal.returns-clause-held
returns-clause-held c =
    removes (story_of c.args.self.now)
    (story_of c.try_remove.new.self) c.args.sealed.number c.try_remove.result c.try_remove.ensures.ok
    c.try_remove.ensures.err

pub returns-clause-time : goal.returns-clause-time
returns-clause-time c =
    elapses_removal (story_of c.args.self.now)
    (story_of c.try_remove.new.self) c.args.sealed.number c.try_remove.result c.try_remove.ensures.ok
    c.try_remove.ensures.err

pub returns-clause-covered : goal.returns-clause-covered
returns-clause-covered c =
    covers_removal (story_of c.args.self.now)
    (story_of c.try_remove.new.self) c.args.sealed.number c.try_remove.result c.try_remove.ensures.ok
