use Rattle.flow_memory_disk.specs.Calls.{held_of, settled}
use Rattle.flow_memory_disk.specs.Memory.{story_of}
use Rattle.flow_memory_disk.proofs.Told.{makes, elapses_quiet, sync_within}
use Rattle.flow_memory_disk.proofs.device.MemoryDiskDisk.sync.Goals as goal

pub returns-clause-held : goal.returns-clause-held
returns-clause-held c =
    let old = story_of c.args.self.now in
    makes old (story_of c.try_sync.new.self) (settled c.args.file)
    (held_of old c.args.file) c.try_sync.result c.try_sync.ensures.ok c.try_sync.ensures.err (λ octets is. is)

pub returns-clause-time : goal.returns-clause-time
returns-clause-time c =
    let old = story_of c.args.self.now in
    elapses_quiet old (story_of c.try_sync.new.self)
    (settled c.args.file) c.try_sync.result c.try_sync.ensures.ok c.try_sync.ensures.err
    (sync_within old c.args.file)
