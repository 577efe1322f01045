use Rattle.std.proofs.Common.{length}
use Rattle.flow_disk.specs.Disk.{put_at, touched_at}
use Rattle.flow_memory_disk.specs.Calls.{held_of, written}
use Rattle.flow_memory_disk.specs.Memory.{story_of}
use Rattle.flow_memory_disk.proofs.Told.{makes, elapses, covers, write_within, write_same}
use Rattle.flow_memory_disk.proofs.device.MemoryDiskDisk.write_at.Goals as goal

pub returns-clause-held : goal.returns-clause-held
returns-clause-held c =
    let old = story_of c.args.self.now in
    let file = held_of old c.args.file in
    makes old (story_of c.try_write.new.self) (written c.args.file c.args.at c.args.octets.now)
    (touched_at file c.args.at (length c.args.octets.now) file.reads) c.try_write.result c.try_write.ensures.ok
    c.try_write.ensures.err
    (write_within file c.args.at (length c.args.octets.now) file.reads)

pub returns-clause-time : goal.returns-clause-time
returns-clause-time c =
    let old = story_of c.args.self.now in
    let file = held_of old c.args.file in
    elapses old (story_of c.try_write.new.self) (written c.args.file c.args.at c.args.octets.now)
    (touched_at file c.args.at (length c.args.octets.now) file.reads) c.try_write.result c.try_write.ensures.ok
    c.try_write.ensures.err
    (write_same file c.args.at (length c.args.octets.now) (put_at file.reads c.args.at c.args.octets.now) file.reads)

pub returns-clause-covered : goal.returns-clause-covered
returns-clause-covered c =
    let old = story_of c.args.self.now in
    let file = held_of old c.args.file in
    covers old (story_of c.try_write.new.self) (written c.args.file c.args.at c.args.octets.now)
    (touched_at file c.args.at (length c.args.octets.now) file.reads) c.try_write.result c.try_write.ensures.ok
    (write_same file c.args.at (length c.args.octets.now) file.reads (put_at file.reads c.args.at c.args.octets.now))
