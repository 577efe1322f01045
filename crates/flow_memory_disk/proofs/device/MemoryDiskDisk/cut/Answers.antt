use Rattle.std.proofs.Common.{take}
use Rattle.flow_disk.specs.Disk.{loosened_at}
use Rattle.flow_memory_disk.specs.Calls.{held_of, shortened}
use Rattle.flow_memory_disk.specs.Memory.{story_of}
use Rattle.flow_memory_disk.proofs.Told.{makes, elapses, covers, cut_within, cut_same}
use Rattle.flow_memory_disk.proofs.device.MemoryDiskDisk.cut.Goals as goal

pub returns-clause-held : goal.returns-clause-held
returns-clause-held c =
    let old = story_of c.args.self.now in
    let file = held_of old c.args.file in
    makes old (story_of c.try_cut.new.self) (shortened c.args.file c.args.count)
    (loosened_at file c.args.count file.reads) c.try_cut.result c.try_cut.ensures.ok c.try_cut.ensures.err
    (cut_within file c.args.count file.reads)

pub returns-clause-time : goal.returns-clause-time
returns-clause-time c =
    let old = story_of c.args.self.now in
    let file = held_of old c.args.file in
    elapses old (story_of c.try_cut.new.self) (shortened c.args.file c.args.count)
    (loosened_at file c.args.count file.reads) c.try_cut.result c.try_cut.ensures.ok c.try_cut.ensures.err
    (cut_same file c.args.count (take c.args.count file.reads) file.reads)

pub returns-clause-covered : goal.returns-clause-covered
returns-clause-covered c =
    let old = story_of c.args.self.now in
    let file = held_of old c.args.file in
    covers old (story_of c.try_cut.new.self) (shortened c.args.file c.args.count)
    (loosened_at file c.args.count file.reads) c.try_cut.result c.try_cut.ensures.ok
    (cut_same file c.args.count file.reads (take c.args.count file.reads))
