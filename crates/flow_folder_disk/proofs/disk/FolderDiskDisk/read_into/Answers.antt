use Rattle.std.proofs.Common.{ap}
use Rattle.flow_disk.specs.Disk.{Held}
use Rattle.flow_directory.specs.File.{held_of}
use Rattle.flow_folder_disk.specs.Table.{marks_in}
use Rattle.flow_folder_disk.proofs.Marks.{later_by, elapses_by, marks_by_same}
use Rattle.flow_folder_disk.specs.declared.reported.Table.{Table}
use Rattle.flow_folder_disk.proofs.disk.FolderDiskDisk.read_into.Goals as goal

pub returns-clause-clock : goal.returns-clause-clock
returns-clause-clock g c =
    later_by (g.S.Directory.honest c.args.self.now.folder.system) (g.S.Directory.honest
    c.fill.new.self.folder.system) (g.S.Directory.moment c.args.self.now.folder.system) (g.S.Directory.moment
    c.fill.new.self.folder.system) c.fill.ensures.honest (λ h. (c.fill.ensures.time h).later)

pub returns-clause-marks : goal.returns-clause-marks
returns-clause-marks g c n =
    marks_by_same (g.S.Directory.honest c.args.self.now.folder.system) (g.S.Directory.honest
    c.fill.new.self.folder.system) (marks_in c.args.self.now.table n) (marks_in c.fill.new.self.table n)
    (g.S.Directory.files c.args.self.now.folder.system n) (g.S.Directory.files c.fill.new.self.folder.system n)
    c.fill.ensures.honest
    (ap (λ (t : Table). marks_in t n) c.fill.ensures.table)
    (λ h. (ap (λ (x : Held). x.reads) (c.fill.ensures.seen h n).held, (c.fill.ensures.seen h n).status.linked))

pub returns-clause-held : goal.returns-clause-held
returns-clause-held g c h n =
    (c.fill.ensures.seen h n).held

pub returns-clause-time : goal.returns-clause-time
returns-clause-time g c h =
    elapses_by (g.S.Directory.honest c.args.self.now.folder.system) (g.S.Directory.honest
    c.fill.new.self.folder.system) (g.S.Directory.moment c.args.self.now.folder.system) (g.S.Directory.moment
    c.fill.new.self.folder.system) (g.S.Directory.left_since c.args.self.now.folder.system)
    (g.S.Directory.left_since c.fill.new.self.folder.system)
    (held_of (g.S.Directory.files c.args.self.now.folder.system)) c.fill.ensures.honest h (c.fill.ensures.time
    h)
