use Rattle.std.proofs.Common.{◌||◌}
use Rattle.std.proofs.Common.{ap}
use Rattle.flow_directory.specs.File.{File, held_of}
use Rattle.flow_folder_disk.specs.Table.{marks_in, marks_by}
use Rattle.flow_folder_disk.proofs.Marks.{later_by, elapses_by, marks_by_same}
use Rattle.flow_folder_disk.proofs.Marks.{listed_by, listed_in}
use Rattle.flow_folder_disk.specs.declared.reported.Table.{Table}
use Rattle.flow_folder_disk.proofs.disk.FolderDiskDisk.files.Goals as goal

pub returns-clause-clock : goal.returns-clause-clock
returns-clause-clock g c =
    later_by (g.S.Directory.honest c.args.self.now.folder.system) (g.S.Directory.honest c.list.new.self.folder.system)
    (g.S.Directory.moment c.args.self.now.folder.system) (g.S.Directory.moment c.list.new.self.folder.system)
    c.list.ensures.honest (λ h. (c.list.ensures.time h).later)

pub returns-clause-listed : goal.returns-clause-listed
returns-clause-listed g c h =
    listed_in c.list.result (λ files. files.items) (λ n. (g.S.Directory.files c.args.self.now.folder.system n).linked
    || (marks_in c.args.self.now.table n).listed)
    (λ n. (marks_by (g.S.Directory.honest c.list.new.self.folder.system) (marks_in c.list.new.self.table n)
    (g.S.Directory.files c.list.new.self.folder.system n)).listed)
    (λ n. listed_by (g.S.Directory.honest c.args.self.now.folder.system) (g.S.Directory.honest
    c.list.new.self.folder.system) (marks_in c.args.self.now.table n) (marks_in c.list.new.self.table n)
    (g.S.Directory.files c.args.self.now.folder.system n) (g.S.Directory.files c.list.new.self.folder.system n) h
    c.list.ensures.honest
    (ap (λ (t : Table). marks_in t n) c.list.ensures.table) (c.list.ensures.files h n)) (c.list.ensures.listed h)

pub returns-clause-marks : goal.returns-clause-marks
returns-clause-marks g c n =
    marks_by_same (g.S.Directory.honest c.args.self.now.folder.system) (g.S.Directory.honest
    c.list.new.self.folder.system) (marks_in c.args.self.now.table n) (marks_in c.list.new.self.table n)
    (g.S.Directory.files c.args.self.now.folder.system n) (g.S.Directory.files c.list.new.self.folder.system n)
    c.list.ensures.honest
    (ap (λ (t : Table). marks_in t n) c.list.ensures.table)
    (λ h. (
      ap (λ (x : File). x.held.reads) (c.list.ensures.files h n),
      ap (λ (x : File). x.linked)
          (c.list.ensures.files h n),
    ))

pub returns-clause-held : goal.returns-clause-held
returns-clause-held g c h n =
    ap (λ (x : File). x.held) (c.list.ensures.files h n)

pub returns-clause-time : goal.returns-clause-time
returns-clause-time g c h =
    elapses_by (g.S.Directory.honest c.args.self.now.folder.system) (g.S.Directory.honest
    c.list.new.self.folder.system) (g.S.Directory.moment c.args.self.now.folder.system) (g.S.Directory.moment
    c.list.new.self.folder.system) (g.S.Directory.left_since c.args.self.now.folder.system) (g.S.Directory.left_since
    c.list.new.self.folder.system)
    (held_of (g.S.Directory.files c.args.self.now.folder.system)) c.list.ensures.honest h (c.list.ensures.time h)
