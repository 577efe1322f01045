use Rattle.std.proofs.Common.{ap}
use Rattle.flow_directory.specs.File.{File, held_of}
use Rattle.flow_folder_disk.specs.Table.{marks_in}
use Rattle.flow_folder_disk.proofs.Marks.{later_by, elapses_by, marks_by_same}
use Rattle.flow_folder_disk.proofs.Marks.{measured, measured_others, sized_by}
use Rattle.flow_folder_disk.proofs.disk.FolderDiskDisk.length.Goals as goal

pub returns-clause-clock : goal.returns-clause-clock
returns-clause-clock g c =
    later_by (g.S.Directory.honest c.args.self.now.folder.system) (g.S.Directory.honest
    c.measure.new.self.folder.system) (g.S.Directory.moment c.args.self.now.folder.system) (g.S.Directory.moment
    c.measure.new.self.folder.system) c.measure.ensures.honest (λ h. (c.measure.ensures.time h).later)

pub returns-clause-count : goal.returns-clause-count
returns-clause-count g c =
    measured (g.S.Directory.honest c.args.self.now.folder.system) (g.S.Directory.honest
    c.measure.new.self.folder.system) (marks_in c.args.self.now.table) (marks_in c.measure.new.self.table)
    (g.S.Directory.files c.args.self.now.folder.system) (g.S.Directory.files c.measure.new.self.folder.system)
    c.args.file c.measure.result c.measure.ensures.honest c.measure.ensures.done c.measure.ensures.count (λ h.
    c.measure.ensures.files h c.args.file)

pub returns-clause-marks : goal.returns-clause-marks
returns-clause-marks g c n differs =
    marks_by_same (g.S.Directory.honest c.args.self.now.folder.system) (g.S.Directory.honest
    c.measure.new.self.folder.system) (marks_in c.args.self.now.table n) (marks_in c.measure.new.self.table n)
    (g.S.Directory.files c.args.self.now.folder.system n) (g.S.Directory.files c.measure.new.self.folder.system n)
    c.measure.ensures.honest
    (measured_others (marks_in c.args.self.now.table) (marks_in c.measure.new.self.table) c.args.file c.measure.result
    c.measure.ensures.done c.measure.ensures.failed n differs)
    (λ h. (
      ap (λ (x : File). x.held.reads) (c.measure.ensures.files h n),
      ap (λ (x : File). x.linked)
          (c.measure.ensures.files h n),
    ))

pub returns-clause-settled : goal.returns-clause-settled
returns-clause-settled g c =
    (sized_by (g.S.Directory.honest c.args.self.now.folder.system) (g.S.Directory.honest
    c.measure.new.self.folder.system) (marks_in c.args.self.now.table) (marks_in c.measure.new.self.table)
    (g.S.Directory.files c.args.self.now.folder.system) (g.S.Directory.files c.measure.new.self.folder.system)
    c.args.file c.measure.result c.measure.ensures.honest c.measure.ensures.done c.measure.ensures.failed (λ h.
    c.measure.ensures.files h c.args.file)).settled

pub returns-clause-frozen : goal.returns-clause-frozen
returns-clause-frozen g c =
    (sized_by (g.S.Directory.honest c.args.self.now.folder.system) (g.S.Directory.honest
    c.measure.new.self.folder.system) (marks_in c.args.self.now.table) (marks_in c.measure.new.self.table)
    (g.S.Directory.files c.args.self.now.folder.system) (g.S.Directory.files c.measure.new.self.folder.system)
    c.args.file c.measure.result c.measure.ensures.honest c.measure.ensures.done c.measure.ensures.failed (λ h.
    c.measure.ensures.files h c.args.file)).frozen

pub returns-clause-listed : goal.returns-clause-listed
returns-clause-listed g c =
    (sized_by (g.S.Directory.honest c.args.self.now.folder.system) (g.S.Directory.honest
    c.measure.new.self.folder.system) (marks_in c.args.self.now.table) (marks_in c.measure.new.self.table)
    (g.S.Directory.files c.args.self.now.folder.system) (g.S.Directory.files c.measure.new.self.folder.system)
    c.args.file c.measure.result c.measure.ensures.honest c.measure.ensures.done c.measure.ensures.failed (λ h.
    c.measure.ensures.files h c.args.file)).listed

pub returns-clause-held : goal.returns-clause-held
returns-clause-held g c h n =
    ap (λ (x : File). x.held) (c.measure.ensures.files h n)

pub returns-clause-time : goal.returns-clause-time
returns-clause-time g c h =
    elapses_by (g.S.Directory.honest c.args.self.now.folder.system) (g.S.Directory.honest
    c.measure.new.self.folder.system) (g.S.Directory.moment c.args.self.now.folder.system) (g.S.Directory.moment
    c.measure.new.self.folder.system) (g.S.Directory.left_since c.args.self.now.folder.system)
    (g.S.Directory.left_since c.measure.new.self.folder.system)
    (held_of (g.S.Directory.files c.args.self.now.folder.system)) c.measure.ensures.honest h (c.measure.ensures.time h)
