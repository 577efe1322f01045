use Rattle.std.proofs.Common.{true}
use Rattle.std.proofs.Common.{ap}
use Rattle.flow_disk.specs.Disk.{Held}
use Rattle.flow_directory.specs.File.{held_of}
use Rattle.flow_folder_disk.specs.Table.{marks_in, marks_by}
use Rattle.flow_folder_disk.proofs.Removing.{on_ok}
use Rattle.flow_folder_disk.proofs.Marks.{frozen_of, marked_by, later_by, elapses_by}
use Rattle.flow_folder_disk.proofs.Marks.{synced_marks}
use Rattle.flow_folder_disk.proofs.disk.FolderDiskDisk.sync.Goals as goal

pub returns-clause-honest : goal.returns-clause-honest
returns-clause-honest g c =
    c.settle.ensures.honest

pub returns-clause-clock : goal.returns-clause-clock
returns-clause-clock g c =
    later_by (g.S.Directory.honest c.args.self.now.folder.system) (g.S.Directory.honest
    c.settle.new.self.folder.system) (g.S.Directory.moment c.args.self.now.folder.system) (g.S.Directory.moment
    c.settle.new.self.folder.system) c.settle.ensures.honest (λ h. (c.settle.ensures.leaves h).time.later)

pub returns-clause-marks : goal.returns-clause-marks
returns-clause-marks g c =
    marked_by (g.S.Directory.honest c.args.self.now.folder.system) (g.S.Directory.honest
    c.settle.new.self.folder.system) (marks_in c.args.self.now.table) (marks_in c.settle.new.self.table)
    (g.S.Directory.files c.args.self.now.folder.system) (g.S.Directory.files c.settle.new.self.folder.system)
    c.args.file
    (λ m. record { size = m.size; settled = true; frozen = m.frozen; listed = true }) (marks_in c.args.self.now.table
    c.args.file).frozen (marks_by (g.S.Directory.honest c.args.self.now.folder.system) (marks_in c.args.self.now.table
    c.args.file) (g.S.Directory.files c.args.self.now.folder.system c.args.file)).frozen (frozen_of
    (g.S.Directory.honest c.args.self.now.folder.system) (marks_in c.args.self.now.table c.args.file)
    (g.S.Directory.files c.args.self.now.folder.system c.args.file)) c.settle.result c.settle.ensures.honest
    c.settle.ensures.marks
    (λ h i differs. (
      ap (λ (x : Held). x.reads) ((c.settle.ensures.leaves h).others i differs).held,
      ((c.settle.ensures.leaves h).others i differs).status.linked,
    ))
    (λ h. on_ok c.settle.result (λ held. synced_marks (marks_in c.args.self.now.table c.args.file) (g.S.Directory.files
    c.args.self.now.folder.system c.args.file) (g.S.Directory.files c.settle.new.self.folder.system c.args.file) held)
    (c.settle.ensures.held h).done)

pub returns-clause-held : goal.returns-clause-held
returns-clause-held g c h =
    c.settle.ensures.held h

pub returns-clause-time : goal.returns-clause-time
returns-clause-time g c h =
    elapses_by (g.S.Directory.honest c.args.self.now.folder.system) (g.S.Directory.honest
    c.settle.new.self.folder.system) (g.S.Directory.moment c.args.self.now.folder.system) (g.S.Directory.moment
    c.settle.new.self.folder.system) (g.S.Directory.left_since c.args.self.now.folder.system) (g.S.Directory.left_since
    c.settle.new.self.folder.system)
    (held_of (g.S.Directory.files c.args.self.now.folder.system)) c.settle.ensures.honest h (c.settle.ensures.leaves
    h).time

pub returns-clause-cause : goal.returns-clause-cause
returns-clause-cause g c =
    c.settle.ensures.cause
