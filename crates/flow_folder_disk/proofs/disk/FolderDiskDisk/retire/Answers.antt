use Rattle.std.proofs.Common.{true, false}
use Rattle.std.proofs.Common.{ap}
use Rattle.flow_disk.specs.Disk.{Held}
use Rattle.flow_disk.specs.Files.{while_removing}
use Rattle.flow_directory.specs.File.{held_of}
use Rattle.flow_folder_disk.specs.Table.{marks_in, marks_by}
use Rattle.flow_folder_disk.proofs.Removing.{on_ok}
use Rattle.flow_folder_disk.proofs.Marks.{frozen_of, marked_by, later_by, elapses_by, covers_by}
use Rattle.flow_folder_disk.proofs.Marks.{removed_marks}
use Rattle.flow_folder_disk.proofs.disk.FolderDiskDisk.retire.Goals as goal

pub returns-clause-honest : goal.returns-clause-honest
returns-clause-honest g c =
    c.discard.ensures.honest

pub returns-clause-clock : goal.returns-clause-clock
returns-clause-clock g c =
    later_by (g.S.Directory.honest c.args.self.now.folder.system) (g.S.Directory.honest
    c.discard.new.self.folder.system) (g.S.Directory.moment c.args.self.now.folder.system) (g.S.Directory.moment
    c.discard.new.self.folder.system) c.discard.ensures.honest (λ h. (c.discard.ensures.leaves h).time.later)

pub returns-clause-marks : goal.returns-clause-marks
returns-clause-marks g c =
    marked_by (g.S.Directory.honest c.args.self.now.folder.system) (g.S.Directory.honest
    c.discard.new.self.folder.system) (marks_in c.args.self.now.table) (marks_in c.discard.new.self.table)
    (g.S.Directory.files c.args.self.now.folder.system) (g.S.Directory.files c.discard.new.self.folder.system)
    (g.S.Reader.FileReader.number c.args.sealed.reader)
    (λ m. record { size = 0; settled = true; frozen = false; listed = false }) (marks_in c.args.self.now.table
    (g.S.Reader.FileReader.number c.args.sealed.reader)).frozen (marks_by (g.S.Directory.honest
    c.args.self.now.folder.system) (marks_in c.args.self.now.table (g.S.Reader.FileReader.number c.args.sealed.reader))
    (g.S.Directory.files c.args.self.now.folder.system (g.S.Reader.FileReader.number c.args.sealed.reader))).frozen
    (frozen_of (g.S.Directory.honest c.args.self.now.folder.system) (marks_in c.args.self.now.table
    (g.S.Reader.FileReader.number c.args.sealed.reader)) (g.S.Directory.files c.args.self.now.folder.system
    (g.S.Reader.FileReader.number c.args.sealed.reader))) c.discard.result c.discard.ensures.honest
    c.discard.ensures.marks
    (λ h i differs. (
      ap (λ (x : Held). x.reads) ((c.discard.ensures.leaves h).others i differs).held,
      ((c.discard.ensures.leaves h).others i differs).status.linked,
    ))
    (λ h. removed_marks (g.S.Directory.files c.discard.new.self.folder.system (g.S.Reader.FileReader.number
    c.args.sealed.reader)) c.discard.result (c.discard.ensures.held h).done (c.discard.ensures.unlinked h))

pub returns-clause-held : goal.returns-clause-held
returns-clause-held g c h =
    c.discard.ensures.held h

pub returns-clause-time : goal.returns-clause-time
returns-clause-time g c h =
    elapses_by (g.S.Directory.honest c.args.self.now.folder.system) (g.S.Directory.honest
    c.discard.new.self.folder.system) (g.S.Directory.moment c.args.self.now.folder.system) (g.S.Directory.moment
    c.discard.new.self.folder.system) (g.S.Directory.left_since c.args.self.now.folder.system)
    (g.S.Directory.left_since c.discard.new.self.folder.system)
    (while_removing (held_of (g.S.Directory.files c.args.self.now.folder.system)) (g.S.Reader.FileReader.number
    c.args.sealed.reader)) c.discard.ensures.honest h (c.discard.ensures.leaves h).time

pub returns-clause-covered : goal.returns-clause-covered
returns-clause-covered g c h =
    on_ok c.discard.result (λ covers. covers_by (g.S.Directory.honest c.args.self.now.folder.system)
    (g.S.Directory.moment c.args.self.now.folder.system) (g.S.Directory.left_since c.discard.new.self.folder.system)
    (while_removing (held_of (g.S.Directory.files c.args.self.now.folder.system)) (g.S.Reader.FileReader.number
    c.args.sealed.reader)) h covers) (c.discard.ensures.covered h)

pub returns-clause-cause : goal.returns-clause-cause
returns-clause-cause g c =
    c.discard.ensures.cause
