use Rattle.std.proofs.Common.{true, false}
use Rattle.std.proofs.Common.{sym, ◌∙◌, ap}
use Rattle.flow_disk.specs.Disk.{Held}
use Rattle.flow_disk.specs.Files.{while_removing}
use Rattle.flow_directory.specs.File.{held_of}
use Rattle.flow_folder_disk.specs.Table.{marks_in, marks_by}
use Rattle.flow_folder_disk.proofs.Removing.{on_ok}
use Rattle.flow_folder_disk.proofs.Marks.{frozen_of, marked_by, later_by, elapses_by, covers_by}
use Rattle.flow_folder_disk.proofs.Marks.{removed_marks}
use Rattle.flow_folder_disk.proofs.Kept.{thawed_free}
use Rattle.flow_folder_disk.proofs.disk.FolderDiskDisk.remove.Goals as goal

pub take_away-requires : goal.take_away-requires
take_away-requires g c h =
    thawed_free (marks_in c.args.self.now.table) (g.S.Directory.files c.args.self.now.folder.system) c.args.file
    (c.args.self.now.frozen h) (sym (frozen_of (g.S.Directory.honest c.args.self.now.folder.system) (marks_in
    c.args.self.now.table c.args.file) (g.S.Directory.files c.args.self.now.folder.system c.args.file)) ∙ c.requires)

pub returns-clause-honest : goal.returns-clause-honest
returns-clause-honest g c =
    c.take_away.ensures.honest

pub returns-clause-clock : goal.returns-clause-clock
returns-clause-clock g c =
    later_by (g.S.Directory.honest c.args.self.now.folder.system) (g.S.Directory.honest
    c.take_away.new.self.folder.system) (g.S.Directory.moment c.args.self.now.folder.system) (g.S.Directory.moment
    c.take_away.new.self.folder.system) c.take_away.ensures.honest (λ h. (c.take_away.ensures.leaves h).time.later)

pub returns-clause-marks : goal.returns-clause-marks
returns-clause-marks g c =
    marked_by (g.S.Directory.honest c.args.self.now.folder.system) (g.S.Directory.honest
    c.take_away.new.self.folder.system) (marks_in c.args.self.now.table) (marks_in c.take_away.new.self.table)
    (g.S.Directory.files c.args.self.now.folder.system) (g.S.Directory.files c.take_away.new.self.folder.system)
    c.args.file
    (λ m. record { size = 0; settled = true; frozen = false; listed = false }) (marks_in c.args.self.now.table
    c.args.file).frozen (marks_by (g.S.Directory.honest c.args.self.now.folder.system) (marks_in c.args.self.now.table
    c.args.file) (g.S.Directory.files c.args.self.now.folder.system c.args.file)).frozen (frozen_of
    (g.S.Directory.honest c.args.self.now.folder.system) (marks_in c.args.self.now.table c.args.file)
    (g.S.Directory.files c.args.self.now.folder.system c.args.file)) c.take_away.result c.take_away.ensures.honest
    c.take_away.ensures.marks
    (λ h i differs. (
      ap (λ (x : Held). x.reads) ((c.take_away.ensures.leaves h).others i differs).held,
      ((c.take_away.ensures.leaves h).others i differs).status.linked,
    ))
    (λ h. removed_marks (g.S.Directory.files c.take_away.new.self.folder.system c.args.file) c.take_away.result
    (c.take_away.ensures.held h).done (c.take_away.ensures.unlinked h))

pub returns-clause-held : goal.returns-clause-held
returns-clause-held g c h =
    c.take_away.ensures.held h

pub returns-clause-time : goal.returns-clause-time
returns-clause-time g c h =
    elapses_by (g.S.Directory.honest c.args.self.now.folder.system) (g.S.Directory.honest
    c.take_away.new.self.folder.system) (g.S.Directory.moment c.args.self.now.folder.system) (g.S.Directory.moment
    c.take_away.new.self.folder.system) (g.S.Directory.left_since c.args.self.now.folder.system)
    (g.S.Directory.left_since c.take_away.new.self.folder.system)
    (while_removing (held_of (g.S.Directory.files c.args.self.now.folder.system)) c.args.file)
    c.take_away.ensures.honest h (c.take_away.ensures.leaves h).time

pub returns-clause-covered : goal.returns-clause-covered
returns-clause-covered g c h =
    on_ok c.take_away.result (λ covers. covers_by (g.S.Directory.honest c.args.self.now.folder.system)
    (g.S.Directory.moment c.args.self.now.folder.system) (g.S.Directory.left_since c.take_away.new.self.folder.system)
    (while_removing (held_of (g.S.Directory.files c.args.self.now.folder.system)) c.args.file) h covers)
    (c.take_away.ensures.covered h)

pub returns-clause-cause : goal.returns-clause-cause
returns-clause-cause g c =
    c.take_away.ensures.cause
