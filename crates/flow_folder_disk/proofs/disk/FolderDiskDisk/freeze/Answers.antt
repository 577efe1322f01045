use Rattle.std.proofs.Common.{◌≡◌}
use Rattle.std.proofs.Common.{sym, ◌∙◌, ap}
use Rattle.flow_disk.specs.Disk.{Held}
use Rattle.flow_disk.specs.Files.{frozen_as}
use Rattle.flow_directory.specs.File.{held_of}
use Rattle.flow_folder_disk.specs.Table.{marks_in}
use Rattle.flow_folder_disk.specs.Marking.{settled_of}
use Rattle.flow_folder_disk.proofs.Removing.{on_ok}
use Rattle.flow_folder_disk.proofs.Marks.{frozen_of, later_by, elapses_by, marks_by_same}
use Rattle.flow_folder_disk.proofs.Marks.{changes_by}
use Rattle.flow_folder_disk.proofs.Marks.{frozen_marks, sealed_by, on_err}
use Rattle.flow_folder_disk.proofs.disk.FolderDiskDisk.freeze.Goals as goal

pub lend-requires-clause-settled : goal.lend-requires-clause-settled
lend-requires-clause-settled g c =
    settled_of (g.S.Directory.honest c.args.self.now.folder.system) (marks_in c.args.self.now.table c.args.file)
    (g.S.Directory.files c.args.self.now.folder.system c.args.file) c.requires.settled

pub lend-requires-clause-thawed : goal.lend-requires-clause-thawed
lend-requires-clause-thawed g c =
    sym (frozen_of (g.S.Directory.honest c.args.self.now.folder.system) (marks_in c.args.self.now.table c.args.file)
    (g.S.Directory.files c.args.self.now.folder.system c.args.file)) ∙ c.requires.thawed

pub returns-clause-clock : goal.returns-clause-clock
returns-clause-clock g c =
    later_by (g.S.Directory.honest c.args.self.now.folder.system) (g.S.Directory.honest c.lend.new.self.folder.system)
    (g.S.Directory.moment c.args.self.now.folder.system) (g.S.Directory.moment c.lend.new.self.folder.system)
    c.lend.ensures.honest (λ h. (c.lend.ensures.time h).later)

pub returns-clause-sealed : goal.returns-clause-sealed
returns-clause-sealed g c =
    sealed_by (g.S.Directory.honest c.args.self.now.folder.system) (marks_in c.args.self.now.table c.args.file)
    (g.S.Directory.files c.args.self.now.folder.system c.args.file) c.lend.result (λ s. s.size) (λ s.
    g.S.Reader.FileReader.number s.reader ≡ c.args.file)
    (λ s. g.S.Reader.FileReader.honest s.reader ≡ g.S.Directory.honest c.args.self.now.folder.system)
    c.lend.ensures.size c.lend.ensures.reported c.lend.ensures.reader

pub returns-clause-frozen : goal.returns-clause-frozen
returns-clause-frozen g c =
    on_ok c.lend.result (λ changes. changes_by (g.S.Directory.honest c.args.self.now.folder.system)
    (g.S.Directory.honest c.lend.new.self.folder.system) (marks_in c.args.self.now.table) (marks_in
    c.lend.new.self.table) (g.S.Directory.files c.args.self.now.folder.system) (g.S.Directory.files
    c.lend.new.self.folder.system) c.args.file
    frozen_as c.lend.ensures.honest changes (λ h i. (
      ap (λ (x : Held). x.reads) (c.lend.ensures.held h i),
      c.lend.ensures.linked h i,
    ))
    (λ h. frozen_marks (marks_in c.args.self.now.table c.args.file) (g.S.Directory.files c.args.self.now.folder.system
    c.args.file) (g.S.Directory.files c.lend.new.self.folder.system c.args.file) (c.lend.ensures.held h c.args.file)
    (c.lend.ensures.linked h c.args.file))) c.lend.ensures.frozen

pub returns-clause-thawed : goal.returns-clause-thawed
returns-clause-thawed g c =
    on_err c.lend.result (λ stays n. marks_by_same (g.S.Directory.honest c.args.self.now.folder.system)
    (g.S.Directory.honest c.lend.new.self.folder.system) (marks_in c.args.self.now.table n) (marks_in
    c.lend.new.self.table n) (g.S.Directory.files c.args.self.now.folder.system n) (g.S.Directory.files
    c.lend.new.self.folder.system n) c.lend.ensures.honest (stays n)
    (λ h. (ap (λ (x : Held). x.reads) (c.lend.ensures.held h n), c.lend.ensures.linked h n))) c.lend.ensures.thawed

pub returns-clause-held : goal.returns-clause-held
returns-clause-held g c h n =
    c.lend.ensures.held h n

pub returns-clause-time : goal.returns-clause-time
returns-clause-time g c h =
    elapses_by (g.S.Directory.honest c.args.self.now.folder.system) (g.S.Directory.honest
    c.lend.new.self.folder.system) (g.S.Directory.moment c.args.self.now.folder.system) (g.S.Directory.moment
    c.lend.new.self.folder.system) (g.S.Directory.left_since c.args.self.now.folder.system) (g.S.Directory.left_since
    c.lend.new.self.folder.system)
    (held_of (g.S.Directory.files c.args.self.now.folder.system)) c.lend.ensures.honest h (c.lend.ensures.time h)
