use Rattle.std.proofs.Common.{ℕ, ◌≤◌, ◌^◌, true, false}
use Rattle.std.proofs.Common.{refl, sym, ◌∙◌, ap, subst}
use Rattle.flow_disk.specs.Disk.{Held}
use Rattle.flow_disk.specs.Files.{while_cutting}
use Rattle.flow_directory.specs.File.{held_of}
use Rattle.flow_folder_disk.specs.Table.{marks_in, marks_by, limited}
use Rattle.flow_folder_disk.specs.Marking.{size_of, limit_of}
use Rattle.flow_folder_disk.proofs.Removing.{on_ok}
use Rattle.flow_folder_disk.proofs.Marks.{frozen_of, marked_by, later_by, elapses_by, covers_by}
use Rattle.flow_folder_disk.proofs.Marks.{cut_marks}
use Rattle.flow_folder_disk.proofs.Marks.{le_then}
use Rattle.flow_folder_disk.proofs.disk.FolderDiskDisk.cut.Goals as goal

pub shorten-requires-clause-place : goal.shorten-requires-clause-place
shorten-requires-clause-place g c =
    le_then c.args.count (marks_by (g.S.Directory.honest c.args.self.now.folder.system) (marks_in c.args.self.now.table
    c.args.file) (g.S.Directory.files c.args.self.now.folder.system c.args.file)).size (2 ^ 62) c.requires.place
    (limit_of (g.S.Directory.honest c.args.self.now.folder.system) (marks_in c.args.self.now.table c.args.file)
    (g.S.Directory.files c.args.self.now.folder.system c.args.file) (2 ^ 62) (λ h. g.met.S.Directory.within_limit
    c.args.self.now.folder.system c.args.file h) (limited c.args.self.now.table c.args.file))

pub shorten-requires-clause-within : goal.shorten-requires-clause-within
shorten-requires-clause-within g c h =
    subst (λ (k : ℕ). c.args.count ≤ k) (size_of (g.S.Directory.honest c.args.self.now.folder.system) (marks_in
    c.args.self.now.table c.args.file) (g.S.Directory.files c.args.self.now.folder.system c.args.file) h)
    c.requires.place

pub shorten-requires-clause-thawed : goal.shorten-requires-clause-thawed
shorten-requires-clause-thawed g c =
    sym (frozen_of (g.S.Directory.honest c.args.self.now.folder.system) (marks_in c.args.self.now.table c.args.file)
    (g.S.Directory.files c.args.self.now.folder.system c.args.file)) ∙ c.requires.thawed

pub returns-clause-honest : goal.returns-clause-honest
returns-clause-honest g c =
    c.shorten.ensures.honest

pub returns-clause-clock : goal.returns-clause-clock
returns-clause-clock g c =
    later_by (g.S.Directory.honest c.args.self.now.folder.system) (g.S.Directory.honest
    c.shorten.new.self.folder.system) (g.S.Directory.moment c.args.self.now.folder.system) (g.S.Directory.moment
    c.shorten.new.self.folder.system) c.shorten.ensures.honest (λ h. (c.shorten.ensures.leaves h).time.later)

pub returns-clause-marks : goal.returns-clause-marks
returns-clause-marks g c =
    marked_by (g.S.Directory.honest c.args.self.now.folder.system) (g.S.Directory.honest
    c.shorten.new.self.folder.system) (marks_in c.args.self.now.table) (marks_in c.shorten.new.self.table)
    (g.S.Directory.files c.args.self.now.folder.system) (g.S.Directory.files c.shorten.new.self.folder.system)
    c.args.file
    (λ m. record { size = c.args.count; settled = false; frozen = false; listed = true }) false false (refl)
    c.shorten.result c.shorten.ensures.honest c.shorten.ensures.marks
    (λ h i differs. (
      ap (λ (x : Held). x.reads) ((c.shorten.ensures.leaves h).others i differs).held,
      ((c.shorten.ensures.leaves h).others i differs).status.linked,
    ))
    (λ h. on_ok c.shorten.result (λ held. cut_marks (g.S.Directory.files c.args.self.now.folder.system c.args.file)
    (g.S.Directory.files c.shorten.new.self.folder.system c.args.file) c.args.count
    (subst (λ (k : ℕ). c.args.count ≤ k) (size_of (g.S.Directory.honest c.args.self.now.folder.system) (marks_in
    c.args.self.now.table c.args.file) (g.S.Directory.files c.args.self.now.folder.system c.args.file) h)
    c.requires.place) held) (c.shorten.ensures.held h).done)

pub returns-clause-held : goal.returns-clause-held
returns-clause-held g c h =
    c.shorten.ensures.held h

pub returns-clause-time : goal.returns-clause-time
returns-clause-time g c h =
    elapses_by (g.S.Directory.honest c.args.self.now.folder.system) (g.S.Directory.honest
    c.shorten.new.self.folder.system) (g.S.Directory.moment c.args.self.now.folder.system) (g.S.Directory.moment
    c.shorten.new.self.folder.system) (g.S.Directory.left_since c.args.self.now.folder.system)
    (g.S.Directory.left_since c.shorten.new.self.folder.system)
    (while_cutting (held_of (g.S.Directory.files c.args.self.now.folder.system)) c.args.file c.args.count)
    c.shorten.ensures.honest h (c.shorten.ensures.leaves h).time

pub returns-clause-covered : goal.returns-clause-covered
returns-clause-covered g c h =
    on_ok c.shorten.result (λ covers. covers_by (g.S.Directory.honest c.args.self.now.folder.system)
    (g.S.Directory.moment c.args.self.now.folder.system) (g.S.Directory.left_since c.shorten.new.self.folder.system)
    (while_cutting (held_of (g.S.Directory.files c.args.self.now.folder.system)) c.args.file c.args.count) h covers)
    (c.shorten.ensures.covered h)

pub returns-clause-cause : goal.returns-clause-cause
returns-clause-cause g c =
    c.shorten.ensures.cause
