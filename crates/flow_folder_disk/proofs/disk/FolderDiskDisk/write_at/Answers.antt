use Rattle.std.proofs.Common.{ℕ, ◌+◌, ◌≤◌, ◌^◌, max, true, false, length}
use Rattle.std.proofs.Common.{refl, sym, ◌∙◌, ap, subst}
use Rattle.flow_disk.specs.Disk.{Held}
use Rattle.flow_disk.specs.Files.{while_writing}
use Rattle.flow_directory.specs.File.{held_of}
use Rattle.flow_folder_disk.specs.Table.{marks_in, marks_by, limited}
use Rattle.flow_folder_disk.specs.Marking.{size_of, limit_of}
use Rattle.flow_folder_disk.proofs.Removing.{on_ok}
use Rattle.flow_folder_disk.proofs.Marks.{frozen_of, marked_by, later_by, elapses_by, covers_by}
use Rattle.flow_folder_disk.proofs.Marks.{written_marks}
use Rattle.flow_folder_disk.proofs.Marks.{le_then}
use Rattle.flow_folder_disk.proofs.disk.FolderDiskDisk.write_at.Goals as goal

pub put-requires-clause-place : goal.put-requires-clause-place
put-requires-clause-place g c =
    le_then c.args.at (marks_by (g.S.Directory.honest c.args.self.now.folder.system) (marks_in c.args.self.now.table
    c.args.file) (g.S.Directory.files c.args.self.now.folder.system c.args.file)).size (2 ^ 62) c.requires.place
    (limit_of (g.S.Directory.honest c.args.self.now.folder.system) (marks_in c.args.self.now.table c.args.file)
    (g.S.Directory.files c.args.self.now.folder.system c.args.file) (2 ^ 62) (λ h. g.met.S.Directory.within_limit
    c.args.self.now.folder.system c.args.file h) (limited c.args.self.now.table c.args.file))

pub put-requires-clause-within : goal.put-requires-clause-within
put-requires-clause-within g c h =
    subst (λ (k : ℕ). c.args.at ≤ k) (size_of (g.S.Directory.honest c.args.self.now.folder.system) (marks_in
    c.args.self.now.table c.args.file) (g.S.Directory.files c.args.self.now.folder.system c.args.file) h)
    c.requires.place

pub put-requires-clause-thawed : goal.put-requires-clause-thawed
put-requires-clause-thawed g c =
    sym (frozen_of (g.S.Directory.honest c.args.self.now.folder.system) (marks_in c.args.self.now.table c.args.file)
    (g.S.Directory.files c.args.self.now.folder.system c.args.file)) ∙ c.requires.thawed

pub returns-clause-honest : goal.returns-clause-honest
returns-clause-honest g c =
    c.put.ensures.honest

pub returns-clause-clock : goal.returns-clause-clock
returns-clause-clock g c =
    later_by (g.S.Directory.honest c.args.self.now.folder.system) (g.S.Directory.honest c.put.new.self.folder.system)
    (g.S.Directory.moment c.args.self.now.folder.system) (g.S.Directory.moment c.put.new.self.folder.system)
    c.put.ensures.honest (λ h. (c.put.ensures.leaves h).time.later)

pub returns-clause-marks : goal.returns-clause-marks
returns-clause-marks g c =
    marked_by (g.S.Directory.honest c.args.self.now.folder.system) (g.S.Directory.honest c.put.new.self.folder.system)
    (marks_in c.args.self.now.table) (marks_in c.put.new.self.table) (g.S.Directory.files
    c.args.self.now.folder.system) (g.S.Directory.files c.put.new.self.folder.system) c.args.file
    (λ m. record {
      size = max m.size (c.args.at + (length c.args.octets.now));
      settled = false;
      frozen = false;
      listed
          = true;
    }) false false (refl) c.put.result c.put.ensures.honest c.put.ensures.marks
    (λ h i differs. (
      ap (λ (x : Held). x.reads) ((c.put.ensures.leaves h).others i differs).held,
      ((c.put.ensures.leaves h).others i differs).status.linked,
    ))
    (λ h. on_ok c.put.result (λ held. written_marks (marks_in c.args.self.now.table c.args.file) (g.S.Directory.files
    c.args.self.now.folder.system c.args.file) (g.S.Directory.files c.put.new.self.folder.system c.args.file) c.args.at
    c.args.octets.now
    (subst (λ (k : ℕ). c.args.at ≤ k) (size_of (g.S.Directory.honest c.args.self.now.folder.system) (marks_in
    c.args.self.now.table c.args.file) (g.S.Directory.files c.args.self.now.folder.system c.args.file) h)
    c.requires.place) held) (c.put.ensures.held h).done)

pub returns-clause-held : goal.returns-clause-held
returns-clause-held g c h =
    c.put.ensures.held h

pub returns-clause-time : goal.returns-clause-time
returns-clause-time g c h =
    elapses_by (g.S.Directory.honest c.args.self.now.folder.system) (g.S.Directory.honest c.put.new.self.folder.system)
    (g.S.Directory.moment c.args.self.now.folder.system) (g.S.Directory.moment c.put.new.self.folder.system)
    (g.S.Directory.left_since c.args.self.now.folder.system) (g.S.Directory.left_since c.put.new.self.folder.system)
    (while_writing (held_of (g.S.Directory.files c.args.self.now.folder.system)) c.args.file c.args.at
    c.args.octets.now) c.put.ensures.honest h (c.put.ensures.leaves h).time

pub returns-clause-covered : goal.returns-clause-covered
returns-clause-covered g c h =
    on_ok c.put.result (λ covers. covers_by (g.S.Directory.honest c.args.self.now.folder.system) (g.S.Directory.moment
    c.args.self.now.folder.system) (g.S.Directory.left_since c.put.new.self.folder.system)
    (while_writing (held_of (g.S.Directory.files c.args.self.now.folder.system)) c.args.file c.args.at
    c.args.octets.now) h covers) (c.put.ensures.covered h)

pub returns-clause-cause : goal.returns-clause-cause
returns-clause-cause g c =
    c.put.ensures.cause
