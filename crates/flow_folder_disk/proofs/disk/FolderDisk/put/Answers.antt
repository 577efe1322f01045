use Rattle.std.proofs.Common.{◌≡◌, ℕ, ◌+◌, ◌≤◌, max, true, false, IsTrue, length, refl, sym, ◌∙◌}
use Rattle.std.proofs.Common.{ap, subst, rules}
use Rattle.flow_disk.specs.Disk.{Held, Marks, touched_at, put_at}
use Rattle.flow_disk.specs.Files.{while_writing}
use Rattle.flow_folder_disk.specs.declared.reported.Table.{Table}
use Rattle.flow_folder_disk.specs.Known.{IsSettled}
use Rattle.flow_folder_disk.specs.Table.{marks_in}
use Rattle.flow_folder_disk.proofs.Leaving.{honest_then, touched_more}
use Rattle.flow_folder_disk.proofs.Removing.{on_any}
use Rattle.flow_folder_disk.proofs.Reports.{not_ok, touched_within, sized_max}
use Rattle.flow_folder_disk.proofs.Reports.{leaves_stay, makes_none, makes_failed}
use Rattle.flow_folder_disk.proofs.Reports.{makes_done, leaves_between, covers_between, marked_not, marked_doubted}
use Rattle.flow_folder_disk.proofs.Reports.{marked_done}
use Rattle.std.proofs.Common.{Err}
use Rattle.flow_folder_disk.proofs.Kept.{thawed_free}
use Rattle.flow_folder_disk.proofs.Writing.{leaves_no_write}
use Rattle.flow_folder_disk.proofs.disk.FolderDisk.put.Goals as goal

pub returns-in_err-reported-clause-marks : goal.returns-in_err-reported-clause-marks
returns-in_err-reported-clause-marks g c =
    marked_not (marks_in c.args.self.now.table) (marks_in c.doubt.new.self.table) c.args.file
    (record {
      size = max (marks_in c.args.self.now.table c.args.file).size (c.args.at + length c.args.octets.now);
      settled = false;
      frozen = false;
      listed = true;
    }) (false) c.from_residual.result c.from_residual.ensures.0
    c.requires.thawed c.in_err-reported.ensures.failed

pub returns-in_err-reported-clause-held : goal.returns-in_err-reported-clause-held
returns-in_err-reported-clause-held g c h =
    makes_none g.S.Directory.files g.S.Directory.moment g.S.Directory.left_since c.args.self.now.folder.system
    c.doubt.new.self.folder.system c.doubt.ensures.system c.args.file ((λ (x : Held). touched_at x c.args.at (length
    c.args.octets.now) (put_at x.reads c.args.at c.args.octets.now)) (g.S.Directory.files c.args.self.now.folder.system
    c.args.file).held)
    ((λ (x : Held). touched_at x c.args.at (length c.args.octets.now) x.reads) (g.S.Directory.files
    c.args.self.now.folder.system c.args.file).held) c.from_residual.result c.from_residual.ensures.0 (λ image is.
    touched_more (g.S.Directory.files c.args.self.now.folder.system c.args.file).held c.args.at (length
    c.args.octets.now) (g.S.Directory.files c.args.self.now.folder.system c.args.file).held.reads image is)

pub returns-in_err-reported-clause-leaves : goal.returns-in_err-reported-clause-leaves
returns-in_err-reported-clause-leaves g c h =
    leaves_no_write g.S.Directory.files g.S.Directory.moment g.S.Directory.left_since c.args.self.now.folder.system
    c.doubt.new.self.folder.system c.args.file
    (leaves_stay g.S.Directory.files g.S.Directory.moment g.S.Directory.left_since c.args.self.now.folder.system
    c.doubt.new.self.folder.system c.doubt.ensures.system c.args.file) c.args.at c.args.octets.now

pub returns-in_err-reported-clause-covered : goal.returns-in_err-reported-clause-covered
returns-in_err-reported-clause-covered g c h =
    not_ok _ c.from_residual.result c.from_residual.ensures.0

pub returns-then-count-at-clause-marks : goal.returns-then-count-at-clause-marks
returns-then-count-at-clause-marks g c =
    marked_not (marks_in c.args.self.now.table) (marks_in c.fault.new.self.table) c.args.file (record {
      size = max
          (marks_in c.args.self.now.table c.args.file).size (c.args.at + length c.args.octets.now);
      settled = false;
      frozen =
          false;
      listed = true;
    }) false (Err c.fault.result) refl c.requires.thawed
    (λ n. ap (λ (t : Table). marks_in t n) c.fault.ensures.table)

pub returns-then-count-at-clause-held : goal.returns-then-count-at-clause-held
returns-then-count-at-clause-held g c h =
    makes_none g.S.Directory.files g.S.Directory.moment g.S.Directory.left_since c.args.self.now.folder.system
    c.fault.new.self.folder.system c.fault.ensures.system c.args.file
    (touched_at (g.S.Directory.files c.args.self.now.folder.system c.args.file).held c.args.at (length
    c.args.octets.now) (put_at (g.S.Directory.files c.args.self.now.folder.system c.args.file).held.reads c.args.at
    c.args.octets.now))
    (touched_at (g.S.Directory.files c.args.self.now.folder.system c.args.file).held c.args.at (length
    c.args.octets.now) (g.S.Directory.files c.args.self.now.folder.system c.args.file).held.reads) (Err c.fault.result)
    refl
    (λ image is. touched_more (g.S.Directory.files c.args.self.now.folder.system c.args.file).held c.args.at (length
    c.args.octets.now) (g.S.Directory.files c.args.self.now.folder.system c.args.file).held.reads image is)

pub returns-then-count-at-clause-leaves : goal.returns-then-count-at-clause-leaves
returns-then-count-at-clause-leaves g c h =
    leaves_no_write g.S.Directory.files g.S.Directory.moment g.S.Directory.left_since c.args.self.now.folder.system
    c.fault.new.self.folder.system c.args.file
    (leaves_stay g.S.Directory.files g.S.Directory.moment g.S.Directory.left_since c.args.self.now.folder.system
    c.fault.new.self.folder.system c.fault.ensures.system c.args.file) c.args.at c.args.octets.now

pub doubt-requires : goal.doubt-requires
doubt-requires g c h =
    (thawed_free (marks_in c.args.self.now.table) (g.S.Directory.files c.args.self.now.folder.system) c.args.file
    (c.args.self.now.frozen h) c.requires.thawed)

pub write_doubted-requires-clause-within : goal.write_doubted-requires-clause-within
write_doubted-requires-clause-within g c =
    subst (λ (x : g.row.S.Denot). IsTrue (g.S.Directory.honest x) → c.args.at ≤ length (g.S.Directory.files x
    c.args.file).held.reads) (sym c.doubt.ensures.system) c.requires.within

pub write_doubted-requires-clause-settled : goal.write_doubted-requires-clause-settled
write_doubted-requires-clause-settled g c =
    subst (λ (x : g.row.S.Denot). IsTrue (g.S.Directory.honest x) → c.in_ok-reported.reported.settled ≡ true →
    IsSettled (g.S.Directory.files x c.args.file)) (sym c.doubt.ensures.system)
    (λ h is. c.args.self.now.settled h c.args.file (ap (λ (m : Marks). m.settled) (sym
    c.in_ok-reported.ensures.reported) ∙ is))

pub write_doubted-requires-clause-doubted : goal.write_doubted-requires-clause-doubted
write_doubted-requires-clause-doubted g c =
    ap (λ (m : Marks). m.settled) c.in_ok-reported.ensures.done.here

pub write_doubted-requires-clause-free : goal.write_doubted-requires-clause-free
write_doubted-requires-clause-free g c =
    subst (λ (x : g.row.S.Denot). IsTrue (g.S.Directory.honest x) → (g.S.Directory.files x c.args.file).lent ≡ false)
    (sym c.doubt.ensures.system) (λ h. (thawed_free (marks_in c.args.self.now.table) (g.S.Directory.files
    c.args.self.now.folder.system) c.args.file (c.args.self.now.frozen h) c.requires.thawed))

pub returns-in_err-write_doubted-clause-honest : goal.returns-in_err-write_doubted-clause-honest
returns-in_err-write_doubted-clause-honest g c =
    c.write_doubted.ensures.honest ∙ ap (λ (x : g.row.S.Denot). g.S.Directory.honest x) c.doubt.ensures.system

pub returns-in_err-write_doubted-clause-marks : goal.returns-in_err-write_doubted-clause-marks
returns-in_err-write_doubted-clause-marks g c =
    marked_doubted (marks_in c.args.self.now.table) (marks_in c.doubt.new.self.table) (marks_in
    c.write_doubted.new.self.table) c.args.file
    (record {
      size = max (marks_in c.args.self.now.table c.args.file).size (c.args.at + length c.args.octets.now);
      settled = false;
      frozen = false;
      listed = true;
    }) (false) c.from_residual-in_err-write_doubted.result
    c.from_residual-in_err-write_doubted.ensures.0 c.requires.thawed c.in_ok-reported.ensures.done
    (λ n. ap (λ (t : Table). marks_in t n) c.write_doubted.ensures.table)

pub returns-in_err-write_doubted-clause-held : goal.returns-in_err-write_doubted-clause-held
returns-in_err-write_doubted-clause-held g c h =
    let k : IsTrue (g.S.Directory.honest c.doubt.new.self.folder.system) = honest_then (g.S.Directory.honest
    c.args.self.now.folder.system) (g.S.Directory.honest c.doubt.new.self.folder.system) (ap (λ (x : g.row.S.Denot).
    g.S.Directory.honest x) c.doubt.ensures.system) h in
    makes_failed g.S.Directory.files g.S.Directory.moment g.S.Directory.left_since c.args.self.now.folder.system
    c.doubt.new.self.folder.system c.write_doubted.new.self.folder.system c.doubt.ensures.system c.args.file (λ (x :
    Held). touched_at x c.args.at (length c.args.octets.now) (put_at x.reads c.args.at c.args.octets.now)) (λ (x :
    Held). touched_at x c.args.at (length c.args.octets.now) x.reads)
    c.from_residual-in_err-write_doubted.result c.from_residual-in_err-write_doubted.ensures.0
    (c.in_err-write_doubted.ensures.held k)

pub returns-in_err-write_doubted-clause-leaves : goal.returns-in_err-write_doubted-clause-leaves
returns-in_err-write_doubted-clause-leaves g c h =
    let k : IsTrue (g.S.Directory.honest c.doubt.new.self.folder.system) = honest_then (g.S.Directory.honest
    c.args.self.now.folder.system) (g.S.Directory.honest c.doubt.new.self.folder.system) (ap (λ (x : g.row.S.Denot).
    g.S.Directory.honest x) c.doubt.ensures.system) h in
    leaves_between g.S.Directory.files g.S.Directory.moment g.S.Directory.left_since c.args.self.now.folder.system
    c.doubt.new.self.folder.system c.write_doubted.new.self.folder.system c.write_doubted.new.self.folder.system
    c.doubt.ensures.system refl c.args.file (λ files. while_writing files c.args.file c.args.at c.args.octets.now)
    (c.write_doubted.ensures.leaves k)

pub returns-in_err-write_doubted-clause-covered : goal.returns-in_err-write_doubted-clause-covered
returns-in_err-write_doubted-clause-covered g c h =
    not_ok _ c.from_residual-in_err-write_doubted.result c.from_residual-in_err-write_doubted.ensures.0

pub returns-clause-honest : goal.returns-clause-honest
returns-clause-honest g c =
    ap (λ (x : g.row.S.Denot). g.S.Directory.honest x) c.report.ensures.system ∙ c.write_doubted.ensures.honest
    ∙ ap (λ (x : g.row.S.Denot). g.S.Directory.honest x) c.doubt.ensures.system

pub returns-clause-marks : goal.returns-clause-marks
returns-clause-marks g c =
    marked_done (marks_in c.args.self.now.table) (marks_in c.doubt.new.self.table) (marks_in
    c.write_doubted.new.self.table) (marks_in c.report.new.self.table) c.args.file
    (record {
      size = max (marks_in c.args.self.now.table c.args.file).size (c.args.at + length c.args.octets.now);
      settled = false;
      frozen = false;
      listed = true;
    }) (record {
      size = c.max.result;
      settled = false;
      frozen = false;
      listed = true;
    }) (false) c.report.result c.requires.thawed c.in_ok-reported.ensures.done
    (λ n. ap (λ (t : Table). marks_in t n) c.write_doubted.ensures.table) (ap (λ (k : ℕ). record {
      size = k;
      settled =
          false;
      frozen = false;
      listed = true;
    })
    (sized_max c.in_ok-reported.reported.size (marks_in c.args.self.now.table c.args.file).size (c.args.at + length
    c.args.octets.now) c.max.result (search rules) (ap (λ (m : Marks). m.size) c.in_ok-reported.ensures.reported)))
    c.report.ensures.done c.report.ensures.failed

pub returns-clause-held : goal.returns-clause-held
returns-clause-held g c h =
    let k : IsTrue (g.S.Directory.honest c.doubt.new.self.folder.system) = honest_then (g.S.Directory.honest
    c.args.self.now.folder.system) (g.S.Directory.honest c.doubt.new.self.folder.system) (ap (λ (x : g.row.S.Denot).
    g.S.Directory.honest x) c.doubt.ensures.system) h in
    makes_done g.S.Directory.files g.S.Directory.moment g.S.Directory.left_since c.args.self.now.folder.system
    c.doubt.new.self.folder.system c.write_doubted.new.self.folder.system c.report.new.self.folder.system
    c.doubt.ensures.system c.report.ensures.system c.args.file
    (λ (x : Held). touched_at x c.args.at (length c.args.octets.now) (put_at x.reads c.args.at c.args.octets.now))
    (λ (x : Held). touched_at x c.args.at (length c.args.octets.now) x.reads) c.report.result (touched_within
    (g.S.Directory.files c.args.self.now.folder.system c.args.file).held c.args.at (length c.args.octets.now) (put_at
    (g.S.Directory.files c.args.self.now.folder.system c.args.file).held.reads c.args.at c.args.octets.now)
    (g.S.Directory.files c.args.self.now.folder.system c.args.file).held.reads) (c.in_ok-write_doubted.ensures.held k)

pub returns-clause-leaves : goal.returns-clause-leaves
returns-clause-leaves g c h =
    let k : IsTrue (g.S.Directory.honest c.doubt.new.self.folder.system) = honest_then (g.S.Directory.honest
    c.args.self.now.folder.system) (g.S.Directory.honest c.doubt.new.self.folder.system) (ap (λ (x : g.row.S.Denot).
    g.S.Directory.honest x) c.doubt.ensures.system) h in
    leaves_between g.S.Directory.files g.S.Directory.moment g.S.Directory.left_since c.args.self.now.folder.system
    c.doubt.new.self.folder.system c.write_doubted.new.self.folder.system c.report.new.self.folder.system
    c.doubt.ensures.system c.report.ensures.system c.args.file
    (λ files. while_writing files c.args.file c.args.at c.args.octets.now) (c.write_doubted.ensures.leaves k)

pub returns-clause-covered : goal.returns-clause-covered
returns-clause-covered g c h =
    let k : IsTrue (g.S.Directory.honest c.doubt.new.self.folder.system) = honest_then (g.S.Directory.honest
    c.args.self.now.folder.system) (g.S.Directory.honest c.doubt.new.self.folder.system) (ap (λ (x : g.row.S.Denot).
    g.S.Directory.honest x) c.doubt.ensures.system) h in
    on_any c.report.result (covers_between g.S.Directory.files g.S.Directory.moment g.S.Directory.left_since
    c.args.self.now.folder.system c.doubt.new.self.folder.system c.write_doubted.new.self.folder.system
    c.report.new.self.folder.system c.doubt.ensures.system
    c.report.ensures.system (λ files. while_writing files c.args.file c.args.at c.args.octets.now)
    (c.in_ok-write_doubted.ensures.covered k))
