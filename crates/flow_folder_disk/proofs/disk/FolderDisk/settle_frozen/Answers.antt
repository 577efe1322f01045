use Rattle.std.proofs.Common.{Bool, true, IsTrue, refl, sym, ◌∙◌, ap}
use Rattle.flow_disk.specs.Disk.{Held, Marks, settled_at}
use Rattle.flow_folder_disk.specs.declared.reported.Table.{Table}
use Rattle.flow_folder_disk.specs.Table.{marks_in}
use Rattle.flow_folder_disk.proofs.Leaving.{honest_then}
use Rattle.flow_folder_disk.proofs.Reports.{settled_within, makes_failed, makes_done, leaves_between, marked_not}
use Rattle.flow_folder_disk.proofs.Reports.{marked_at_once}
use Rattle.flow_folder_disk.proofs.disk.FolderDisk.settle_frozen.Goals as goal

pub sync_settled-requires : goal.sync_settled-requires
sync_settled-requires g c =
    sym (ap (λ (m : Marks). m.settled) c.requires.reported) ∙ c.requires.settled

pub returns-in_err-sync_settled-clause-marks : goal.returns-in_err-sync_settled-clause-marks
returns-in_err-sync_settled-clause-marks g c =
    marked_not (marks_in c.args.self.now.table) (marks_in c.sync_settled.new.self.table) c.args.file (record {
      size =
          (marks_in c.args.self.now.table c.args.file).size;
      settled = true;
      frozen = (marks_in c.args.self.now.table
          c.args.file).frozen;
      listed = true;
    }) (marks_in c.args.self.now.table c.args.file).frozen
    c.from_residual.result c.from_residual.ensures.0 refl (λ n. ap (λ (t : Table). marks_in t n)
    c.sync_settled.ensures.table)

pub returns-in_err-sync_settled-clause-held : goal.returns-in_err-sync_settled-clause-held
returns-in_err-sync_settled-clause-held g c h =
    makes_failed g.S.Directory.files g.S.Directory.moment g.S.Directory.left_since c.args.self.now.folder.system
    c.args.self.now.folder.system c.sync_settled.new.self.folder.system refl c.args.file (λ (x : Held). settled_at
    x.reads) (λ (x : Held). x)
    c.from_residual.result c.from_residual.ensures.0 (c.in_err-sync_settled.ensures.held h)

pub report-requires-clause-unchanged : goal.report-requires-clause-unchanged
report-requires-clause-unchanged g c is =
    c.sync_settled.ensures.absent

pub report-requires-clause-settled : goal.report-requires-clause-settled
report-requires-clause-settled g c h is =
    let k : IsTrue (g.S.Directory.honest c.args.self.now.folder.system) = honest_then (g.S.Directory.honest
    c.sync_settled.new.self.folder.system) (g.S.Directory.honest c.args.self.now.folder.system) (sym
    c.sync_settled.ensures.honest) h in
    c.sync_settled.ensures.settled k

pub report-requires-clause-frozen : goal.report-requires-clause-frozen
report-requires-clause-frozen g c h lent =
    (refl, refl)

pub returns-clause-honest : goal.returns-clause-honest
returns-clause-honest g c =
    ap (λ (x : g.row.S.Denot). g.S.Directory.honest x) c.report.ensures.system ∙ c.sync_settled.ensures.honest

pub returns-clause-marks : goal.returns-clause-marks
returns-clause-marks g c =
    marked_at_once (marks_in c.args.self.now.table) (marks_in c.sync_settled.new.self.table) (marks_in
    c.report.new.self.table) c.args.file (record {
      size = (marks_in c.args.self.now.table c.args.file).size;
      settled =
          true;
      frozen = (marks_in c.args.self.now.table c.args.file).frozen;
      listed = true;
    })
    (record { size = c.args.reported.size; settled = true; frozen = true; listed = true }) (marks_in
    c.args.self.now.table c.args.file).frozen
    c.report.result refl (λ n. ap (λ (t : Table). marks_in t n) c.sync_settled.ensures.table)
    (ap (λ (b : Bool). record { size = c.args.reported.size; settled = true; frozen = b; listed = true }) (sym
    c.requires.frozen)
    ∙ (ap (λ (m : Marks). record { size = m.size; settled = true; frozen = m.frozen; listed = true })
    c.requires.reported))
    c.report.ensures.done c.report.ensures.failed

pub returns-clause-held : goal.returns-clause-held
returns-clause-held g c h =
    makes_done g.S.Directory.files g.S.Directory.moment g.S.Directory.left_since c.args.self.now.folder.system
    c.args.self.now.folder.system c.sync_settled.new.self.folder.system c.report.new.self.folder.system refl
    c.report.ensures.system c.args.file (λ (x : Held). settled_at x.reads) (λ (x : Held). x)
    c.report.result (settled_within (g.S.Directory.files c.args.self.now.folder.system c.args.file).held
    (g.met.S.Directory.reads_image c.args.self.now.folder.system c.args.file h))
    (c.in_ok-sync_settled.ensures.held h)

pub returns-clause-leaves : goal.returns-clause-leaves
returns-clause-leaves g c h =
    leaves_between g.S.Directory.files g.S.Directory.moment g.S.Directory.left_since c.args.self.now.folder.system
    c.args.self.now.folder.system c.sync_settled.new.self.folder.system c.report.new.self.folder.system refl
    c.report.ensures.system c.args.file (λ files. files)
    (c.sync_settled.ensures.leaves h)
