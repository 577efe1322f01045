use Rattle.std.proofs.Common.{◌≡◌, true, false, IsTrue, refl, sym, ◌∙◌}
use Rattle.std.proofs.Common.{ap, subst}
use Rattle.flow_disk.specs.Disk.{Held, Marks, settled_at}
use Rattle.flow_folder_disk.specs.declared.reported.Table.{Table}
use Rattle.flow_folder_disk.specs.Known.{IsSettled}
use Rattle.flow_folder_disk.specs.Table.{marks_in}
use Rattle.flow_folder_disk.proofs.Leaving.{honest_then}
use Rattle.flow_folder_disk.proofs.Reports.{settled_within}
use Rattle.flow_folder_disk.proofs.Reports.{leaves_stay, makes_none, makes_failed}
use Rattle.flow_folder_disk.proofs.Reports.{makes_done, leaves_between, marked_not, marked_doubted}
use Rattle.flow_folder_disk.proofs.Reports.{marked_done}
use Rattle.std.proofs.lemmas.Bool.{false≢true}
use Rattle.flow_folder_disk.proofs.disk.FolderDisk.settle_changed.Goals as goal

pub returns-in_err-reported-clause-marks : goal.returns-in_err-reported-clause-marks
returns-in_err-reported-clause-marks g c =
    marked_not (marks_in c.args.self.now.table) (marks_in c.doubt.new.self.table) c.args.file
    (record {
      size = (marks_in c.args.self.now.table c.args.file).size;
      settled = true;
      frozen = (marks_in
          c.args.self.now.table c.args.file).frozen;
      listed = true;
    }) ((marks_in c.args.self.now.table c.args.file).frozen)
    c.from_residual.result c.from_residual.ensures.0 refl c.in_err-reported.ensures.failed

pub returns-in_err-reported-clause-held : goal.returns-in_err-reported-clause-held
returns-in_err-reported-clause-held g c h =
    makes_none g.S.Directory.files g.S.Directory.moment g.S.Directory.left_since c.args.self.now.folder.system
    c.doubt.new.self.folder.system c.doubt.ensures.system c.args.file ((λ (x : Held). settled_at x.reads)
    (g.S.Directory.files c.args.self.now.folder.system c.args.file).held)
    ((λ (x : Held). x) (g.S.Directory.files c.args.self.now.folder.system c.args.file).held) c.from_residual.result
    c.from_residual.ensures.0 (λ image is. is)

pub returns-in_err-reported-clause-leaves : goal.returns-in_err-reported-clause-leaves
returns-in_err-reported-clause-leaves g c h =
    leaves_stay g.S.Directory.files g.S.Directory.moment g.S.Directory.left_since c.args.self.now.folder.system
    c.doubt.new.self.folder.system c.doubt.ensures.system c.args.file

pub sync_doubted-requires-clause-settled : goal.sync_doubted-requires-clause-settled
sync_doubted-requires-clause-settled g c =
    subst (λ (x : g.row.S.Denot). IsTrue (g.S.Directory.honest x) → c.in_ok-reported.reported.settled ≡ true →
    IsSettled (g.S.Directory.files x c.args.file)) (sym c.doubt.ensures.system)
    (λ h is. c.args.self.now.settled h c.args.file (ap (λ (m : Marks). m.settled) (sym
    c.in_ok-reported.ensures.reported) ∙ is))

pub sync_doubted-requires-clause-doubted : goal.sync_doubted-requires-clause-doubted
sync_doubted-requires-clause-doubted g c =
    ap (λ (m : Marks). m.settled) c.in_ok-reported.ensures.done.here

pub sync_doubted-requires-clause-free : goal.sync_doubted-requires-clause-free
sync_doubted-requires-clause-free g c =
    subst (λ (x : g.row.S.Denot). IsTrue (g.S.Directory.honest x) → (g.S.Directory.files x c.args.file).lent ≡ false)
    (sym c.doubt.ensures.system) (λ h. c.requires h)

pub report-requires-clause-unchanged : goal.report-requires-clause-unchanged
report-requires-clause-unchanged g c is =
    c.in_ok-sync_doubted.ensures.here

pub report-requires-clause-settled : goal.report-requires-clause-settled
report-requires-clause-settled g c h is =
    let k : IsTrue (g.S.Directory.honest c.doubt.new.self.folder.system) = honest_then (g.S.Directory.honest
    c.args.self.now.folder.system) (g.S.Directory.honest c.doubt.new.self.folder.system) (ap (λ (x : g.row.S.Denot).
    g.S.Directory.honest x) c.doubt.ensures.system) (sym (c.sync_doubted.ensures.honest ∙ ap (λ (x : g.row.S.Denot).
    g.S.Directory.honest x) c.doubt.ensures.system) ∙ h) in
    c.in_ok-sync_doubted.ensures.settled k

pub report-requires-clause-frozen : goal.report-requires-clause-frozen
report-requires-clause-frozen g c h lent =
    let k : IsTrue (g.S.Directory.honest c.doubt.new.self.folder.system) = honest_then (g.S.Directory.honest
    c.args.self.now.folder.system) (g.S.Directory.honest c.doubt.new.self.folder.system) (ap (λ (x : g.row.S.Denot).
    g.S.Directory.honest x) c.doubt.ensures.system) (sym (c.sync_doubted.ensures.honest ∙ ap (λ (x : g.row.S.Denot).
    g.S.Directory.honest x) c.doubt.ensures.system) ∙ h) in
    absurd (false≢true (sym (c.sync_doubted.ensures.free k) ∙ lent))

pub returns-in_err-sync_doubted-clause-honest : goal.returns-in_err-sync_doubted-clause-honest
returns-in_err-sync_doubted-clause-honest g c =
    c.sync_doubted.ensures.honest ∙ ap (λ (x : g.row.S.Denot). g.S.Directory.honest x) c.doubt.ensures.system

pub returns-in_err-sync_doubted-clause-marks : goal.returns-in_err-sync_doubted-clause-marks
returns-in_err-sync_doubted-clause-marks g c =
    marked_doubted (marks_in c.args.self.now.table) (marks_in c.doubt.new.self.table) (marks_in
    c.sync_doubted.new.self.table) c.args.file
    (record {
      size = (marks_in c.args.self.now.table c.args.file).size;
      settled = true;
      frozen = (marks_in
          c.args.self.now.table c.args.file).frozen;
      listed = true;
    }) ((marks_in c.args.self.now.table c.args.file).frozen)
    c.from_residual-in_err-sync_doubted.result c.from_residual-in_err-sync_doubted.ensures.0 refl
    c.in_ok-reported.ensures.done
    (λ n. ap (λ (t : Table). marks_in t n) c.sync_doubted.ensures.table)

pub returns-in_err-sync_doubted-clause-held : goal.returns-in_err-sync_doubted-clause-held
returns-in_err-sync_doubted-clause-held g c h =
    let k : IsTrue (g.S.Directory.honest c.doubt.new.self.folder.system) = honest_then (g.S.Directory.honest
    c.args.self.now.folder.system) (g.S.Directory.honest c.doubt.new.self.folder.system) (ap (λ (x : g.row.S.Denot).
    g.S.Directory.honest x) c.doubt.ensures.system) h in
    makes_failed g.S.Directory.files g.S.Directory.moment g.S.Directory.left_since c.args.self.now.folder.system
    c.doubt.new.self.folder.system c.sync_doubted.new.self.folder.system c.doubt.ensures.system c.args.file (λ (x :
    Held). settled_at x.reads) (λ (x : Held). x)
    c.from_residual-in_err-sync_doubted.result c.from_residual-in_err-sync_doubted.ensures.0
    (c.in_err-sync_doubted.ensures.held k)

pub returns-in_err-sync_doubted-clause-leaves : goal.returns-in_err-sync_doubted-clause-leaves
returns-in_err-sync_doubted-clause-leaves g c h =
    let k : IsTrue (g.S.Directory.honest c.doubt.new.self.folder.system) = honest_then (g.S.Directory.honest
    c.args.self.now.folder.system) (g.S.Directory.honest c.doubt.new.self.folder.system) (ap (λ (x : g.row.S.Denot).
    g.S.Directory.honest x) c.doubt.ensures.system) h in
    leaves_between g.S.Directory.files g.S.Directory.moment g.S.Directory.left_since c.args.self.now.folder.system
    c.doubt.new.self.folder.system c.sync_doubted.new.self.folder.system c.sync_doubted.new.self.folder.system
    c.doubt.ensures.system refl c.args.file (λ files. files)
    (c.sync_doubted.ensures.leaves k)

pub returns-clause-honest : goal.returns-clause-honest
returns-clause-honest g c =
    ap (λ (x : g.row.S.Denot). g.S.Directory.honest x) c.report.ensures.system ∙ c.sync_doubted.ensures.honest
    ∙ ap (λ (x : g.row.S.Denot). g.S.Directory.honest x) c.doubt.ensures.system

pub returns-clause-marks : goal.returns-clause-marks
returns-clause-marks g c =
    marked_done (marks_in c.args.self.now.table) (marks_in c.doubt.new.self.table) (marks_in
    c.sync_doubted.new.self.table) (marks_in c.report.new.self.table) c.args.file
    (record {
      size = (marks_in c.args.self.now.table c.args.file).size;
      settled = true;
      frozen = (marks_in
          c.args.self.now.table c.args.file).frozen;
      listed = true;
    }) (record {
      size = c.in_ok-reported.reported.size;
      settled = true;
      frozen = c.in_ok-reported.reported.frozen;
      listed = true;
    }) ((marks_in c.args.self.now.table
    c.args.file).frozen) c.report.result refl c.in_ok-reported.ensures.done
    (λ n. ap (λ (t : Table). marks_in t n) c.sync_doubted.ensures.table) (ap (λ (m : Marks). record {
      size = m.size;
      settled = true;
      frozen = m.frozen;
      listed = true;
    }) c.in_ok-reported.ensures.reported) c.report.ensures.done
    c.report.ensures.failed

pub returns-clause-held : goal.returns-clause-held
returns-clause-held g c h =
    let k : IsTrue (g.S.Directory.honest c.doubt.new.self.folder.system) = honest_then (g.S.Directory.honest
    c.args.self.now.folder.system) (g.S.Directory.honest c.doubt.new.self.folder.system) (ap (λ (x : g.row.S.Denot).
    g.S.Directory.honest x) c.doubt.ensures.system) h in
    makes_done g.S.Directory.files g.S.Directory.moment g.S.Directory.left_since c.args.self.now.folder.system
    c.doubt.new.self.folder.system c.sync_doubted.new.self.folder.system c.report.new.self.folder.system
    c.doubt.ensures.system c.report.ensures.system c.args.file
    (λ (x : Held). settled_at x.reads) (λ (x : Held). x) c.report.result (settled_within (g.S.Directory.files
    c.args.self.now.folder.system c.args.file).held (g.met.S.Directory.reads_image c.args.self.now.folder.system
    c.args.file h)) (c.in_ok-sync_doubted.ensures.held k)

pub returns-clause-leaves : goal.returns-clause-leaves
returns-clause-leaves g c h =
    let k : IsTrue (g.S.Directory.honest c.doubt.new.self.folder.system) = honest_then (g.S.Directory.honest
    c.args.self.now.folder.system) (g.S.Directory.honest c.doubt.new.self.folder.system) (ap (λ (x : g.row.S.Denot).
    g.S.Directory.honest x) c.doubt.ensures.system) h in
    leaves_between g.S.Directory.files g.S.Directory.moment g.S.Directory.left_since c.args.self.now.folder.system
    c.doubt.new.self.folder.system c.sync_doubted.new.self.folder.system c.report.new.self.folder.system
    c.doubt.ensures.system c.report.ensures.system c.args.file
    (λ files. files) (c.sync_doubted.ensures.leaves k)
