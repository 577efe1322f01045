use Rattle.std.proofs.Common.{◌≡◌, true, false, IsTrue, [], refl, sym, ◌∙◌}
use Rattle.std.proofs.Common.{ap, subst}
use Rattle.flow_disk.specs.Disk.{Held, Marks, settled_at, given_up}
use Rattle.flow_disk.specs.Files.{while_removing}
use Rattle.flow_folder_disk.specs.declared.reported.Table.{Table}
use Rattle.flow_folder_disk.specs.Table.{marks_in}
use Rattle.flow_folder_disk.proofs.Leaving.{honest_then, given_all}
use Rattle.flow_folder_disk.proofs.Removing.{on_any}
use Rattle.flow_folder_disk.proofs.Reports.{not_ok}
use Rattle.flow_folder_disk.proofs.Reports.{leaves_stay, makes_none, makes_failed}
use Rattle.flow_folder_disk.proofs.Reports.{makes_done, leaves_between, covers_between, marked_not, marked_doubted}
use Rattle.flow_folder_disk.proofs.Reports.{marked_done}
use Rattle.std.proofs.lemmas.Bool.{false≢true}
use Rattle.flow_folder_disk.proofs.Writing.{leaves_no_removal}
use Rattle.flow_folder_disk.proofs.disk.FolderDisk.take_away.Goals as goal

pub returns-in_err-doubt-clause-marks : goal.returns-in_err-doubt-clause-marks
returns-in_err-doubt-clause-marks g c =
    marked_not (marks_in c.args.self.now.table) (marks_in c.doubt.new.self.table) c.args.file
    (record { size = 0; settled = true; frozen = false; listed = false }) ((marks_in c.args.self.now.table
    c.args.file).frozen) c.from_residual.result c.from_residual.ensures.0 refl c.in_err-doubt.ensures.failed

pub returns-in_err-doubt-clause-held : goal.returns-in_err-doubt-clause-held
returns-in_err-doubt-clause-held g c h =
    makes_none g.S.Directory.files g.S.Directory.moment g.S.Directory.left_since c.args.self.now.folder.system
    c.doubt.new.self.folder.system c.doubt.ensures.system c.args.file ((λ (x : Held). settled_at [])
    (g.S.Directory.files c.args.self.now.folder.system c.args.file).held)
    ((λ (x : Held). given_up x x.reads) (g.S.Directory.files c.args.self.now.folder.system c.args.file).held)
    c.from_residual.result c.from_residual.ensures.0 (λ image is. given_all (g.S.Directory.files
    c.args.self.now.folder.system c.args.file).held (g.S.Directory.files c.args.self.now.folder.system
    c.args.file).held.reads image)

pub returns-in_err-doubt-clause-leaves : goal.returns-in_err-doubt-clause-leaves
returns-in_err-doubt-clause-leaves g c h =
    leaves_no_removal g.S.Directory.files g.S.Directory.moment g.S.Directory.left_since c.args.self.now.folder.system
    c.doubt.new.self.folder.system c.args.file
    (leaves_stay g.S.Directory.files g.S.Directory.moment g.S.Directory.left_since c.args.self.now.folder.system
    c.doubt.new.self.folder.system c.doubt.ensures.system c.args.file)

pub returns-in_err-doubt-clause-covered : goal.returns-in_err-doubt-clause-covered
returns-in_err-doubt-clause-covered g c h =
    not_ok _ c.from_residual.result c.from_residual.ensures.0

pub returns-in_err-doubt-clause-unlinked : goal.returns-in_err-doubt-clause-unlinked
returns-in_err-doubt-clause-unlinked g c h =
    not_ok _ c.from_residual.result c.from_residual.ensures.0

pub remove_doubted-requires-clause-doubted : goal.remove_doubted-requires-clause-doubted
remove_doubted-requires-clause-doubted g c =
    ap (λ (m : Marks). m.settled) c.in_ok-doubt.ensures.done.here

pub remove_doubted-requires-clause-free : goal.remove_doubted-requires-clause-free
remove_doubted-requires-clause-free g c =
    subst (λ (x : g.row.S.Denot). IsTrue (g.S.Directory.honest x) → (g.S.Directory.files x c.args.file).lent ≡ false)
    (sym c.doubt.ensures.system) c.requires

pub report-requires-clause-unchanged : goal.report-requires-clause-unchanged
report-requires-clause-unchanged g c is =
    c.in_ok-remove_doubted.ensures.here

pub report-requires-clause-settled : goal.report-requires-clause-settled
report-requires-clause-settled g c h is =
    let k : IsTrue (g.S.Directory.honest c.doubt.new.self.folder.system) = honest_then (g.S.Directory.honest
    c.args.self.now.folder.system) (g.S.Directory.honest c.doubt.new.self.folder.system) (ap (λ (x : g.row.S.Denot).
    g.S.Directory.honest x) c.doubt.ensures.system) (sym (c.remove_doubted.ensures.honest ∙ ap (λ (x : g.row.S.Denot).
    g.S.Directory.honest x) c.doubt.ensures.system) ∙ h) in
    c.in_ok-remove_doubted.ensures.settled k

pub report-requires-clause-frozen : goal.report-requires-clause-frozen
report-requires-clause-frozen g c h lent =
    let k : IsTrue (g.S.Directory.honest c.doubt.new.self.folder.system) = honest_then (g.S.Directory.honest
    c.args.self.now.folder.system) (g.S.Directory.honest c.doubt.new.self.folder.system) (ap (λ (x : g.row.S.Denot).
    g.S.Directory.honest x) c.doubt.ensures.system) (sym (c.remove_doubted.ensures.honest ∙ ap (λ (x : g.row.S.Denot).
    g.S.Directory.honest x) c.doubt.ensures.system) ∙ h) in
    absurd (false≢true (sym (c.remove_doubted.ensures.free k) ∙ lent))

pub returns-in_err-remove_doubted-clause-honest : goal.returns-in_err-remove_doubted-clause-honest
returns-in_err-remove_doubted-clause-honest g c =
    c.remove_doubted.ensures.honest ∙ ap (λ (x : g.row.S.Denot). g.S.Directory.honest x) c.doubt.ensures.system

pub returns-in_err-remove_doubted-clause-marks : goal.returns-in_err-remove_doubted-clause-marks
returns-in_err-remove_doubted-clause-marks g c =
    marked_doubted (marks_in c.args.self.now.table) (marks_in c.doubt.new.self.table) (marks_in
    c.remove_doubted.new.self.table) c.args.file
    (record { size = 0; settled = true; frozen = false; listed = false }) ((marks_in c.args.self.now.table
    c.args.file).frozen) c.from_residual-in_err-remove_doubted.result c.from_residual-in_err-remove_doubted.ensures.0
    refl c.in_ok-doubt.ensures.done
    (λ n. ap (λ (t : Table). marks_in t n) c.remove_doubted.ensures.table)

pub returns-in_err-remove_doubted-clause-held : goal.returns-in_err-remove_doubted-clause-held
returns-in_err-remove_doubted-clause-held g c h =
    let k : IsTrue (g.S.Directory.honest c.doubt.new.self.folder.system) = honest_then (g.S.Directory.honest
    c.args.self.now.folder.system) (g.S.Directory.honest c.doubt.new.self.folder.system) (ap (λ (x : g.row.S.Denot).
    g.S.Directory.honest x) c.doubt.ensures.system) h in
    makes_failed g.S.Directory.files g.S.Directory.moment g.S.Directory.left_since c.args.self.now.folder.system
    c.doubt.new.self.folder.system c.remove_doubted.new.self.folder.system c.doubt.ensures.system c.args.file (λ (x :
    Held). settled_at []) (λ (x : Held). given_up x x.reads)
    c.from_residual-in_err-remove_doubted.result c.from_residual-in_err-remove_doubted.ensures.0
    (c.in_err-remove_doubted.ensures.held k)

pub returns-in_err-remove_doubted-clause-leaves : goal.returns-in_err-remove_doubted-clause-leaves
returns-in_err-remove_doubted-clause-leaves g c h =
    let k : IsTrue (g.S.Directory.honest c.doubt.new.self.folder.system) = honest_then (g.S.Directory.honest
    c.args.self.now.folder.system) (g.S.Directory.honest c.doubt.new.self.folder.system) (ap (λ (x : g.row.S.Denot).
    g.S.Directory.honest x) c.doubt.ensures.system) h in
    leaves_between g.S.Directory.files g.S.Directory.moment g.S.Directory.left_since c.args.self.now.folder.system
    c.doubt.new.self.folder.system c.remove_doubted.new.self.folder.system c.remove_doubted.new.self.folder.system
    c.doubt.ensures.system refl c.args.file (λ files. while_removing files c.args.file)
    (c.remove_doubted.ensures.leaves k)

pub returns-in_err-remove_doubted-clause-covered : goal.returns-in_err-remove_doubted-clause-covered
returns-in_err-remove_doubted-clause-covered g c h =
    not_ok _ c.from_residual-in_err-remove_doubted.result c.from_residual-in_err-remove_doubted.ensures.0

pub returns-in_err-remove_doubted-clause-unlinked : goal.returns-in_err-remove_doubted-clause-unlinked
returns-in_err-remove_doubted-clause-unlinked g c h =
    not_ok _ c.from_residual-in_err-remove_doubted.result c.from_residual-in_err-remove_doubted.ensures.0

pub returns-clause-honest : goal.returns-clause-honest
returns-clause-honest g c =
    ap (λ (x : g.row.S.Denot). g.S.Directory.honest x) c.report.ensures.system ∙ c.remove_doubted.ensures.honest
    ∙ ap (λ (x : g.row.S.Denot). g.S.Directory.honest x) c.doubt.ensures.system

pub returns-clause-marks : goal.returns-clause-marks
returns-clause-marks g c =
    marked_done (marks_in c.args.self.now.table) (marks_in c.doubt.new.self.table) (marks_in
    c.remove_doubted.new.self.table) (marks_in c.report.new.self.table) c.args.file
    (record { size = 0; settled = true; frozen = false; listed = false }) (record {
      size = 0;
      settled = true;
      frozen =
          false;
      listed = false;
    }) ((marks_in c.args.self.now.table c.args.file).frozen) c.report.result refl
    c.in_ok-doubt.ensures.done
    (λ n. ap (λ (t : Table). marks_in t n) c.remove_doubted.ensures.table) refl c.report.ensures.done
    c.report.ensures.failed

pub returns-clause-held : goal.returns-clause-held
returns-clause-held g c h =
    let k : IsTrue (g.S.Directory.honest c.doubt.new.self.folder.system) = honest_then (g.S.Directory.honest
    c.args.self.now.folder.system) (g.S.Directory.honest c.doubt.new.self.folder.system) (ap (λ (x : g.row.S.Denot).
    g.S.Directory.honest x) c.doubt.ensures.system) h in
    makes_done g.S.Directory.files g.S.Directory.moment g.S.Directory.left_since c.args.self.now.folder.system
    c.doubt.new.self.folder.system c.remove_doubted.new.self.folder.system c.report.new.self.folder.system
    c.doubt.ensures.system c.report.ensures.system c.args.file
    (λ (x : Held). settled_at []) (λ (x : Held). given_up x x.reads) c.report.result (λ image is. given_all
    (g.S.Directory.files c.args.self.now.folder.system c.args.file).held (g.S.Directory.files
    c.args.self.now.folder.system c.args.file).held.reads image) (c.in_ok-remove_doubted.ensures.held k)

pub returns-clause-leaves : goal.returns-clause-leaves
returns-clause-leaves g c h =
    let k : IsTrue (g.S.Directory.honest c.doubt.new.self.folder.system) = honest_then (g.S.Directory.honest
    c.args.self.now.folder.system) (g.S.Directory.honest c.doubt.new.self.folder.system) (ap (λ (x : g.row.S.Denot).
    g.S.Directory.honest x) c.doubt.ensures.system) h in
    leaves_between g.S.Directory.files g.S.Directory.moment g.S.Directory.left_since c.args.self.now.folder.system
    c.doubt.new.self.folder.system c.remove_doubted.new.self.folder.system c.report.new.self.folder.system
    c.doubt.ensures.system c.report.ensures.system c.args.file
    (λ files. while_removing files c.args.file) (c.remove_doubted.ensures.leaves k)

pub returns-clause-covered : goal.returns-clause-covered
returns-clause-covered g c h =
    let k : IsTrue (g.S.Directory.honest c.doubt.new.self.folder.system) = honest_then (g.S.Directory.honest
    c.args.self.now.folder.system) (g.S.Directory.honest c.doubt.new.self.folder.system) (ap (λ (x : g.row.S.Denot).
    g.S.Directory.honest x) c.doubt.ensures.system) h in
    on_any c.report.result (covers_between g.S.Directory.files g.S.Directory.moment g.S.Directory.left_since
    c.args.self.now.folder.system c.doubt.new.self.folder.system c.remove_doubted.new.self.folder.system
    c.report.new.self.folder.system c.doubt.ensures.system
    c.report.ensures.system (λ files. while_removing files c.args.file) (c.in_ok-remove_doubted.ensures.covered k))

pub returns-clause-unlinked : goal.returns-clause-unlinked
returns-clause-unlinked g c h =
    let k : IsTrue (g.S.Directory.honest c.doubt.new.self.folder.system) = honest_then (g.S.Directory.honest
    c.args.self.now.folder.system) (g.S.Directory.honest c.doubt.new.self.folder.system) (ap (λ (x : g.row.S.Denot).
    g.S.Directory.honest x) c.doubt.ensures.system) h in
    on_any c.report.result (ap (λ (x : g.row.S.Denot). (g.S.Directory.files x c.args.file).linked)
    c.report.ensures.system ∙ c.in_ok-remove_doubted.ensures.unlinked k)
