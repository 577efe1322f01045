use Rattle.std.proofs.Common.{◌≡◌, ◌≤◌, true, false, IsTrue, length, take, refl, sym, ◌∙◌}
use Rattle.std.proofs.Common.{ap, subst}
use Rattle.flow_disk.specs.Disk.{Held, Marks, loosened_at}
use Rattle.flow_disk.specs.Files.{while_cutting}
use Rattle.flow_folder_disk.specs.declared.reported.Table.{Table}
use Rattle.flow_folder_disk.specs.Known.{IsSettled}
use Rattle.flow_folder_disk.specs.Table.{marks_in}
use Rattle.flow_folder_disk.proofs.Leaving.{honest_then, loosened_more}
use Rattle.flow_folder_disk.proofs.Removing.{on_any}
use Rattle.flow_folder_disk.proofs.Reports.{not_ok, loosened_within}
use Rattle.flow_folder_disk.proofs.Reports.{leaves_stay, makes_none, makes_failed}
use Rattle.flow_folder_disk.proofs.Reports.{makes_done, leaves_between, covers_between, marked_not, marked_doubted}
use Rattle.flow_folder_disk.proofs.Reports.{marked_done}
use Rattle.flow_folder_disk.proofs.Kept.{thawed_free}
use Rattle.flow_folder_disk.proofs.Writing.{leaves_no_cut}
use Rattle.flow_folder_disk.proofs.disk.FolderDisk.shorten.Goals as goal

pub returns-in_err-reported-clause-marks : goal.returns-in_err-reported-clause-marks
returns-in_err-reported-clause-marks g c =
    marked_not (marks_in c.args.self.now.table) (marks_in c.doubt.new.self.table) c.args.file
    (record { size = c.args.count; settled = false; frozen = false; listed = true }) (false) c.from_residual.result
    c.from_residual.ensures.0 c.requires.thawed c.in_err-reported.ensures.failed

pub returns-in_err-reported-clause-held : goal.returns-in_err-reported-clause-held
returns-in_err-reported-clause-held g c h =
    makes_none g.S.Directory.files g.S.Directory.moment g.S.Directory.left_since c.args.self.now.folder.system
    c.doubt.new.self.folder.system c.doubt.ensures.system c.args.file ((λ (x : Held). loosened_at x c.args.count (take
    c.args.count x.reads)) (g.S.Directory.files c.args.self.now.folder.system c.args.file).held)
    ((λ (x : Held). loosened_at x c.args.count x.reads) (g.S.Directory.files c.args.self.now.folder.system
    c.args.file).held) c.from_residual.result c.from_residual.ensures.0 (λ image is. loosened_more (g.S.Directory.files
    c.args.self.now.folder.system c.args.file).held c.args.count (g.S.Directory.files c.args.self.now.folder.system
    c.args.file).held.reads image is)

pub returns-in_err-reported-clause-leaves : goal.returns-in_err-reported-clause-leaves
returns-in_err-reported-clause-leaves g c h =
    leaves_no_cut g.S.Directory.files g.S.Directory.moment g.S.Directory.left_since c.args.self.now.folder.system
    c.doubt.new.self.folder.system c.args.file
    (leaves_stay g.S.Directory.files g.S.Directory.moment g.S.Directory.left_since c.args.self.now.folder.system
    c.doubt.new.self.folder.system c.doubt.ensures.system c.args.file) c.args.count

pub returns-in_err-reported-clause-covered : goal.returns-in_err-reported-clause-covered
returns-in_err-reported-clause-covered g c h =
    not_ok _ c.from_residual.result c.from_residual.ensures.0

pub doubt-requires : goal.doubt-requires
doubt-requires g c h =
    (thawed_free (marks_in c.args.self.now.table) (g.S.Directory.files c.args.self.now.folder.system) c.args.file
    (c.args.self.now.frozen h) c.requires.thawed)

pub cut_doubted-requires-clause-within : goal.cut_doubted-requires-clause-within
cut_doubted-requires-clause-within g c =
    subst (λ (x : g.row.S.Denot). IsTrue (g.S.Directory.honest x) → c.args.count ≤ length (g.S.Directory.files x
    c.args.file).held.reads) (sym c.doubt.ensures.system) c.requires.within

pub cut_doubted-requires-clause-settled : goal.cut_doubted-requires-clause-settled
cut_doubted-requires-clause-settled g c =
    subst (λ (x : g.row.S.Denot). IsTrue (g.S.Directory.honest x) → c.in_ok-reported.reported.settled ≡ true →
    IsSettled (g.S.Directory.files x c.args.file)) (sym c.doubt.ensures.system)
    (λ h is. c.args.self.now.settled h c.args.file (ap (λ (m : Marks). m.settled) (sym
    c.in_ok-reported.ensures.reported) ∙ is))

pub cut_doubted-requires-clause-doubted : goal.cut_doubted-requires-clause-doubted
cut_doubted-requires-clause-doubted g c =
    ap (λ (m : Marks). m.settled) c.in_ok-reported.ensures.done.here

pub cut_doubted-requires-clause-free : goal.cut_doubted-requires-clause-free
cut_doubted-requires-clause-free g c =
    subst (λ (x : g.row.S.Denot). IsTrue (g.S.Directory.honest x) → (g.S.Directory.files x c.args.file).lent ≡ false)
    (sym c.doubt.ensures.system) (λ h. (thawed_free (marks_in c.args.self.now.table) (g.S.Directory.files
    c.args.self.now.folder.system) c.args.file (c.args.self.now.frozen h) c.requires.thawed))

pub returns-in_err-cut_doubted-clause-honest : goal.returns-in_err-cut_doubted-clause-honest
returns-in_err-cut_doubted-clause-honest g c =
    c.cut_doubted.ensures.honest ∙ ap (λ (x : g.row.S.Denot). g.S.Directory.honest x) c.doubt.ensures.system

pub returns-in_err-cut_doubted-clause-marks : goal.returns-in_err-cut_doubted-clause-marks
returns-in_err-cut_doubted-clause-marks g c =
    marked_doubted (marks_in c.args.self.now.table) (marks_in c.doubt.new.self.table) (marks_in
    c.cut_doubted.new.self.table) c.args.file
    (record { size = c.args.count; settled = false; frozen = false; listed = true }) (false)
    c.from_residual-in_err-cut_doubted.result c.from_residual-in_err-cut_doubted.ensures.0 c.requires.thawed
    c.in_ok-reported.ensures.done
    (λ n. ap (λ (t : Table). marks_in t n) c.cut_doubted.ensures.table)

pub returns-in_err-cut_doubted-clause-held : goal.returns-in_err-cut_doubted-clause-held
returns-in_err-cut_doubted-clause-held g c h =
    let k : IsTrue (g.S.Directory.honest c.doubt.new.self.folder.system) = honest_then (g.S.Directory.honest
    c.args.self.now.folder.system) (g.S.Directory.honest c.doubt.new.self.folder.system) (ap (λ (x : g.row.S.Denot).
    g.S.Directory.honest x) c.doubt.ensures.system) h in
    makes_failed g.S.Directory.files g.S.Directory.moment g.S.Directory.left_since c.args.self.now.folder.system
    c.doubt.new.self.folder.system c.cut_doubted.new.self.folder.system c.doubt.ensures.system c.args.file (λ (x :
    Held). loosened_at x c.args.count (take c.args.count x.reads)) (λ (x : Held). loosened_at x c.args.count x.reads)
    c.from_residual-in_err-cut_doubted.result c.from_residual-in_err-cut_doubted.ensures.0
    (c.in_err-cut_doubted.ensures.held k)

pub returns-in_err-cut_doubted-clause-leaves : goal.returns-in_err-cut_doubted-clause-leaves
returns-in_err-cut_doubted-clause-leaves g c h =
    let k : IsTrue (g.S.Directory.honest c.doubt.new.self.folder.system) = honest_then (g.S.Directory.honest
    c.args.self.now.folder.system) (g.S.Directory.honest c.doubt.new.self.folder.system) (ap (λ (x : g.row.S.Denot).
    g.S.Directory.honest x) c.doubt.ensures.system) h in
    leaves_between g.S.Directory.files g.S.Directory.moment g.S.Directory.left_since c.args.self.now.folder.system
    c.doubt.new.self.folder.system c.cut_doubted.new.self.folder.system c.cut_doubted.new.self.folder.system
    c.doubt.ensures.system refl c.args.file (λ files. while_cutting files c.args.file c.args.count)
    (c.cut_doubted.ensures.leaves k)

pub returns-in_err-cut_doubted-clause-covered : goal.returns-in_err-cut_doubted-clause-covered
returns-in_err-cut_doubted-clause-covered g c h =
    not_ok _ c.from_residual-in_err-cut_doubted.result c.from_residual-in_err-cut_doubted.ensures.0

pub returns-clause-honest : goal.returns-clause-honest
returns-clause-honest g c =
    ap (λ (x : g.row.S.Denot). g.S.Directory.honest x) c.report.ensures.system ∙ c.cut_doubted.ensures.honest
    ∙ ap (λ (x : g.row.S.Denot). g.S.Directory.honest x) c.doubt.ensures.system

pub returns-clause-marks : goal.returns-clause-marks
returns-clause-marks g c =
    marked_done (marks_in c.args.self.now.table) (marks_in c.doubt.new.self.table) (marks_in
    c.cut_doubted.new.self.table) (marks_in c.report.new.self.table) c.args.file
    (record { size = c.args.count; settled = false; frozen = false; listed = true }) (record {
      size = c.args.count;
      settled = false;
      frozen = false;
      listed = true;
    }) (false) c.report.result c.requires.thawed
    c.in_ok-reported.ensures.done
    (λ n. ap (λ (t : Table). marks_in t n) c.cut_doubted.ensures.table) refl c.report.ensures.done
    c.report.ensures.failed

pub returns-clause-held : goal.returns-clause-held
returns-clause-held g c h =
    let k : IsTrue (g.S.Directory.honest c.doubt.new.self.folder.system) = honest_then (g.S.Directory.honest
    c.args.self.now.folder.system) (g.S.Directory.honest c.doubt.new.self.folder.system) (ap (λ (x : g.row.S.Denot).
    g.S.Directory.honest x) c.doubt.ensures.system) h in
    makes_done g.S.Directory.files g.S.Directory.moment g.S.Directory.left_since c.args.self.now.folder.system
    c.doubt.new.self.folder.system c.cut_doubted.new.self.folder.system c.report.new.self.folder.system
    c.doubt.ensures.system c.report.ensures.system c.args.file
    (λ (x : Held). loosened_at x c.args.count (take c.args.count x.reads)) (λ (x : Held). loosened_at x c.args.count
    x.reads) c.report.result (loosened_within (g.S.Directory.files c.args.self.now.folder.system c.args.file).held
    c.args.count (take c.args.count (g.S.Directory.files c.args.self.now.folder.system c.args.file).held.reads)
    (g.S.Directory.files c.args.self.now.folder.system c.args.file).held.reads) (c.in_ok-cut_doubted.ensures.held k)

pub returns-clause-leaves : goal.returns-clause-leaves
returns-clause-leaves g c h =
    let k : IsTrue (g.S.Directory.honest c.doubt.new.self.folder.system) = honest_then (g.S.Directory.honest
    c.args.self.now.folder.system) (g.S.Directory.honest c.doubt.new.self.folder.system) (ap (λ (x : g.row.S.Denot).
    g.S.Directory.honest x) c.doubt.ensures.system) h in
    leaves_between g.S.Directory.files g.S.Directory.moment g.S.Directory.left_since c.args.self.now.folder.system
    c.doubt.new.self.folder.system c.cut_doubted.new.self.folder.system c.report.new.self.folder.system
    c.doubt.ensures.system c.report.ensures.system c.args.file
    (λ files. while_cutting files c.args.file c.args.count) (c.cut_doubted.ensures.leaves k)

pub returns-clause-covered : goal.returns-clause-covered
returns-clause-covered g c h =
    let k : IsTrue (g.S.Directory.honest c.doubt.new.self.folder.system) = honest_then (g.S.Directory.honest
    c.args.self.now.folder.system) (g.S.Directory.honest c.doubt.new.self.folder.system) (ap (λ (x : g.row.S.Denot).
    g.S.Directory.honest x) c.doubt.ensures.system) h in
    on_any c.report.result (covers_between g.S.Directory.files g.S.Directory.moment g.S.Directory.left_since
    c.args.self.now.folder.system c.doubt.new.self.folder.system c.cut_doubted.new.self.folder.system
    c.report.new.self.folder.system c.doubt.ensures.system
    c.report.ensures.system (λ files. while_cutting files c.args.file c.args.count)
    (c.in_ok-cut_doubted.ensures.covered k))
