use Rattle.std.proofs.Common.{IsTrue, ℕ, Bool, sym, subst, ap, ◌∙◌}
use Rattle.flow_disk.specs.Disk.{InFile, ComesOf, Marks}
use Rattle.flow_disk.proofs.Moments.{goes_on}
use Rattle.flow_disk.specs.Files.{frozen_as}
use Rattle.flow_segment.specs.Steps.{KeepsFront}
use Rattle.flow_recover.specs.Opening.{shut_at}
use Rattle.flow_recover.proofs.tidying.freeze_one.Goals as goal

pub returns-in_err-part-clause-any_moment : goal.returns-in_err-part-clause-any_moment
returns-in_err-part-clause-any_moment g c h =
    let D = g.D.Disk in
    let d0 = c.args.disk.now in
    let f = c.args.entry.file in
    let d1 = c.cut_file.new.disk in
    let run1 = c.cut_file.ensures.any_moment h in
    let h1 = subst IsTrue (sym c.cut_file.ensures.honest) h in
    goes_on D d0 d1 c.freeze.new.self (ComesOf (D.held d0) (InFile f
    (KeepsFront c.args.entry.length))) (D.held d1) run1 (c.freeze.ensures.time h1)
    (λ image is. run1.each image (g.met.D.Disk.counts_now d1 (D.moment d0) image h1 run1.later is))

pub returns-clause-any_moment : goal.returns-clause-any_moment
returns-clause-any_moment g c h =
    let D = g.D.Disk in
    let d0 = c.args.disk.now in
    let f = c.args.entry.file in
    let d1 = c.cut_file.new.disk in
    let run1 = c.cut_file.ensures.any_moment h in
    let h1 = subst IsTrue (sym c.cut_file.ensures.honest) h in
    goes_on D d0 d1 c.freeze.new.self (ComesOf (D.held d0) (InFile f
    (KeepsFront c.args.entry.length))) (D.held d1) run1 (c.freeze.ensures.time h1)
    (λ image is. run1.each image (g.met.D.Disk.counts_now d1 (D.moment d0) image h1 run1.later is))

pub returns-in_err-part-clause-other_files : goal.returns-in_err-part-clause-other_files
returns-in_err-part-clause-other_files g c h n differs =
    c.freeze.ensures.held (subst IsTrue (sym c.cut_file.ensures.honest) h) n
    ∙ c.cut_file.ensures.other_files h n differs

pub returns-clause-other_files : goal.returns-clause-other_files
returns-clause-other_files g c h n differs =
    c.freeze.ensures.held (subst IsTrue (sym c.cut_file.ensures.honest) h) n
    ∙ c.cut_file.ensures.other_files h n differs

pub returns-clause-shut : goal.returns-clause-shut
returns-clause-shut g c =
    let count = c.args.entry.length in
    let held : Marks = g.D.Disk.marks c.cut_file.new.disk c.args.entry.file in
    c.in_ok-part.ensures.frozen.here
    ∙ ap (λ (n : ℕ). frozen_as (record held { size = n })) c.in_ok-cut_file.ensures.size
    ∙ ap (λ (b : Bool). record (shut_at count) { listed = b }) c.in_ok-cut_file.ensures.listed

pub returns-clause-size : goal.returns-clause-size
returns-clause-size g c = c.in_ok-part.ensures.sealed.1 ∙ c.in_ok-cut_file.ensures.size
