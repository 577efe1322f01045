use Rattle.std.proofs.Common.{◌∙◌, IsTrue, sym, ap, subst}
use Rattle.flow_disk.specs.Disk.{Held, IsImage}
use Rattle.flow_disk.proofs.Images.{settled_one}
use Rattle.flow_disk.proofs.Calls.{comes}
use Rattle.flow_segment.specs.Steps.{Becomes}
use Rattle.flow_segment.proofs.Making.{begun, changed_by, settled_by}
use Rattle.flow_archive.proofs.InstallSwap.{written_alone}
use Rattle.flow_archive.proofs.roll.stage.Goals as goal

pub returns-in_err-write_at-clause-any_moment : goal.returns-in_err-write_at-clause-any_moment
returns-in_err-write_at-clause-any_moment g c h =
    let D = g.D.Disk in
    let d0 = c.args.disk.now in
    let f = c.args.file in
    let at_all = g.met.D.Disk.reads_image d0 f h in
    let none = begun h at_all (λ image. g.met.D.Disk.only_now d0 image h) in
    (changed_by _ none
    c.write_at.ensures.honest c.write_at.ensures.time (λ t. (c.write_at.ensures.held t).others)).run

pub returns-in_err-cut-clause-any_moment : goal.returns-in_err-cut-clause-any_moment
returns-in_err-cut-clause-any_moment g c h =
    let D = g.D.Disk in
    let d0 = c.args.disk.now in
    let f = c.args.file in
    let at_all = g.met.D.Disk.reads_image d0 f h in
    let none = begun h at_all (λ image. g.met.D.Disk.only_now d0 image h) in
    let one = changed_by _ none
    c.write_at.ensures.honest c.write_at.ensures.time (λ t. (c.write_at.ensures.held t).others) in
    (changed_by _ one
    c.cut.ensures.honest c.cut.ensures.time (λ t. (c.cut.ensures.held t).others)).run

pub returns-in_err-sync-clause-any_moment : goal.returns-in_err-sync-clause-any_moment
returns-in_err-sync-clause-any_moment g c h =
    let D = g.D.Disk in
    let d0 = c.args.disk.now in
    let f = c.args.file in
    let at_all = g.met.D.Disk.reads_image d0 f h in
    let none = begun h at_all (λ image. g.met.D.Disk.only_now d0 image h) in
    let one = changed_by _ none
    c.write_at.ensures.honest c.write_at.ensures.time (λ t. (c.write_at.ensures.held t).others) in
    let two = changed_by _ one
    c.cut.ensures.honest c.cut.ensures.time (λ t. (c.cut.ensures.held t).others) in
    (settled_by two
    c.sync.ensures.honest c.sync.ensures.time (λ t. (c.sync.ensures.held t).others)).run

pub returns-in_err-part-clause-any_moment : goal.returns-in_err-part-clause-any_moment
returns-in_err-part-clause-any_moment g c h =
    let D = g.D.Disk in
    let d0 = c.args.disk.now in
    let f = c.args.file in
    let at_all = g.met.D.Disk.reads_image d0 f h in
    let none = begun h at_all (λ image. g.met.D.Disk.only_now d0 image h) in
    let one = changed_by _ none
    c.write_at.ensures.honest c.write_at.ensures.time (λ t. (c.write_at.ensures.held t).others) in
    let two = changed_by _ one
    c.cut.ensures.honest c.cut.ensures.time (λ t. (c.cut.ensures.held t).others) in
    let three = settled_by two
    c.sync.ensures.honest c.sync.ensures.time (λ t. (c.sync.ensures.held t).others) in
    (settled_by three
    c.freeze.ensures.honest c.freeze.ensures.time (λ t n differs. c.freeze.ensures.held t n)).run

pub returns-clause-any_moment : goal.returns-clause-any_moment
returns-clause-any_moment g c h =
    let D = g.D.Disk in
    let d0 = c.args.disk.now in
    let f = c.args.file in
    let at_all = g.met.D.Disk.reads_image d0 f h in
    let none = begun h at_all (λ image. g.met.D.Disk.only_now d0 image h) in
    let one = changed_by _ none
    c.write_at.ensures.honest c.write_at.ensures.time (λ t. (c.write_at.ensures.held t).others) in
    let two = changed_by _ one
    c.cut.ensures.honest c.cut.ensures.time (λ t. (c.cut.ensures.held t).others) in
    let three = settled_by two
    c.sync.ensures.honest c.sync.ensures.time (λ t. (c.sync.ensures.held t).others) in
    (settled_by three
    c.freeze.ensures.honest c.freeze.ensures.time (λ t n differs. c.freeze.ensures.held t n)).run

pub returns-clause-octets : goal.returns-clause-octets
returns-clause-octets g c h =
    let D = g.D.Disk in
    let f = c.args.file in
    let h1 = subst IsTrue (sym c.write_at.ensures.honest) h in
    let h2 = subst IsTrue (sym c.cut.ensures.honest) h1 in
    let h3 = subst IsTrue (sym c.sync.ensures.honest) h2 in
    let reads = λ (x : Held). x.reads in
    c.in_ok-part.ensures.octets h3 ∙ ap reads (c.in_ok-sync.ensures.held h2).done
    ∙ written_alone c.args.octets.now (D.held c.args.disk.now f) (D.held c.write_at.new.self f)
    (D.held c.cut.new.self f) (ap reads (c.in_ok-write_at.ensures.held h).done)
    (ap reads (c.in_ok-cut.ensures.held h1).done)

pub returns-clause-after : goal.returns-clause-after
returns-clause-after g c h image is =
    let D = g.D.Disk in
    let d0 = c.args.disk.now in
    let f = c.args.file in
    let one = c.in_ok-write_at.ensures.held h in
    let h1 = subst IsTrue (sym c.write_at.ensures.honest) h in
    let two = c.in_ok-cut.ensures.held h1 in
    let h2 = subst IsTrue (sym c.cut.ensures.honest) h1 in
    let three = c.in_ok-sync.ensures.held h2 in
    let h3 = subst IsTrue (sym c.sync.ensures.honest) h2 in
    let four = c.freeze.ensures.held h3 in
    let reads = λ (x : Held). x.reads in
    let now = written_alone c.args.octets.now (D.held d0 f) (D.held c.write_at.new.self f) (D.held c.cut.new.self f)
    (ap reads one.done) (ap reads two.done) in
    comes (D.held d0) (D.held c.freeze.new.self) f (Becomes c.args.octets.now) (λ n differs.
    four n ∙ three.others n differs ∙ two.others n differs ∙ one.others n differs)
    (λ b has. (
      (D.held d0 f).reads,
      g.met.D.Disk.reads_image d0 f h,
      settled_one (D.held c.cut.new.self f).reads b
          (subst (λ (x : Held). IsImage x b) (four f ∙ three.done) has) ∙ now,
    )) image is
