use Rattle.std.proofs.Common.{IsTrue, length}
use Rattle.std.proofs.Common.{sym, ◌∙◌, ap, subst, arith}
use Rattle.flow_disk.specs.Disk.{Held, IsImage, IsDiskImage}
use Rattle.flow_disk.proofs.Moments.{by, goes_on, one_run, started}
use Rattle.flow_recover.proofs.reading.read_active.Goals as goal

pub returns-in_err-size-clause-any_moment : goal.returns-in_err-size-clause-any_moment
returns-in_err-size-clause-any_moment g c h =
    let D = g.D.Disk in
    let d0 = c.args.disk.now in
    goes_on D d0 d0 c.length.new.self (IsDiskImage (D.held d0)) (D.held d0)
    (started D d0 (IsDiskImage (D.held d0)) (λ image left. g.met.D.Disk.only_now d0 image h left))
    (c.length.ensures.time h) (λ image is. is)

pub returns-then-start-size-clause-any_moment : goal.returns-then-start-size-clause-any_moment
returns-then-start-size-clause-any_moment g c h =
    let D = g.D.Disk in
    let d0 = c.args.disk.now in
    goes_on D d0 d0 c.length.new.self (IsDiskImage (D.held d0)) (D.held d0)
    (started D d0 (IsDiskImage (D.held d0)) (λ image left. g.met.D.Disk.only_now d0 image h left))
    (c.length.ensures.time h) (λ image is. is)

pub returns-in_err-tail-clause-any_moment : goal.returns-in_err-tail-clause-any_moment
returns-in_err-tail-clause-any_moment g c h =
    let D = g.D.Disk in
    let d0 = c.args.disk.now in
    let d1 = c.length.new.self in
    let d2 = c.scan.new.disk in
    let P = IsDiskImage (D.held d0) in
    let run1 = goes_on D d0 d0 d1 P (D.held d0)
    (started D d0 P (λ image left. g.met.D.Disk.only_now d0 image h left))
    (c.length.ensures.time h) (λ image is. is) in
    let h1 = subst IsTrue (sym c.length.ensures.honest) h in
    one_run D d0 d1 d2 P run1 (by D d1 d2 (IsDiskImage (D.held d1)) P
    (c.scan.ensures.any_moment h1) (λ image is n. subst (λ (f : Held). IsImage f (image n)) (c.length.ensures.held h n)
    (is n)))

pub returns-in_err-prefix-clause-any_moment : goal.returns-in_err-prefix-clause-any_moment
returns-in_err-prefix-clause-any_moment g c h =
    let D = g.D.Disk in
    let d0 = c.args.disk.now in
    let d1 = c.length.new.self in
    let d2 = c.scan.new.disk in
    let P = IsDiskImage (D.held d0) in
    let run1 = goes_on D d0 d0 d1 P (D.held d0)
    (started D d0 P (λ image left. g.met.D.Disk.only_now d0 image h left))
    (c.length.ensures.time h) (λ image is. is) in
    let h1 = subst IsTrue (sym c.length.ensures.honest) h in
    let run2 = one_run D d0 d1 d2 P run1 (by D d1 d2 (IsDiskImage (D.held d1)) P
    (c.scan.ensures.any_moment h1) (λ image is n. subst (λ (f : Held). IsImage f (image n)) (c.length.ensures.held h n)
    (is n))) in
    let h2 = subst IsTrue (sym c.scan.ensures.reads.honest) h1 in
    goes_on D d0 d2 c.read.new.self P (D.held d2) run2 (c.read.ensures.time h2) (λ image is n.
    subst (λ (f : Held). IsImage f (image n)) (c.scan.ensures.reads.held h1 n ∙ c.length.ensures.held h n) (is n))

pub returns-clause-any_moment : goal.returns-clause-any_moment
returns-clause-any_moment g c h =
    let D = g.D.Disk in
    let d0 = c.args.disk.now in
    let d1 = c.length.new.self in
    let d2 = c.scan.new.disk in
    let P = IsDiskImage (D.held d0) in
    let run1 = goes_on D d0 d0 d1 P (D.held d0)
    (started D d0 P (λ image left. g.met.D.Disk.only_now d0 image h left))
    (c.length.ensures.time h) (λ image is. is) in
    let h1 = subst IsTrue (sym c.length.ensures.honest) h in
    let run2 = one_run D d0 d1 d2 P run1 (by D d1 d2 (IsDiskImage (D.held d1)) P
    (c.scan.ensures.any_moment h1) (λ image is n. subst (λ (f : Held). IsImage f (image n)) (c.length.ensures.held h n)
    (is n))) in
    let h2 = subst IsTrue (sym c.scan.ensures.reads.honest) h1 in
    goes_on D d0 d2 c.read.new.self P (D.held d2) run2 (c.read.ensures.time h2) (λ image is n.
    subst (λ (f : Held). IsImage f (image n)) (c.scan.ensures.reads.held h1 n ∙ c.length.ensures.held h n) (is n))

pub returns-then-start-size-clause-refused : goal.returns-then-start-size-clause-refused
returns-then-start-size-clause-refused g c h p at =
    let D = g.D.Disk in
    let d0 = c.args.disk.now in
    let d1 = c.length.new.self in
    let f = c.args.active_entry.file in
    let h1 = subst IsTrue (sym c.length.ensures.honest) h in
    absurd (omega (
      arith,
      at.gated.closed.room,
      c.if-start-size.true,
      c.from-start.ensures,
      c.in_ok-size.ensures.count,
      g.met.D.Disk.has_size d1 f h1,
      ap (λ (k : Held). length k.reads) (c.length.ensures.held h f),
    ))
