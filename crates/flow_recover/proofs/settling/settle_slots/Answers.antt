use Rattle.std.proofs.Common.{◌≡◌, IsTrue, sym, subst, true}
use Rattle.flow_disk.specs.Disk.{IsDiskImage}
use Rattle.flow_disk.proofs.Moments.{by, one_run}
use Rattle.flow_manifest.proofs.Openings.{each_slot}
use Rattle.flow_recover.proofs.settling.settle_slots.Goals as goal

pub returns-in_err-settle-2-clause-any_moment : goal.returns-in_err-settle-2-clause-any_moment
returns-in_err-settle-2-clause-any_moment g c h =
    let D = g.D.Disk in
    let d0 = c.args.disk.now in
    let d1 = c.settle.new.disk in
    let d2 = c.settle-2.new.disk in
    let P = IsDiskImage (D.held d0) in
    let h1 = subst IsTrue (sym c.settle.ensures.honest) h in
    one_run D d0 d1 d2 P (c.settle.ensures.any_moment h) (by D d1 d2
    (IsDiskImage (D.held d1)) P (c.settle-2.ensures.any_moment h1) (c.settle.ensures.narrows h))

pub returns-clause-any_moment : goal.returns-clause-any_moment
returns-clause-any_moment g c h =
    let D = g.D.Disk in
    let d0 = c.args.disk.now in
    let d1 = c.settle.new.disk in
    let d2 = c.settle-2.new.disk in
    let P = IsDiskImage (D.held d0) in
    let h1 = subst IsTrue (sym c.settle.ensures.honest) h in
    one_run D d0 d1 d2 P (c.settle.ensures.any_moment h) (by D d1 d2
    (IsDiskImage (D.held d1)) P (c.settle-2.ensures.any_moment h1) (c.settle.ensures.narrows h))

pub returns-in_err-settle-2-clause-narrows : goal.returns-in_err-settle-2-clause-narrows
returns-in_err-settle-2-clause-narrows g c h image is = let h1 = subst IsTrue
    (sym c.settle.ensures.honest) h in c.settle.ensures.narrows h image (c.settle-2.ensures.narrows h1 image is)

pub returns-clause-narrows : goal.returns-clause-narrows
returns-clause-narrows g c h image is = let h1 = subst IsTrue
    (sym c.settle.ensures.honest) h in c.settle.ensures.narrows h image (c.settle-2.ensures.narrows h1 image is)

pub returns-clause-settled : goal.returns-clause-settled
returns-clause-settled g c =
    let D = g.D.Disk in
    each_slot (λ n. (D.marks c.settle-2.new.disk n).settled ≡ true)
    (c.in_ok-settle-2.ensures.marks.settled 1 c.in_ok-settle.ensures.settled) c.in_ok-settle-2.ensures.settled

pub returns-clause-listed : goal.returns-clause-listed
returns-clause-listed g c =
    let D = g.D.Disk in
    each_slot (λ n. (D.marks c.settle-2.new.disk n).listed ≡ true)
    (c.in_ok-settle-2.ensures.still 1 c.in_ok-settle.ensures.listed) c.in_ok-settle-2.ensures.listed
