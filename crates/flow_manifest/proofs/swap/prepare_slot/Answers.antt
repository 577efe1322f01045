use Rattle.std.proofs.Common.{IsTrue, subst, sym}
use Rattle.flow_disk.specs.Disk.{AllImages, ComesOf, InFile}
use Rattle.flow_disk.proofs.Results.{on_ok_by}
use Rattle.flow_manifest.specs.Slots.{HasBody, IsPrepared}
use Rattle.flow_manifest.proofs.Gates.{closed_then_body, body_behind_closed}
use Rattle.flow_manifest.proofs.swap.prepare_slot.Goals as goal

pub returns-clause-any_moment : goal.returns-clause-any_moment
returns-clause-any_moment g c h =
    let D = g.D.Disk in
    let d = c.args.disk.now in
    closed_then_body D d c.close_slot.new.disk c.write_body.new.disk c.args.file
    c.args.was_open (λ image. g.met.D.Disk.settled_alone d c.args.file image h c.requires.settled)
    (c.requires.gate h)
    (c.in_ok-close_slot.ensures.after h) (c.close_slot.ensures.any_moment h)
    (c.write_body.ensures.any_moment (subst IsTrue (sym c.close_slot.ensures.call.honest) h))

pub returns-clause-after : goal.returns-clause-after
returns-clause-after g c h =
    let D = g.D.Disk in
    let d = c.args.disk.now in
    let file = c.args.file in
    let mid = c.close_slot.new.disk in
    let new = c.write_body.new.disk in
    let body = c.args.body.now in
    on_ok_by c.write_body.result (AllImages (D.held new) (ComesOf (D.held mid) (InFile file (HasBody body))))
    (AllImages (D.held new) (ComesOf (D.held d) (InFile file (IsPrepared body))))
    (body_behind_closed D d mid new file
    c.args.was_open (λ image. g.met.D.Disk.settled_alone d file image h c.requires.settled)
    (c.requires.gate h)
    (c.in_ok-close_slot.ensures.after h) body)
    (c.write_body.ensures.after (subst IsTrue (sym c.close_slot.ensures.call.honest) h))
