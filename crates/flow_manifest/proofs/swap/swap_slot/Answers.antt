use Rattle.std.proofs.Common.{inl, inr, ⊎_elim, IsTrue, subst, sym}
use Rattle.flow_disk.specs.Disk.{AllImages, ComesOf, InFile}
use Rattle.flow_disk.specs.Calls.{LeavesOnly}
use Rattle.flow_disk.proofs.Results.{on_ok_by}
use Rattle.flow_disk.proofs.Moments.{by, advance, arrive}
use Rattle.flow_manifest.specs.Slots.{MayClose, IsPrepared, MayOpen, Opens, MaySwap, IsSwapped}
use Rattle.flow_manifest.proofs.Swaps.{in_turn, may_open_swaps, opens_swaps}
use Rattle.flow_manifest.proofs.swap.swap_slot.Given.{Over}
use Rattle.flow_manifest.proofs.swap.swap_slot.Goals.{After-prepare_slot}
use Rattle.flow_manifest.proofs.swap.swap_slot.Goals as goal

-- a stop so far leaves the slot as it was, or closed
closing : (g : Over) (c : After-prepare_slot g) → IsTrue (g.D.Disk.honest c.args.disk.now)
    → LeavesOnly g.D.Disk c.args.disk.now c.prepare_slot.new.disk
    (ComesOf (g.D.Disk.held c.args.disk.now) (InFile c.args.file (MaySwap c.args.body.now)))
closing g c h =
    let f = g.D.Disk.held c.args.disk.now in
    by g.D.Disk c.args.disk.now c.prepare_slot.new.disk (ComesOf f (InFile c.args.file MayClose))
    (ComesOf f (InFile c.args.file (MaySwap c.args.body.now))) (c.prepare_slot.ensures.any_moment h)
    (λ image came. (
      came.0,
      came.1,
      let step = came.2 in
          record { others = step.others; here = ⊎_elim (λ same. inl same) (λ closed. inr (inl closed)) step.here },
    ))

pub open_slot-requires-clause-gate : goal.open_slot-requires-clause-gate
open_slot-requires-clause-gate g c h =
    let D = g.D.Disk in
    let d1 = c.prepare_slot.new.disk in
    let came = c.in_ok-prepare_slot.ensures.after (subst IsTrue c.prepare_slot.ensures.call.honest h)
    (λ n. (D.held d1 n).reads) (λ n. g.met.D.Disk.reads_image d1 n h) in
    (came.2).here.closed

pub returns-in_err-prepare_slot-clause-any_moment : goal.returns-in_err-prepare_slot-clause-any_moment
returns-in_err-prepare_slot-clause-any_moment g c h = closing g
    (goal.at.returns-in_err-prepare_slot-clause-any_moment g c).After-prepare_slot h

pub returns-clause-any_moment : goal.returns-clause-any_moment
returns-clause-any_moment g c h =
    let D = g.D.Disk in
    let d0 = c.args.disk.now in
    let f = c.args.file in
    let body = c.args.body.now in
    advance D d0 c.prepare_slot.new.disk c.open_slot.new.disk (ComesOf (D.held d0) (InFile f (MaySwap body)))
    (ComesOf (D.held d0) (InFile f (IsPrepared body))) (InFile f MayOpen)
    (closing g (goal.at.returns-clause-any_moment g c).After-prepare_slot h) (c.in_ok-prepare_slot.ensures.after h)
    (c.open_slot.ensures.any_moment (subst IsTrue (sym c.prepare_slot.ensures.call.honest) h))
    (λ a b came step. (
      came.0,
      came.1,
      in_turn f (IsPrepared body) MayOpen (MaySwap body) (may_open_swaps body) came.0 a b came.2 step,
    ))

pub returns-clause-after : goal.returns-clause-after
returns-clause-after g c h =
    let D = g.D.Disk in
    let d0 = c.args.disk.now in
    let f = c.args.file in
    let body = c.args.body.now in
    on_ok_by c.open_slot.result
    (AllImages (D.held c.open_slot.new.disk) (ComesOf (D.held c.prepare_slot.new.disk) (InFile f Opens)))
    (AllImages (D.held c.open_slot.new.disk) (ComesOf (D.held d0) (InFile f (IsSwapped body))))
    (λ after. arrive D c.prepare_slot.new.disk c.open_slot.new.disk (ComesOf (D.held d0) (InFile f (IsPrepared body)))
    (ComesOf (D.held d0) (InFile f (IsSwapped body))) (InFile f Opens) (c.in_ok-prepare_slot.ensures.after h) after
    (λ a b came step. (
      came.0,
      came.1,
      in_turn f (IsPrepared body) Opens (IsSwapped body) (opens_swaps body) came.0 a b came.2 step,
    )))
    (c.open_slot.ensures.after (subst IsTrue (sym c.prepare_slot.ensures.call.honest) h))
