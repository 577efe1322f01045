use Rattle.flow_disk.specs.Disk.{AllImages, InFile}
use Rattle.flow_disk.proofs.Moments.{arrive, comes_by}
use Rattle.flow_manifest.specs.Slots.{file_of, other, IsSwapped, MaySwap}
use Rattle.flow_model.specs.State.{reopened}
use Rattle.flow_model.specs.Jobs.{replaced}
use Rattle.flow_model.specs.Standing.{IsKnown, StandsForEither}
use Rattle.flow_archive.proofs.InstallSwap.{IsMade, ready_to, slots_after, swapped_to, swapping}
use Rattle.flow_archive.proofs.install.install.Goals as goal

pub returns-in_err-swap_slots-clause-any_moment : goal.returns-in_err-swap_slots-clause-any_moment
returns-in_err-swap_slots-clause-any_moment g c h kind count file s m =
    let D = g.D.Disk in
    let d0 = c.args.disk.now in
    let f = D.held d0 in
    let slots = c.args.slots.now in
    let body = c.args.body.now in
    let Q = StandsForEither (reopened s) (reopened (replaced s kind count file)) in
    let M = IsMade f slots body kind count file s m in
    let ready : AllImages f M =
    λ image is. ready_to f slots body kind count file s m image (m.known image is) (m.staged image is) in
    comes_by D d0 c.swap_slots.new.disk M Q (InFile (file_of (other slots.current_slot)) (MaySwap body)) ready
    (c.swap_slots.ensures.any_moment h) (swapping f slots body kind count file s m)

pub returns-clause-any_moment : goal.returns-clause-any_moment
returns-clause-any_moment g c h kind count file s m =
    let D = g.D.Disk in
    let d0 = c.args.disk.now in
    let f = D.held d0 in
    let slots = c.args.slots.now in
    let body = c.args.body.now in
    let Q = StandsForEither (reopened s) (reopened (replaced s kind count file)) in
    let M = IsMade f slots body kind count file s m in
    let ready : AllImages f M =
    λ image is. ready_to f slots body kind count file s m image (m.known image is) (m.staged image is) in
    comes_by D d0 c.swap_slots.new.disk M Q (InFile (file_of (other slots.current_slot)) (MaySwap body)) ready
    (c.swap_slots.ensures.any_moment h) (swapping f slots body kind count file s m)

pub returns-clause-after : goal.returns-clause-after
returns-clause-after g c h kind count file s m =
    let D = g.D.Disk in
    let d0 = c.args.disk.now in
    let f = D.held d0 in
    let slots = c.args.slots.now in
    let body = c.args.body.now in
    let M = IsMade f slots body kind count file s m in
    let ready : AllImages f M =
    λ image is. ready_to f slots body kind count file s m image (m.known image is) (m.staged image is) in
    let N = IsKnown (slots_after f slots body kind count file s m) (replaced s kind count file) in
    arrive D d0 c.swap_slots.new.disk M N (InFile (file_of (other slots.current_slot)) (IsSwapped body)) ready
    (c.in_ok-swap_slots.ensures.after h) (swapped_to f slots body kind count file s m)
