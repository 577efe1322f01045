use Rattle.std.proofs.Common.{subst, sym, ◌∙◌, ap, refl, true}
use Rattle.flow_manifest.specs.declared.slots.Slot.{Slot}
use Rattle.flow_manifest.specs.Slots.{file_of, AreSlots}
use Rattle.flow_manifest.proofs.Swaps.{current_or_this, swapped_then}
use Rattle.flow_manifest.proofs.slots.commit.Goals as goal

pub returns-in_err-open_slot-clause-in_force : goal.returns-in_err-open_slot-clause-in_force
returns-in_err-open_slot-clause-in_force g c h =
    let D = g.D.Disk in
    let d = c.args.disk.now in
    current_or_this D d c.open_slot.new.disk c.args.slots.now c.file-file.result
    (c.file-file.ensures ∙ ap file_of c.other-slot.ensures)
    (record {
      reads = g.met.D.Disk.reads_image d _ h;
      alone =
          λ image. g.met.D.Disk.settled_alone d _ image h c.requires.settled_current;
    })
    (record {
      reads = g.met.D.Disk.reads_image d _ h;
      alone =
          λ image. g.met.D.Disk.settled_alone d _ image h c.requires.settled;
    }) c.args.manifest (c.requires.ready h)
    (c.open_slot.ensures.any_moment h)

pub returns-clause-in_force : goal.returns-clause-in_force
returns-clause-in_force g c h =
    let D = g.D.Disk in
    let d = c.args.disk.now in
    current_or_this D d c.open_slot.new.disk c.args.slots.now c.file-file.result
    (c.file-file.ensures ∙ ap file_of c.other-slot.ensures)
    (record {
      reads = g.met.D.Disk.reads_image d _ h;
      alone =
          λ image. g.met.D.Disk.settled_alone d _ image h c.requires.settled_current;
    })
    (record {
      reads = g.met.D.Disk.reads_image d _ h;
      alone =
          λ image. g.met.D.Disk.settled_alone d _ image h c.requires.settled;
    }) c.args.manifest (c.requires.ready h)
    (c.open_slot.ensures.any_moment h)

pub returns-clause-told : goal.returns-clause-told
returns-clause-told g c h image is =
    let D = g.D.Disk in
    let d = c.args.disk.now in
    let slots = c.args.slots.now in
    let now = swapped_then D d c.open_slot.new.disk slots c.file-file.result
    (c.file-file.ensures ∙ ap file_of c.other-slot.ensures)
    (record {
      reads = g.met.D.Disk.reads_image d _ h;
      alone =
          λ image. g.met.D.Disk.settled_alone d _ image h c.requires.settled_current;
    })
    (record {
      reads = g.met.D.Disk.reads_image d _ h;
      alone =
          λ image. g.met.D.Disk.settled_alone d _ image h c.requires.settled;
    }) c.args.manifest (c.requires.ready h)
    (c.in_ok-open_slot.ensures.after h) image is in
    subst (λ (s : Slot). AreSlots (record { current = c.args.manifest; current_slot = s; other_open = true }) image)
    (sym c.other-slot.ensures) now

pub returns-clause-swapped : goal.returns-clause-swapped
returns-clause-swapped g c h image is = (_, refl, returns-clause-told g c h image is)
