use Rattle.std.proofs.Common.{◌∙◌, ap}
use Rattle.flow_disk.specs.Disk.{AllImages, ComesOf, InFile}
use Rattle.flow_disk.proofs.Results.{on_ok_by}
use Rattle.flow_manifest.specs.Slots.{file_of, AreSlots, IsSwapped, swapped}
use Rattle.flow_manifest.proofs.Swaps.{current_or_next, next_slots}
use Rattle.flow_manifest.proofs.slots.swap_slots.Goals as goal

pub returns-clause-in_force : goal.returns-clause-in_force
returns-clause-in_force g c h m next =
    let D = g.D.Disk in
    let d = c.args.disk.now in
    current_or_next D d c.swap_slot.new.disk c.args.slots.now c.file-file.result
    (c.file-file.ensures ∙ ap file_of c.other.ensures)
    (record {
      reads = g.met.D.Disk.reads_image d _ h;
      alone =
          λ image. g.met.D.Disk.settled_alone d _ image h c.requires.settled_current;
    })
    (record {
      reads = g.met.D.Disk.reads_image d _ h;
      alone =
          λ image. g.met.D.Disk.settled_alone d _ image h c.requires.settled;
    }) (c.requires.told h) m c.args.body.now next
    (c.swap_slot.ensures.any_moment h)

pub returns-clause-told : goal.returns-clause-told
returns-clause-told g c h m next =
    let D = g.D.Disk in
    let d = c.args.disk.now in
    let new = c.swap_slot.new.disk in
    on_ok_by c.swap_slot.result
    (AllImages (D.held new) (ComesOf (D.held d) (InFile c.file-file.result (IsSwapped c.args.body.now))))
    (AllImages (D.held new) (AreSlots (swapped c.args.slots.now m)))
    (next_slots D d new c.args.slots.now c.file-file.result (c.file-file.ensures ∙ ap file_of c.other.ensures)
    (record {
      reads = g.met.D.Disk.reads_image d _ h;
      alone =
          λ image. g.met.D.Disk.settled_alone d _ image h c.requires.settled_current;
    })
    (record {
      reads = g.met.D.Disk.reads_image d _ h;
      alone =
          λ image. g.met.D.Disk.settled_alone d _ image h c.requires.settled;
    }) (c.requires.told h) m c.args.body.now next)
    (c.swap_slot.ensures.after h)
