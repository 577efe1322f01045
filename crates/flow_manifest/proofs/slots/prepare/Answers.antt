use Rattle.std.proofs.Common.{IsTrue, subst, sym, ◌∙◌, ap}
use Rattle.flow_manifest.specs.Slots.{file_of, reads_of}
use Rattle.flow_manifest.proofs.Swaps.{current_stays, slots_then, ready_then}
use Rattle.flow_manifest.proofs.slots.prepare.Goals as goal

pub returns-in_err-prepare_slot-clause-in_force : goal.returns-in_err-prepare_slot-clause-in_force
returns-in_err-prepare_slot-clause-in_force g c h =
    let D = g.D.Disk in
    let d = c.args.disk.now in
    current_stays D d c.prepare_slot.new.disk c.args.slots.now c.file-file.result
    (c.file-file.ensures ∙ ap file_of c.other.ensures)
    (record {
      reads = g.met.D.Disk.reads_image d _ h;
      alone =
          λ image. g.met.D.Disk.settled_alone d _ image h c.requires.settled_current;
    })
    (record {
      reads = g.met.D.Disk.reads_image d _ h;
      alone =
          λ image. g.met.D.Disk.settled_alone d _ image h c.requires.settled;
    }) (c.requires.told h)
    (c.prepare_slot.ensures.any_moment h)

pub returns-clause-in_force : goal.returns-clause-in_force
returns-clause-in_force g c h =
    let D = g.D.Disk in
    let d = c.args.disk.now in
    current_stays D d c.prepare_slot.new.disk c.args.slots.now c.file-file.result
    (c.file-file.ensures ∙ ap file_of c.other.ensures)
    (record {
      reads = g.met.D.Disk.reads_image d _ h;
      alone =
          λ image. g.met.D.Disk.settled_alone d _ image h c.requires.settled_current;
    })
    (record {
      reads = g.met.D.Disk.reads_image d _ h;
      alone =
          λ image. g.met.D.Disk.settled_alone d _ image h c.requires.settled;
    }) (c.requires.told h)
    (c.prepare_slot.ensures.any_moment h)

pub returns-clause-told : goal.returns-clause-told
returns-clause-told g c h =
    let D = g.D.Disk in
    let d = c.args.disk.now in
    slots_then D d c.prepare_slot.new.disk c.args.slots.now c.file-file.result
    (c.file-file.ensures ∙ ap file_of c.other.ensures)
    (record {
      reads = g.met.D.Disk.reads_image d _ h;
      alone =
          λ image. g.met.D.Disk.settled_alone d _ image h c.requires.settled_current;
    })
    (record {
      reads = g.met.D.Disk.reads_image d _ h;
      alone =
          λ image. g.met.D.Disk.settled_alone d _ image h c.requires.settled;
    }) (c.requires.told h)
    c.args.body.now (c.in_ok-prepare_slot.ensures.after h)

pub returns-clause-ready : goal.returns-clause-ready
returns-clause-ready g c h =
    let D = g.D.Disk in
    let d = c.args.disk.now in
    let new = c.prepare_slot.new.disk in
    let h1 = subst IsTrue (sym c.prepare_slot.ensures.call.honest) h in
    ready_then D d new c.args.slots.now c.file-file.result (c.file-file.ensures
    ∙ ap file_of c.other.ensures)
    (record {
      reads = g.met.D.Disk.reads_image d _ h;
      alone =
          λ image. g.met.D.Disk.settled_alone d _ image h c.requires.settled_current;
    })
    (record {
      reads = g.met.D.Disk.reads_image d _ h;
      alone =
          λ image. g.met.D.Disk.settled_alone d _ image h c.requires.settled;
    }) (c.requires.told h)
    c.args.body.now (c.in_ok-prepare_slot.ensures.after h) (reads_of (D.held new))
    (λ n. g.met.D.Disk.reads_image new n h1)
