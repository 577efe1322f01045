use Rattle.std.proofs.Common.{◌≡◌, ◌⊎◌, inl, inr, ⊎_elim, ℕ, ◌≤◌, List, length, take, IsTrue, refl, subst, sym, ◌∙◌, ap}
use Rattle.std.proofs.Common.{arith}
use Rattle.flow_disk.specs.Disk.{Held, Marks, IsImage, IsDiskImage, AllImages}
use Rattle.flow_disk.proofs.Moments.{by, one_run}
use Rattle.std.specs.Prelude.{◌==◌, if◌then◌else◌}
use Rattle.flow_manifest.specs.Manifest.{IsValidManifest}
use Rattle.flow_manifest.specs.declared.error.OpenError.TheVariants as opening
use Rattle.flow_manifest.specs.declared.slots.Slot.{Slot}
use Rattle.flow_manifest.specs.Slots.{file_of, other, reads_of, AreSlots, IsInForce}
use Rattle.flow_manifest.specs.Opening.{IsOpenFault, NamesSlot, enough}
use Rattle.flow_disk.proofs.Results.{on_ok_by, if_ok_by, if_err_by}
use Rattle.flow_manifest.proofs.Looks.{part_kept}
use Rattle.flow_manifest.proofs.Openings.{each_slot, quiet, open_fault_named}
use Rattle.flow_manifest.proofs.Enough.{slots_whole, open_fault_whole}
use Rattle.flow_manifest.proofs.Swaps.{same_slots}
use Rattle.flow_manifest.proofs.reading.read_slots.Goals as goal

pub returns-clause-room : goal.returns-clause-room
returns-clause-room g c =
    let D = g.D.Disk in
    let new = c.slot_octets-2.new.disk in
    on_ok_by c.slots_of.result ((1 ≤ length c.deref.result.now) × (1 ≤ length c.deref-2.result.now)) ((slot : Slot)
    → 1 ≤ (D.marks new (file_of slot)).size) (λ gates.
    each_slot (λ n. 1 ≤ (D.marks new n).size)
    (omega (
      arith,
      gates.0,
      c.deref.ensures.len,
      c.in_ok-first.ensures.size,
      ap (λ (m : Marks). m.size) (c.slot_octets-2.ensures.reads.other_marks 1 (λ is. omega arith)),
    ))
    (omega (arith, gates.1, c.deref-2.ensures.len, c.in_ok-second.ensures.size)))
    c.slots_of.ensures.gates

pub returns-in_err-first-clause-settled : goal.returns-in_err-first-clause-settled
returns-in_err-first-clause-settled g c =
    let D = g.D.Disk in
    part_kept (λ m. m.settled) (D.marks c.args.disk.now) (D.marks c.slot_octets.new.disk) 1
    c.slot_octets.ensures.reads.other_marks c.slot_octets.ensures.reads.settled

pub returns-in_err-second-clause-settled : goal.returns-in_err-second-clause-settled
returns-in_err-second-clause-settled g c n =
    let D = g.D.Disk in
    let mid = D.marks c.slot_octets.new.disk in
    part_kept (λ m. m.settled) mid (D.marks c.slot_octets-2.new.disk) 2 c.slot_octets-2.ensures.reads.other_marks
    c.slot_octets-2.ensures.reads.settled n
    ∙ part_kept (λ m. m.settled) (D.marks c.args.disk.now) mid 1 c.slot_octets.ensures.reads.other_marks
    c.slot_octets.ensures.reads.settled n

pub returns-clause-settled : goal.returns-clause-settled
returns-clause-settled g c n =
    let D = g.D.Disk in
    let mid = D.marks c.slot_octets.new.disk in
    part_kept (λ m. m.settled) mid (D.marks c.slot_octets-2.new.disk) 2 c.slot_octets-2.ensures.reads.other_marks
    c.slot_octets-2.ensures.reads.settled n
    ∙ part_kept (λ m. m.settled) (D.marks c.args.disk.now) mid 1 c.slot_octets.ensures.reads.other_marks
    c.slot_octets.ensures.reads.settled n

pub returns-in_err-first-clause-frozen : goal.returns-in_err-first-clause-frozen
returns-in_err-first-clause-frozen g c =
    let D = g.D.Disk in
    part_kept (λ m. m.frozen) (D.marks c.args.disk.now) (D.marks c.slot_octets.new.disk) 1
    c.slot_octets.ensures.reads.other_marks c.slot_octets.ensures.reads.frozen

pub returns-in_err-second-clause-frozen : goal.returns-in_err-second-clause-frozen
returns-in_err-second-clause-frozen g c n =
    let D = g.D.Disk in
    let mid = D.marks c.slot_octets.new.disk in
    part_kept (λ m. m.frozen) mid (D.marks c.slot_octets-2.new.disk) 2 c.slot_octets-2.ensures.reads.other_marks
    c.slot_octets-2.ensures.reads.frozen n
    ∙ part_kept (λ m. m.frozen) (D.marks c.args.disk.now) mid 1 c.slot_octets.ensures.reads.other_marks
    c.slot_octets.ensures.reads.frozen n

pub returns-clause-frozen : goal.returns-clause-frozen
returns-clause-frozen g c n =
    let D = g.D.Disk in
    let mid = D.marks c.slot_octets.new.disk in
    part_kept (λ m. m.frozen) mid (D.marks c.slot_octets-2.new.disk) 2 c.slot_octets-2.ensures.reads.other_marks
    c.slot_octets-2.ensures.reads.frozen n
    ∙ part_kept (λ m. m.frozen) (D.marks c.args.disk.now) mid 1 c.slot_octets.ensures.reads.other_marks
    c.slot_octets.ensures.reads.frozen n

pub returns-in_err-first-clause-listed : goal.returns-in_err-first-clause-listed
returns-in_err-first-clause-listed g c =
    let D = g.D.Disk in
    part_kept (λ m. m.listed) (D.marks c.args.disk.now) (D.marks c.slot_octets.new.disk) 1
    c.slot_octets.ensures.reads.other_marks c.slot_octets.ensures.reads.listed

pub returns-in_err-second-clause-listed : goal.returns-in_err-second-clause-listed
returns-in_err-second-clause-listed g c n =
    let D = g.D.Disk in
    let mid = D.marks c.slot_octets.new.disk in
    part_kept (λ m. m.listed) mid (D.marks c.slot_octets-2.new.disk) 2 c.slot_octets-2.ensures.reads.other_marks
    c.slot_octets-2.ensures.reads.listed n
    ∙ part_kept (λ m. m.listed) (D.marks c.args.disk.now) mid 1 c.slot_octets.ensures.reads.other_marks
    c.slot_octets.ensures.reads.listed n

pub returns-clause-listed : goal.returns-clause-listed
returns-clause-listed g c n =
    let D = g.D.Disk in
    let mid = D.marks c.slot_octets.new.disk in
    part_kept (λ m. m.listed) mid (D.marks c.slot_octets-2.new.disk) 2 c.slot_octets-2.ensures.reads.other_marks
    c.slot_octets-2.ensures.reads.listed n
    ∙ part_kept (λ m. m.listed) (D.marks c.args.disk.now) mid 1 c.slot_octets.ensures.reads.other_marks
    c.slot_octets.ensures.reads.listed n

pub returns-in_err-second-clause-other_marks : goal.returns-in_err-second-clause-other_marks
returns-in_err-second-clause-other_marks g c n one two = c.slot_octets-2.ensures.reads.other_marks n two
    ∙ c.slot_octets.ensures.reads.other_marks n one

pub returns-in_err-second-clause-held : goal.returns-in_err-second-clause-held
returns-in_err-second-clause-held g c h n = c.slot_octets-2.ensures.reads.held
    (subst IsTrue (sym c.slot_octets.ensures.reads.honest) h) n
    ∙ c.slot_octets.ensures.reads.held h n

pub returns-clause-other_marks : goal.returns-clause-other_marks
returns-clause-other_marks g c n one two = c.slot_octets-2.ensures.reads.other_marks n two
    ∙ c.slot_octets.ensures.reads.other_marks n one

pub returns-clause-held : goal.returns-clause-held
returns-clause-held g c h n = c.slot_octets-2.ensures.reads.held
    (subst IsTrue (sym c.slot_octets.ensures.reads.honest) h) n
    ∙ c.slot_octets.ensures.reads.held h n

pub returns-in_err-second-clause-any_moment : goal.returns-in_err-second-clause-any_moment
returns-in_err-second-clause-any_moment g c h =
    let D = g.D.Disk in
    let d = c.args.disk.now in
    let mid = c.slot_octets.new.disk in
    let new = c.slot_octets-2.new.disk in
    let h1 = subst IsTrue (sym c.slot_octets.ensures.reads.honest) h in
    let stays = c.slot_octets.ensures.reads.held h in
    one_run D d mid new (IsDiskImage (D.held d)) (c.slot_octets.ensures.any_moment h)
    (by D mid new (IsDiskImage (D.held mid)) (IsDiskImage (D.held d))
    (c.slot_octets-2.ensures.any_moment h1)
    (λ image is n. subst (λ (f : Held). IsImage f (image n)) (stays n) (is n)))

pub returns-clause-any_moment : goal.returns-clause-any_moment
returns-clause-any_moment g c h =
    let D = g.D.Disk in
    let d = c.args.disk.now in
    let mid = c.slot_octets.new.disk in
    let new = c.slot_octets-2.new.disk in
    let h1 = subst IsTrue (sym c.slot_octets.ensures.reads.honest) h in
    let stays = c.slot_octets.ensures.reads.held h in
    one_run D d mid new (IsDiskImage (D.held d)) (c.slot_octets.ensures.any_moment h)
    (by D mid new (IsDiskImage (D.held mid)) (IsDiskImage (D.held d))
    (c.slot_octets-2.ensures.any_moment h1)
    (λ image is n. subst (λ (f : Held). IsImage f (image n)) (stays n) (is n)))

pub returns-clause-found : goal.returns-clause-found
returns-clause-found g c h =
    let D = g.D.Disk in
    let d = c.args.disk.now in
    let mid = c.slot_octets.new.disk in
    let h1 = subst IsTrue (sym c.slot_octets.ensures.reads.honest) h in
    let one : take enough (D.held d 1).reads ≡ c.deref.result.now =
    sym (c.deref.ensures.value ∙ c.in_ok-first.ensures.octets h) in
    let two : take enough (D.held d 2).reads ≡ c.deref-2.result.now =
    sym (c.deref-2.ensures.value ∙ c.in_ok-second.ensures.octets h1
    ∙ ap (λ (f : Held). take enough f.reads) (c.slot_octets.ensures.reads.held h 2)) in
    if_ok_by c.slots_of.result _ (λ slots. AreSlots slots (reads_of (D.held d)))
    (λ slots are. slots_whole slots (reads_of (D.held d)) (are (λ n. take enough (D.held d n).reads) one two))
    c.slots_of.ensures.found

pub returns-clause-in_force : goal.returns-clause-in_force
returns-clause-in_force g c h settled_1 settled_2 =
    let D = g.D.Disk in
    let d = c.args.disk.now in
    let mid = c.slot_octets.new.disk in
    let new = c.slot_octets-2.new.disk in
    let h1 = subst IsTrue (sym c.slot_octets.ensures.reads.honest) h in
    let one : take enough (D.held d 1).reads ≡ c.deref.result.now =
    sym (c.deref.ensures.value ∙ c.in_ok-first.ensures.octets h) in
    let two : take enough (D.held d 2).reads ≡ c.deref-2.result.now =
    sym (c.deref-2.ensures.value ∙ c.in_ok-second.ensures.octets h1
    ∙ ap (λ (f : Held). take enough f.reads) (c.slot_octets.ensures.reads.held h 2)) in
    let same : (n : ℕ) → D.held new n ≡ D.held d n = λ n. c.slot_octets-2.ensures.reads.held h1 n
    ∙ c.slot_octets.ensures.reads.held h n in
    let read : (image : ℕ → List ℕ) → IsDiskImage (D.held new) image → (slot : Slot)
    → image (file_of slot) ≡ (D.held d (file_of slot)).reads = λ image is.
    each_slot (λ n. image n ≡ (D.held d n).reads)
    (g.met.D.Disk.settled_alone d 1 (image 1) h settled_1 (subst (λ (f : Held). IsImage f (image 1)) (same 1) (is 1)))
    (g.met.D.Disk.settled_alone d 2 (image 2) h settled_2 (subst (λ (f : Held). IsImage f (image 2)) (same 2) (is 2)))
    in
    if_ok_by c.slots_of.result _ (λ slots. AllImages (D.held new) (λ image. IsInForce image slots.current))
    (λ slots are image is. (
      slots,
      refl,
      same_slots slots (reads_of (D.held d)) image
          (slots_whole slots (reads_of (D.held d)) (are (λ n. take enough (D.held d n).reads) one two))
          (read image is slots.current_slot) (read image is (other slots.current_slot)),
    ))
    c.slots_of.ensures.found

pub returns-clause-fault : goal.returns-clause-fault
returns-clause-fault g c h =
    let D = g.D.Disk in
    let d = c.args.disk.now in
    let h1 = subst IsTrue (sym c.slot_octets.ensures.reads.honest) h in
    let one : take enough (D.held d 1).reads ≡ c.deref.result.now =
    sym (c.deref.ensures.value ∙ c.in_ok-first.ensures.octets h) in
    let two : take enough (D.held d 2).reads ≡ c.deref-2.result.now =
    sym (c.deref-2.ensures.value ∙ c.in_ok-second.ensures.octets h1
    ∙ ap (λ (f : Held). take enough f.reads) (c.slot_octets.ensures.reads.held h 2)) in
    if_err_by c.slots_of.result _ (λ e. (e ≡ opening.OutOfMemory) ⊎ (e ≡ opening.Fault)
    ⊎ IsOpenFault (reads_of (D.held d)) e)
    (λ e told. ⊎_elim (λ memory. inl memory)
    (λ fault. inr (inr (open_fault_whole (reads_of (D.held d)) e
    (fault (λ n. take enough (D.held d n).reads) one two)))) told) c.slots_of.ensures.fault

pub returns-clause-cause : goal.returns-clause-cause
returns-clause-cause g c =
    let same : g.D.Disk.faults c.slot_octets-2.new.disk ≡ g.D.Disk.faults c.args.disk.now =
    c.in_ok-second.ensures.cause.done ∙ c.in_ok-first.ensures.cause.done in
    quiet (g.D.Disk.faults c.args.disk.now)
    (g.D.Disk.faults c.slot_octets-2.new.disk) c.slots_of.result same c.slots_of.ensures.device

pub returns-clause-valid : goal.returns-clause-valid
returns-clause-valid g c =
    if_ok_by c.slots_of.result _ (λ slots. IsValidManifest slots.current)
    (λ slots are. let told = are (λ n. if n == 1 then c.deref.result.now else c.deref-2.result.now) refl refl in
    (told.current).body.valid)
    c.slots_of.ensures.found

pub returns-clause-names : goal.returns-clause-names
returns-clause-names g c =
    if_err_by c.slots_of.result _ NamesSlot
    (λ e told. ⊎_elim (λ memory. subst NamesSlot (sym memory) tt) (λ fault. let image : ℕ → List ℕ = λ n. if n ==
    1 then c.deref.result.now else c.deref-2.result.now in open_fault_named image e (fault image refl refl)) told)
    c.slots_of.ensures.fault
