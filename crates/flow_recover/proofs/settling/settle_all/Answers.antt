use Rattle.std.proofs.Common.{◌≡◌, ◌≢◌, ◌⊎◌, inl, inr, ⊎_elim, ℕ, IsTrue, List, Err, refl, sym, ◌∙◌, ap, subst}
use Rattle.std.proofs.Common.{true}
use Rattle.std.specs.Prelude.{IsErrOf}
use Rattle.std.specs.List.{AllByRecursion}
use Rattle.flow_disk.specs.Disk.{Held, IsImage, IsDiskImage}
use Rattle.flow_disk.proofs.Moments.{by, one_run}
use Rattle.flow_manifest.specs.declared.manifest.Entry.{Entry}
use Rattle.flow_manifest.specs.declared.slots.Slot.{Slot}
use Rattle.flow_manifest.specs.Slots.{file_of, other, reads_of}
use Rattle.flow_disk.proofs.Results.{passed_on}
use Rattle.flow_disk.specs.declared.error.DiskError.{DiskError}
use Rattle.flow_disk.specs.declared.error.DiskError.TheVariants as disk
use Rattle.flow_manifest.specs.declared.error.OpenError.{OpenError}
use Rattle.flow_manifest.specs.declared.error.OpenError.TheVariants.{Fault}
use Rattle.flow_recover.specs.Opening.{IsDeviceOrMemory, StandsForNone}
use Rattle.flow_manifest.specs.Opening.{told, IsOpenFault}
use Rattle.flow_manifest.proofs.OneInForce.{never_in_force}
use Rattle.flow_manifest.proofs.Swaps.{same_slots}
use Rattle.flow_manifest.specs.declared.error.OpenError.TheVariants as slot
use Rattle.flow_recover.proofs.Recovering.{named_all, same_reads}
use Rattle.flow_recover.proofs.settling.settle_all.Goals as goal

-- a refusal of the slots
slots_told : (reads : ℕ → List ℕ) (e : OpenError) → (e ≡ slot.OutOfMemory) ⊎ (e ≡ slot.Fault) ⊎ IsOpenFault reads e
    → IsDeviceOrMemory e ⊎ StandsForNone reads
slots_told reads e why = ⊎_elim (λ memory. inl (inr memory)) (λ o. ⊎_elim (λ device. inl (inl
    device))
    (λ fault. inr (λ s stands. never_in_force reads s.manifest e stands.force fault)) o) why

pub returns-in_err-slots-clause-any_moment : goal.returns-in_err-slots-clause-any_moment
returns-in_err-slots-clause-any_moment g c h =
    let D = g.D.Disk in
    let d0 = c.args.disk.now in
    let d1 = c.settle_slots.new.disk in
    let d2 = c.read_slots.new.disk in
    let P = IsDiskImage (D.held d0) in
    let h1 = subst IsTrue (sym c.settle_slots.ensures.honest) h in
    let same = c.read_slots.ensures.held h1 in
    let run2 = one_run D d0 d1 d2 P (c.settle_slots.ensures.any_moment h)
    (by D d1 d2 (IsDiskImage (D.held d1)) P (c.read_slots.ensures.any_moment h1)
    (c.settle_slots.ensures.narrows h)) in
    run2

pub returns-in_err-slots-clause-told : goal.returns-in_err-slots-clause-told
returns-in_err-slots-clause-told g c h =
    let D = g.D.Disk in
    let d0 = c.args.disk.now in
    let d1 = c.settle_slots.new.disk in
    let h1 = subst IsTrue (sym c.settle_slots.ensures.honest) h in
    let same = c.in_ok-settle_slots.ensures.reads h in
    passed_on c.from_residual-in_err-slots.result (c.in_err-slots.field-0).0 (λ e. IsDeviceOrMemory e
    ⊎ StandsForNone (reads_of (D.held d0))) c.from_residual-in_err-slots.ensures.1
    (⊎_elim (λ memory. inl memory) (λ none. inr (λ s stands. none s (same_reads s (reads_of (D.held d0)) (reads_of
    (D.held d1)) same stands)))
    (slots_told (reads_of (D.held d1)) (c.in_err-slots.field-0).0 (c.in_err-slots.ensures.fault h1)))

pub returns-in_err-settle_entries-clause-any_moment : goal.returns-in_err-settle_entries-clause-any_moment
returns-in_err-settle_entries-clause-any_moment g c h =
    let D = g.D.Disk in
    let d0 = c.args.disk.now in
    let d1 = c.settle_slots.new.disk in
    let d2 = c.read_slots.new.disk in
    let P = IsDiskImage (D.held d0) in
    let h1 = subst IsTrue (sym c.settle_slots.ensures.honest) h in
    let same = c.read_slots.ensures.held h1 in
    let run2 = one_run D d0 d1 d2 P (c.settle_slots.ensures.any_moment h)
    (by D d1 d2 (IsDiskImage (D.held d1)) P (c.read_slots.ensures.any_moment h1)
    (c.settle_slots.ensures.narrows h)) in
    let h2 = subst IsTrue (sym c.read_slots.ensures.honest) h1 in
    let d3 = c.settle_entries.new.disk in
    let back : (image : ℕ → List ℕ) → IsDiskImage (D.held d2) image
    → P image = λ image is. c.settle_slots.ensures.narrows h image (λ n. subst (λ (f : Held). IsImage f (image n))
    (same n) (is n)) in
    let run3 = one_run D d0 d2 d3 P run2 (by D d2 d3 (IsDiskImage
    (D.held d2)) P (c.settle_entries.ensures.any_moment h2) back) in
    run3

pub returns-clause-any_moment : goal.returns-clause-any_moment
returns-clause-any_moment g c h =
    let D = g.D.Disk in
    let d0 = c.args.disk.now in
    let d1 = c.settle_slots.new.disk in
    let d2 = c.read_slots.new.disk in
    let P = IsDiskImage (D.held d0) in
    let h1 = subst IsTrue (sym c.settle_slots.ensures.honest) h in
    let same = c.read_slots.ensures.held h1 in
    let run2 = one_run D d0 d1 d2 P (c.settle_slots.ensures.any_moment h)
    (by D d1 d2 (IsDiskImage (D.held d1)) P (c.read_slots.ensures.any_moment h1)
    (c.settle_slots.ensures.narrows h)) in
    let h2 = subst IsTrue (sym c.read_slots.ensures.honest) h1 in
    let d3 = c.settle_entries.new.disk in
    let back : (image : ℕ → List ℕ) → IsDiskImage (D.held d2) image
    → P image = λ image is. c.settle_slots.ensures.narrows h image (λ n. subst (λ (f : Held). IsImage f (image n))
    (same n) (is n)) in
    let run3 = one_run D d0 d2 d3 P run2 (by D d2 d3 (IsDiskImage
    (D.held d2)) P (c.settle_entries.ensures.any_moment h2) back) in
    run3

pub returns-clause-settled : goal.returns-clause-settled
returns-clause-settled g c =
    let D = g.D.Disk in
    subst (AllByRecursion (λ (e : Entry).
    (D.marks c.settle_entries.new.disk e.file).settled ≡ true)) c.as_slice.ensures
    c.in_ok-settle_entries.ensures.settled

pub returns-clause-found : goal.returns-clause-found
returns-clause-found g c h =
    let D = g.D.Disk in
    let d1 = c.settle_slots.new.disk in
    let d2 = c.read_slots.new.disk in
    let d3 = c.settle_entries.new.disk in
    let h1 = subst IsTrue (sym c.settle_slots.ensures.honest) h in
    let h2 = subst IsTrue (sym c.read_slots.ensures.honest) h1 in
    let h3 = subst IsTrue (sym c.settle_entries.ensures.honest) h2 in
    let same = c.read_slots.ensures.held h1 in
    let slots = c.in_ok-slots.slots in
    let is = c.settle_entries.ensures.narrows h2 (λ n. (D.held d3 n).reads) (λ n. g.met.D.Disk.reads_image d3 n h3) in
    let read : (slot : Slot) → (D.held d3 (file_of slot)).reads ≡ (D.held d1 (file_of slot)).reads = λ slot.
    g.met.D.Disk.settled_alone d2 (file_of slot) (D.held d3 (file_of slot)).reads h2 (c.read_slots.ensures.settled
    (file_of slot) ∙ c.in_ok-settle_slots.ensures.settled slot) (is (file_of slot))
    ∙ ap (λ (f : Held). f.reads) (same (file_of slot)) in
    same_slots slots (reads_of (D.held d1)) (reads_of (D.held d3)) (c.in_ok-slots.ensures.found h1)
    (read slots.current_slot) (read (other slots.current_slot))

-- a call that takes no memory is refused for a fault alone
is_fault : {T : Type 0} (e : DiskError) → (IsErrOf {T = T} (Err e) disk.OutOfMemory → ⊥) → told e ≡ Fault
is_fault disk.Fault memory = refl
is_fault disk.OutOfMemory memory = absurd (memory refl)

pub returns-in_err-settle_slots-clause-kept : goal.returns-in_err-settle_slots-clause-kept
returns-in_err-settle_slots-clause-kept g c h =
    let D = g.D.Disk in
    passed_on c.from_residual.result (told (c.in_err-settle_slots.field-0).0) (λ (e : OpenError). e ≢ Fault
    → (n : ℕ) → (D.held c.settle_slots.new.disk n).reads ≡ (D.held c.args.disk.now n).reads) c.from_residual.ensures.1
    (λ other. absurd (other (is_fault (c.in_err-settle_slots.field-0).0 c.in_err-settle_slots.ensures.cause.memory)))

pub returns-in_err-slots-clause-kept : goal.returns-in_err-slots-clause-kept
returns-in_err-slots-clause-kept g c h =
    let D = g.D.Disk in
    let h1 = subst IsTrue (sym c.settle_slots.ensures.honest) h in
    passed_on c.from_residual-in_err-slots.result (c.in_err-slots.field-0).0 (λ (e : OpenError). e ≢ Fault
    → (n : ℕ) → (D.held c.read_slots.new.disk n).reads ≡ (D.held c.args.disk.now n).reads)
    c.from_residual-in_err-slots.ensures.1
    (λ other n. ap (λ (f : Held). f.reads) (c.read_slots.ensures.held h1 n)
    ∙ c.in_ok-settle_slots.ensures.reads h n)

pub returns-in_err-settle_entries-clause-kept : goal.returns-in_err-settle_entries-clause-kept
returns-in_err-settle_entries-clause-kept g c h =
    let D = g.D.Disk in
    passed_on c.from_residual-in_err-settle_entries.result (told (c.in_err-settle_entries.field-0).0) (λ
    (e : OpenError). e ≢ Fault → (n : ℕ) → (D.held c.settle_entries.new.disk n).reads ≡ (D.held c.args.disk.now
    n).reads) c.from_residual-in_err-settle_entries.ensures.1
    (λ other. absurd (other (is_fault (c.in_err-settle_entries.field-0).0
    c.in_err-settle_entries.ensures.cause.memory)))

pub returns-clause-listed : goal.returns-clause-listed
returns-clause-listed g c =
    let D = g.D.Disk in
    let d3 = c.settle_entries.new.disk in
    let slot : (slot : Slot) → (D.marks d3 (file_of slot)).listed ≡ true = λ slot. c.in_ok-settle_entries.ensures.still
    (file_of slot) (c.read_slots.ensures.listed (file_of slot) ∙ c.in_ok-settle_slots.ensures.listed slot) in
    named_all c.in_ok-slots.slots.current (λ n. (D.marks d3 n).listed ≡ true) slot
    (subst (AllByRecursion (λ (e : Entry). (D.marks d3 e.file).listed ≡ true)) c.as_slice.ensures
    c.in_ok-settle_entries.ensures.listed)
