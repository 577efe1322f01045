use Rattle.std.proofs.Common.{◌≡◌, ◌≢◌, ◌⊎◌, ℕ, ◌-◌, ◌≤◌, IsTrue, List, length, get_or, refl, sym}
use Rattle.std.proofs.Common.{◌∙◌, ap, subst, true}
use Rattle.flow_disk.specs.Disk.{Held, Marks, IsImage, IsDiskImage}
use Rattle.flow_disk.proofs.Moments.{one_run, by}
use Rattle.flow_disk.proofs.Results.{passed_on}
use Rattle.flow_manifest.specs.declared.manifest.Entry.{Entry}
use Rattle.flow_manifest.specs.Slots.{file_of, other, reads_of}
use Rattle.flow_manifest.specs.Following.{front_of, no_entry}
use Rattle.flow_manifest.proofs.EntryLists.{all_by}
use Rattle.flow_model.specs.State.{at_rest}
use Rattle.flow_recover.specs.Reading.{part_of}
use Rattle.flow_manifest.specs.declared.error.OpenError.{OpenError}
use Rattle.flow_manifest.specs.declared.error.OpenError.TheVariants.{Fault}
use Rattle.flow_recover.specs.Opening.{IsDeviceOrMemory, StandsForNone}
use Rattle.flow_model.proofs.Stand.{slot_below}
use Rattle.flow_recover.proofs.Recovering.{agreed, files_along, told_of_files}
use Rattle.flow_recover.proofs.Spanning.{spans_along}
use Rattle.flow_manifest.proofs.Swaps.{same_slots}
use Rattle.flow_recover.proofs.opening.find.Goals as goal

pub read_files-requires-clause-active_entry : goal.read_files-requires-clause-active_entry
read_files-requires-clause-active_entry g c = c.active_entry_of-active_entry.ensures ∙ ap (λ (l : List Entry). get_or l
    (length l - 1) no_entry) c.as_slice.ensures

pub returns-clause-active_entry : goal.returns-clause-active_entry
returns-clause-active_entry g c = c.active_entry_of-active_entry.ensures ∙ ap (λ (l : List Entry). get_or l
    (length l - 1) no_entry) c.as_slice.ensures

pub returns-clause-frozen : goal.returns-clause-frozen
returns-clause-frozen g c n = c.read_files.ensures.keeps.frozen n ∙ c.settle_all.ensures.frozen n

pub returns-in_err-files-clause-frozen : goal.returns-in_err-files-clause-frozen
returns-in_err-files-clause-frozen g c n = c.read_files.ensures.keeps.frozen n ∙ c.settle_all.ensures.frozen n

pub returns-clause-slots : goal.returns-clause-slots
returns-clause-slots g c slot =
    let same = c.read_files.ensures.keeps.slots (file_of slot) (slot_below slot) in
    let was = c.in_ok-slots.ensures.slots slot in
    (ap (λ (k : Marks). k.settled) same ∙ was.0, subst (λ (k : Marks). 1 ≤ k.size) (sym same) was.1)

pub returns-clause-settled : goal.returns-clause-settled
returns-clause-settled g c =
    let D = g.D.Disk in
    let d1 = c.settle_all.new.disk in
    let d2 = c.read_files.new.disk in
    all_by (λ (e : Entry). (D.marks d1 e.file).settled ≡ true) (λ (e : Entry). (D.marks d2 e.file).settled ≡ true)
    (λ e was. c.read_files.ensures.keeps.settled e.file ∙ was)
    c.in_ok-slots.slots.current.entries c.in_ok-slots.ensures.settled

pub returns-clause-narrows : goal.returns-clause-narrows
returns-clause-narrows g c h image is =
    let h1 = subst IsTrue (sym c.settle_all.ensures.honest) h in
    let held = c.read_files.ensures.keeps.held h1 in
    c.settle_all.ensures.narrows h image (λ n. subst (λ (f : Held). IsImage f (image n)) (held n) (is n))

pub returns-in_err-files-clause-narrows : goal.returns-in_err-files-clause-narrows
returns-in_err-files-clause-narrows g c h image is =
    let h1 = subst IsTrue (sym c.settle_all.ensures.honest) h in
    let held = c.read_files.ensures.keeps.held h1 in
    c.settle_all.ensures.narrows h image (λ n. subst (λ (f : Held). IsImage f (image n)) (held n) (is n))

pub returns-clause-any_moment : goal.returns-clause-any_moment
returns-clause-any_moment g c h =
    let D = g.D.Disk in
    let d0 = c.args.disk.now in
    let d1 = c.settle_all.new.disk in
    let d2 = c.read_files.new.disk in
    let P = IsDiskImage (D.held d0) in
    let h1 = subst IsTrue (sym c.settle_all.ensures.honest) h in
    one_run D d0 d1 d2 P (c.settle_all.ensures.any_moment h) (by D d1 d2
    (IsDiskImage (D.held d1)) P (c.read_files.ensures.keeps.any_moment h1) (c.settle_all.ensures.narrows h))

pub returns-in_err-files-clause-any_moment : goal.returns-in_err-files-clause-any_moment
returns-in_err-files-clause-any_moment g c h =
    let D = g.D.Disk in
    let d0 = c.args.disk.now in
    let d1 = c.settle_all.new.disk in
    let d2 = c.read_files.new.disk in
    let P = IsDiskImage (D.held d0) in
    let h1 = subst IsTrue (sym c.settle_all.ensures.honest) h in
    one_run D d0 d1 d2 P (c.settle_all.ensures.any_moment h) (by D d1 d2
    (IsDiskImage (D.held d1)) P (c.read_files.ensures.keeps.any_moment h1) (c.settle_all.ensures.narrows h))

pub returns-in_err-files-clause-told : goal.returns-in_err-files-clause-told
returns-in_err-files-clause-told g c h =
    let D = g.D.Disk in
    let d0 = c.args.disk.now in
    let d1 = c.settle_all.new.disk in
    let h1 = subst IsTrue (sym c.settle_all.ensures.honest) h in
    passed_on c.from_residual-in_err-files.result (c.in_err-files.field-0).0 (λ e. IsDeviceOrMemory e ⊎ StandsForNone
    (reads_of (D.held d0))) c.from_residual-in_err-files.ensures.1
    (told_of_files c.in_ok-slots.slots (reads_of (D.held d0)) (reads_of (D.held d1)) (c.in_err-files.field-0).0
    (c.in_ok-slots.ensures.reads h) (c.in_ok-slots.ensures.found h) (c.in_err-files.ensures.refused h1))

pub returns-clause-read : goal.returns-clause-read
returns-clause-read g c h =
    let D = g.D.Disk in
    let d0 = c.args.disk.now in
    let d1 = c.settle_all.new.disk in
    let h1 = subst IsTrue (sym c.settle_all.ensures.honest) h in
    let slots = c.in_ok-slots.slots in
    let m = slots.current in
    let found = c.in_ok-files.ensures.found h1 in
    let held = c.read_files.ensures.keeps.held h1 in
    let s = at_rest m found.0 (part_of c.in_ok-files.files.active) in
    let same : (n : ℕ) → (D.held d0 n).reads ≡ (D.held d1 n).reads = λ n. sym (c.in_ok-slots.ensures.reads h n) in (
      found.0,
      record {
        slots_are = same_slots slots (reads_of (D.held d1)) (reads_of (D.held d0)) (c.in_ok-slots.ensures.found h)
            (same (file_of slots.current_slot)) (same (file_of (other slots.current_slot)));
        holds = files_along s (reads_of (D.held d1)) (reads_of (D.held d0)) same found.1;
        hands_on = found.2;
        known = λ image is.
            let was : IsDiskImage (D.held d1) image = λ n. subst (λ (f : Held). IsImage f (image n)) (held n) (is n) in
            agreed slots s (reads_of (D.held d1)) image (c.in_ok-slots.ensures.found h) refl found.1
            (λ slot. g.met.D.Disk.settled_alone d1 (file_of slot) (image (file_of slot)) h1
            (c.in_ok-slots.ensures.slots slot).0 (was (file_of slot)))
            (all_by (λ (e : Entry). (D.marks d1 e.file).settled ≡ true) (λ e. image e.file ≡ (D.held d1 e.file).reads)
            (λ e settled. g.met.D.Disk.settled_alone d1 e.file (image e.file) h1 settled
            (was e.file)) m.entries c.in_ok-slots.ensures.settled);
      },
    )

pub returns-in_err-slots-clause-kept : goal.returns-in_err-slots-clause-kept
returns-in_err-slots-clause-kept g c h =
    let D = g.D.Disk in
    passed_on c.from_residual.result (c.in_err-slots.field-0).0 (λ (e : OpenError). e ≢ Fault
    → (n : ℕ) → (D.held c.settle_all.new.disk n).reads ≡ (D.held c.args.disk.now n).reads) c.from_residual.ensures.1
    (c.in_err-slots.ensures.kept h)

pub returns-in_err-files-clause-kept : goal.returns-in_err-files-clause-kept
returns-in_err-files-clause-kept g c h =
    let D = g.D.Disk in
    let h1 = subst IsTrue (sym c.settle_all.ensures.honest) h in
    passed_on c.from_residual-in_err-files.result (c.in_err-files.field-0).0 (λ (e : OpenError). e ≢ Fault
    → (n : ℕ) → (D.held c.read_files.new.disk n).reads ≡ (D.held c.args.disk.now n).reads)
    c.from_residual-in_err-files.ensures.1
    (λ other n. ap (λ (f : Held). f.reads) (c.read_files.ensures.keeps.held h1 n) ∙ c.in_ok-slots.ensures.reads h n)

pub returns-clause-reads : goal.returns-clause-reads
returns-clause-reads g c h n =
    let h1 = subst IsTrue (sym c.settle_all.ensures.honest) h in
    ap (λ (f : Held). f.reads) (c.read_files.ensures.keeps.held h1 n) ∙ c.in_ok-slots.ensures.reads h n

pub returns-clause-listed : goal.returns-clause-listed
returns-clause-listed g c n named = c.read_files.ensures.keeps.listed n ∙ c.in_ok-slots.ensures.listed n named

pub returns-clause-spanned : goal.returns-clause-spanned
returns-clause-spanned g c h =
    let D = g.D.Disk in
    let h1 = subst IsTrue (sym c.settle_all.ensures.honest) h in
    let m = c.in_ok-slots.slots.current in
    spans_along (reads_of (D.held c.settle_all.new.disk)) (reads_of (D.held c.args.disk.now)) m
    (λ n. sym (c.in_ok-slots.ensures.reads h n)) (front_of m) c.in_ok-files.files.spans.items
    (c.in_ok-files.ensures.spanned h1)
