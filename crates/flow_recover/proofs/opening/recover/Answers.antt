use Rattle.std.proofs.Common.{◌≡◌, ◌⊎◌, inl, ℕ, Bool, true, IsTrue, List, [], ◌∷◌, length, map, refl, sym, ◌∙◌, ap}
use Rattle.std.specs.Prelude.{IsErrOf}
use Rattle.std.proofs.Common.{subst, arith, IsErrAnd, Result, Ok, Err}
use Rattle.flow_disk.specs.Cause.{HasCause, HasRisen}
use Rattle.flow_disk.specs.Disk.{AllImages, Held, IsDiskImage, IsImage, IsWithin, Marks}
use Rattle.flow_disk.proofs.Images.{image_here, with_image, with_image_is}
use Rattle.flow_disk.proofs.Moments.{one_run, by, now_all}
use Rattle.flow_disk.proofs.Results.{passed_on}
use Rattle.flow_manifest.proofs.EntryLists.{all_by}
use Rattle.flow_manifest.specs.declared.manifest.Entry.{Entry}
use Rattle.flow_manifest.specs.Following.{front_of}
use Rattle.flow_manifest.specs.Slots.{file_of, reads_of}
use Rattle.flow_model.specs.State.{Part, at_rest}
use Rattle.flow_recover.specs.Reading.{part_of}
use Rattle.flow_model.specs.Standing.{IsKnown, StandsForEither}
use Rattle.flow_manifest.specs.declared.error.OpenError.{OpenError}
use Rattle.flow_manifest.specs.declared.error.OpenError.TheVariants.{Fault}
use Rattle.flow_recover.specs.Kept.{AreFilesOf}
use Rattle.flow_recover.specs.Opening.{IsDeviceOrMemory, IsRead, StandsForNone, shut_at}
use Rattle.flow_recover.proofs.Recovering.{chosen, either_known, known_either}
use Rattle.flow_recover.proofs.opening.recover.Goals as goal

-- a refusal that is passed on, after a call that did not fail
told_on : {T U : Type 0} (old mid now : ℕ) (e : OpenError) (result : Result U OpenError) → mid ≡ old
    → HasCause {T = T} Fault mid now (Err e) → IsErrAnd result (λ x. x ≡ e) → HasCause Fault old now result
told_on old mid now e (Ok x) same cause is = absurd is
told_on {T} {U} old mid now e (Err x) same cause is =
    subst (λ (y : OpenError). HasCause {T = U} Fault old now (Err y)) (sym is) (record {
      later = omega (arith, cause.later, same);
      done = tt;
      risen = λ f.
          let fault : e ≡ Fault = cc in
          let there : ◌≡◌ {A = Result T OpenError} (Err e) (Err Fault) = cc in
          subst (λ (n : ℕ). HasRisen n now) same (cause.risen there);
      other = λ differs. cause.other differs ∙ same;
    })

-- a fault that is passed on is answered
answered : {U : Type 0} (e : OpenError) (result : Result U OpenError) → IsErrAnd result (λ x. x ≡ e) → e ≡ Fault
    → IsErrOf result Fault
answered e (Ok x) is fault = absurd is
answered e (Err x) is fault = ap Err (is ∙ fault)

-- where each image of a disk is one of another disk, so is each of one file
within : (old new : ℕ → Held) (file : ℕ) → IsDiskImage new (reads_of new) → AllImages new (IsDiskImage old)
    → IsWithin (new file) (old file)
within old new file now narrows octets is = subst (IsImage (old file)) (image_here (reads_of new) file octets)
    (narrows (with_image (reads_of new) file octets) (with_image_is new (reads_of new) file octets is (λ n differs.
    now n)) file)

pub returns-in_err-slots-clause-slots : goal.returns-in_err-slots-clause-slots
returns-in_err-slots-clause-slots g c h slot =
    let D = g.D.Disk in
    let d1 = c.find.new.disk in
    let h1 = subst IsTrue (sym c.find.ensures.honest) h in
    within (D.held c.args.disk.now) (D.held d1) (file_of slot) (λ n. g.met.D.Disk.reads_image d1 n h1)
    (c.find.ensures.narrows h)

pub returns-in_err-parts-clause-slots : goal.returns-in_err-parts-clause-slots
returns-in_err-parts-clause-slots g c h slot =
    let D = g.D.Disk in
    let d1 = c.find.new.disk in
    let h1 = subst IsTrue (sym c.find.ensures.honest) h in
    subst (λ (f : Held). IsWithin f (D.held c.args.disk.now (file_of slot))) (sym (c.tidy.ensures.slots h1 slot))
    (within (D.held c.args.disk.now) (D.held d1) (file_of slot) (λ n. g.met.D.Disk.reads_image d1 n h1)
    (c.find.ensures.narrows h))

pub returns-clause-slots : goal.returns-clause-slots
returns-clause-slots g c h slot =
    let D = g.D.Disk in
    let d1 = c.find.new.disk in
    let h1 = subst IsTrue (sym c.find.ensures.honest) h in
    subst (λ (f : Held). IsWithin f (D.held c.args.disk.now (file_of slot))) (sym (c.tidy.ensures.slots h1 slot))
    (within (D.held c.args.disk.now) (D.held d1) (file_of slot) (λ n. g.met.D.Disk.reads_image d1 n h1)
    (c.find.ensures.narrows h))

pub returns-in_err-slots-clause-kept : goal.returns-in_err-slots-clause-kept
returns-in_err-slots-clause-kept g c h sound slot =
    c.in_err-slots.ensures.kept h (λ fault. sound (answered (c.in_err-slots.field-0).0 c.from_residual.result
    c.from_residual.ensures.1 fault)) (file_of slot)

pub returns-in_err-parts-clause-kept : goal.returns-in_err-parts-clause-kept
returns-in_err-parts-clause-kept g c h sound slot =
    let h1 = subst IsTrue (sym c.find.ensures.honest) h in
    ap (λ (f : Held). f.reads) (c.tidy.ensures.slots h1 slot) ∙ c.in_ok-slots.ensures.reads h (file_of slot)

pub returns-clause-kept : goal.returns-clause-kept
returns-clause-kept g c h sound slot =
    let h1 = subst IsTrue (sym c.find.ensures.honest) h in
    ap (λ (f : Held). f.reads) (c.tidy.ensures.slots h1 slot) ∙ c.in_ok-slots.ensures.reads h (file_of slot)

pub returns-in_err-slots-clause-unchanged : goal.returns-in_err-slots-clause-unchanged
returns-in_err-slots-clause-unchanged g c h =
    let D = g.D.Disk in
    let error = (c.in_err-slots.field-0).0 in
    passed_on c.from_residual.result error
    (λ e. (IsDeviceOrMemory e → ⊥) → (n : ℕ) → (D.held c.find.new.disk n).reads ≡ (D.held c.args.disk.now n).reads)
    c.from_residual.ensures.1 (λ other. c.in_err-slots.ensures.kept h (λ fault. other (inl fault)))

pub returns-in_err-parts-clause-unchanged : goal.returns-in_err-parts-clause-unchanged
returns-in_err-parts-clause-unchanged g c h =
    let D = g.D.Disk in
    let h1 = subst IsTrue (sym c.find.ensures.honest) h in
    let slots = c.in_ok-slots.field-0.slots in
    let read = c.in_ok-slots.ensures.read h in
    let s = at_rest slots.current read.0 (part_of c.in_ok-slots.field-0.files.active) in
    let counted = c.in_ok-slots.ensures.counted read.0 in
    passed_on c.from_residual-in_err-parts.result (c.in_err-parts.field-0).0
    (λ e. (IsDeviceOrMemory e → ⊥) → (n : ℕ) → (D.held c.tidy.new.disk n).reads ≡ (D.held c.args.disk.now n).reads)
    c.from_residual-in_err-parts.ensures.1
    (λ other. absurd (other (c.in_err-parts.ensures.refused h1 slots s refl (sym counted.end_is) read.1.known)))

pub returns-clause-removed : goal.returns-clause-removed
returns-clause-removed g c h = c.in_ok-parts.ensures.removed (subst IsTrue (sym c.find.ensures.honest) h)

pub returns-in_err-parts-clause-cause : goal.returns-in_err-parts-clause-cause
returns-in_err-parts-clause-cause g c =
    let D = g.D.Disk in
    told_on (D.faults c.args.disk.now) (D.faults c.find.new.disk) (D.faults c.tidy.new.disk) (c.in_err-parts.field-0).0
    c.from_residual-in_err-parts.result c.in_ok-slots.ensures.cause.done c.in_err-parts.ensures.cause
    c.from_residual-in_err-parts.ensures.1

pub returns-in_err-slots-clause-any_moment : goal.returns-in_err-slots-clause-any_moment
returns-in_err-slots-clause-any_moment g c h a b all =
    let D = g.D.Disk in
    let d0 = c.args.disk.now in
    by D d0 c.find.new.disk (IsDiskImage (D.held d0)) (StandsForEither a b)
    (c.find.ensures.any_moment h) all

pub returns-in_err-parts-clause-told : goal.returns-in_err-parts-clause-told
returns-in_err-parts-clause-told g c h =
    let D = g.D.Disk in
    let d0 = c.args.disk.now in
    let d1 = c.find.new.disk in
    let h1 = subst IsTrue (sym c.find.ensures.honest) h in
    let slots = c.in_ok-slots.field-0.slots in
    let active = part_of c.in_ok-slots.field-0.files.active in
    let read = c.in_ok-slots.ensures.read h in
    let s = at_rest slots.current read.0 active in
    let counted = c.in_ok-slots.ensures.counted read.0 in
    passed_on c.from_residual-in_err-parts.result (c.in_err-parts.field-0).0 (λ e. IsDeviceOrMemory e ⊎ StandsForNone
    (reads_of (D.held d0))) c.from_residual-in_err-parts.ensures.1
    (inl (c.in_err-parts.ensures.refused h1 slots s refl (sym counted.end_is) read.1.known))

pub returns-in_err-parts-clause-any_moment : goal.returns-in_err-parts-clause-any_moment
returns-in_err-parts-clause-any_moment g c h a b all =
    let D = g.D.Disk in
    let d0 = c.args.disk.now in
    let d1 = c.find.new.disk in
    let d2 = c.tidy.new.disk in
    let P = StandsForEither a b in
    let h1 = subst IsTrue (sym c.find.ensures.honest) h in
    let slots = c.in_ok-slots.field-0.slots in
    let read = c.in_ok-slots.ensures.read h in
    let s = at_rest slots.current read.0 (part_of c.in_ok-slots.field-0.files.active) in
    let counted = c.in_ok-slots.ensures.counted read.0 in
    let first = by D d0 d1 (IsDiskImage (D.held d0)) P (c.find.ensures.any_moment h) all in
    let which = known_either (D.held d0) (D.held d1) slots a b s c.in_ok-slots.field-0.files.carry refl read.1
    (λ n. g.met.D.Disk.reads_image d1 n h1) (c.find.ensures.narrows h) all in
    one_run D d0 d1 d2 P first (by D d1 d2 (IsKnown slots s) P
    (c.tidy.ensures.any_moment h1 slots s refl (sym counted.end_is) read.1.known)
    (λ image known. either_known image slots a b s refl which known))

pub returns-clause-any_moment : goal.returns-clause-any_moment
returns-clause-any_moment g c h a b all =
    let D = g.D.Disk in
    let d0 = c.args.disk.now in
    let d1 = c.find.new.disk in
    let d2 = c.tidy.new.disk in
    let P = StandsForEither a b in
    let h1 = subst IsTrue (sym c.find.ensures.honest) h in
    let slots = c.in_ok-slots.field-0.slots in
    let read = c.in_ok-slots.ensures.read h in
    let s = at_rest slots.current read.0 (part_of c.in_ok-slots.field-0.files.active) in
    let counted = c.in_ok-slots.ensures.counted read.0 in
    let first = by D d0 d1 (IsDiskImage (D.held d0)) P (c.find.ensures.any_moment h) all in
    let which = known_either (D.held d0) (D.held d1) slots a b s c.in_ok-slots.field-0.files.carry refl read.1
    (λ n. g.met.D.Disk.reads_image d1 n h1) (c.find.ensures.narrows h) all in
    one_run D d0 d1 d2 P first (by D d1 d2 (IsKnown slots s) P
    (c.tidy.ensures.any_moment h1 slots s refl (sym counted.end_is) read.1.known)
    (λ image known. either_known image slots a b s refl which known))

pub returns-clause-recovered : goal.returns-clause-recovered
returns-clause-recovered g c =
    let D = g.D.Disk in
    let d0 = c.args.disk.now in
    let d1 = c.find.new.disk in
    let d2 = c.tidy.new.disk in
    let slots = c.in_ok-slots.field-0.slots in
    let active = part_of c.in_ok-slots.field-0.files.active in
    let carry = c.in_ok-slots.field-0.files.carry in
    let P : List Part → Type 0 = λ parts. IsRead (D.held d1) (reads_of (D.held d0)) slots
    (at_rest slots.current parts active) carry in
    let parts = chosen (D.honest d0) P (λ h. c.in_ok-slots.ensures.read h) in
    let s = at_rest slots.current parts.0 active in
    let counted = c.in_ok-slots.ensures.counted parts.0 in
    let back : IsTrue (D.honest d2) → IsTrue (D.honest d1) = λ h2. subst IsTrue c.tidy.ensures.honest h2 in
    let is : IsTrue (D.honest d1) → IsRead (D.held d1) (reads_of (D.held d0)) slots s carry = λ h1. parts.1
    (subst IsTrue c.find.ensures.honest h1) in
    record {
      parts = parts.0;
      counted = counted;
      ready = c.in_ok-parts.ensures.ready;
      all = c.in_ok-parts.ensures.all;
      files = c.in_ok-parts.ensures.files;
      are_frozen = all_by (λ (e : Entry). D.marks d2 e.file ≡ shut_at e.length)
          (λ (e : Entry). (D.marks d2 e.file).frozen ≡ true) (λ e shut. ap (λ (m : Marks). m.frozen) shut)
          (front_of slots.current) c.in_ok-parts.ensures.shut;
      segment = c.in_ok-slots.ensures.segment;
      hands_on = λ h2. (is (back h2)).hands_on;
      read = λ h2. let there = is (back h2) in
          record { force = (slots, refl, there.slots_are); files = there.holds; at_rest = refl };
      known = λ h2. let h1 = back h2 in
          let run = c.tidy.ensures.any_moment h1 slots s refl (sym counted.end_is) (is h1).known in
          now_all D d1 d2 (IsKnown slots s) run (λ image left. g.met.D.Disk.counts_now d2
          (D.moment d1) image h2 run.later left);
      frozen_stand = λ h2. let h1 = back h2 in c.in_ok-parts.ensures.parts h1 slots s refl (is h1).known;
      spanned = λ h2. c.in_ok-slots.ensures.spanned (subst IsTrue c.find.ensures.honest (back h2));
    }

pub returns-clause-listed : goal.returns-clause-listed
returns-clause-listed g c n named = c.in_ok-parts.ensures.still n named (c.in_ok-slots.ensures.listed n named)

pub returns-clause-cut : goal.returns-clause-cut
returns-clause-cut g c =
    let D = g.D.Disk in
    let d2 = c.tidy.new.disk in
    record {
      parts = all_by (λ (e : Entry). D.marks d2 e.file ≡ shut_at e.length)
          (λ (e : Entry). (D.marks d2 e.file).size ≡ e.length) (λ e shut. ap (λ (m : Marks). m.size) shut)
          (front_of c.in_ok-slots.field-0.slots.current) c.in_ok-parts.ensures.shut;
      active = ap (λ (e : Entry). (D.marks d2 e.file).size) (sym c.in_ok-slots.ensures.active_entry)
          ∙ c.in_ok-parts.ensures.size;
    }

pub returns-clause-cut_images : goal.returns-clause-cut_images
returns-clause-cut_images g c h image is =
    let D = g.D.Disk in
    let d2 = c.tidy.new.disk in
    let h2 = subst IsTrue (sym (c.tidy.ensures.honest ∙ c.find.ensures.honest)) h in
    let long : (n : ℕ) → (D.marks d2 n).settled ≡ true → length (image n) ≡ (D.marks d2 n).size = λ n settled.
    ap length (g.met.D.Disk.settled_alone d2 n (image n) h2 settled (is n)) ∙ sym (g.met.D.Disk.has_size d2 n h2) in
    record {
      parts = all_by (λ (e : Entry). D.marks d2 e.file ≡ shut_at e.length)
          (λ (e : Entry). length (image e.file) ≡ e.length)
          (λ e shut. long e.file (ap (λ (m : Marks). m.settled) shut) ∙ ap (λ (m : Marks). m.size) shut)
          (front_of c.in_ok-slots.field-0.slots.current) c.in_ok-parts.ensures.shut;
      active = ap (λ (e : Entry). length (image e.file)) (sym c.in_ok-slots.ensures.active_entry)
          ∙ long c.in_ok-slots.field-0.active_entry.file c.in_ok-parts.ensures.ready.settled
          ∙ c.in_ok-parts.ensures.size;
    }

-- honest files have as many octets as their sizes say
lengths_are : {S : Type 0} (octets : S → List ℕ) (number size : S → ℕ) (is_honest : S → Bool) (honest : Bool)
    → ((file : S) → IsTrue (is_honest file) → length (octets file) ≡ size file) → IsTrue honest
    → (entries : List Entry) (files : List S) → AreFilesOf number size is_honest honest entries files
    → map (λ file. length (octets file)) files ≡ map size files
lengths_are octets number size is_honest honest whole h [] [] are = refl
lengths_are octets number size is_honest honest whole h [] (x ∷ files) are = absurd are
lengths_are octets number size is_honest honest whole h (e ∷ entries) [] are = absurd are
lengths_are octets number size is_honest honest whole h (e ∷ entries) (x ∷ files) are =
    let one : length (octets x) ≡ size x = whole x (subst IsTrue (sym are.0.honest_is) h) in
    ap (λ (n : ℕ). n ∷ map (λ file. length (octets file)) files) one
    ∙ ap (λ (l : List ℕ). size x ∷ l) (lengths_are octets number size is_honest honest whole h entries files are.1)

pub returns-clause-lengths : goal.returns-clause-lengths
returns-clause-lengths g c h =
    let S = g.D.Sealed.SealedFile in
    let h2 = subst IsTrue (sym (c.tidy.ensures.honest ∙ c.find.ensures.honest)) h in
    lengths_are S.octets S.number S.size S.honest (g.D.Disk.honest c.tidy.new.disk) g.met.D.Sealed.SealedFile.whole h2
    (front_of c.in_ok-slots.field-0.slots.current) c.in_ok-parts.parts.items c.in_ok-parts.ensures.files
    ∙ c.in_ok-parts.ensures.sizes
