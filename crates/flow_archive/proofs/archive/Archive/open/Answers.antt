use Rattle.std.proofs.Common.{◌≡◌, ◌⊎◌, inl, inr, ⊎_elim, ℕ, true, false, IsTrue, IfOk, IfErr, length, refl, sym, ◌∙◌}
use Rattle.std.proofs.Common.{ap, subst, arith}
use Rattle.std.specs.Prelude.{Result, Ok, Err}
use Rattle.flow_disk.specs.Disk.{AllImages, IsWithin}
use Rattle.flow_disk.specs.Calls.{LeavesOnly}
use Rattle.flow_disk.specs.Cause.{HasCause}
use Rattle.flow_manifest.specs.declared.manifest.Manifest.{Manifest}
use Rattle.flow_manifest.specs.Slots.{file_of, reads_of}
use Rattle.flow_recover.specs.Opening.{AreCutTo}
use Rattle.flow_model.specs.State.{end_of}
use Rattle.flow_model.specs.Standing.{is_file_of, StandsFor, StandsForEither}
use Rattle.flow_manifest.specs.declared.error.OpenError.TheVariants as refusal
use Rattle.flow_manifest.specs.declared.error.OpenError.{OpenError}
use Rattle.flow_archive.specs.declared.refusal.Refused.{Refused}
use Rattle.flow_archive.specs.Seen.{Seen}
use Rattle.flow_recover.proofs.Recovering.{one_state}
use Rattle.flow_archive.specs.Beginning.{answer_of, disk_of}
use Rattle.flow_archive.proofs.archive.Archive.open.Goals as goal

if_ok : {X E : Type 0} (r : Result X E) (P Q : X → Type 0) → ((x : X) → P x → Q x) → IfOk r P → IfOk r Q
if_ok (Ok x) P Q f h = f x h
if_ok (Err e) P Q f h = tt

if_err : {X E : Type 0} (r : Result X E) (P Q : E → Type 0) → ((e : E) → P e → Q e) → IfErr r P → IfErr r Q
if_err (Ok x) P Q f h = tt
if_err (Err e) P Q f h = f e h

only_memory : {D : Type 0} (n : ℕ) (r : Result (Seen D) (Refused D OpenError))
    → IfErr r (λ x. x.error ≡ refusal.OutOfMemory) → HasCause refusal.Fault n n (answer_of r)
only_memory n (Ok a) h = record { later = omega arith; done = refl; risen = λ is. absurd (cc); other = tt }
only_memory n (Err r) h = record { later = omega arith; done = tt; risen = λ is. absurd (cc); other = λ differs. refl }

-- what holds of the disk, the manifest and the end that were found holds of those of the archive
of_archive : {D : Type 0} (P : D → Manifest → ℕ → Type 0) (disk : D) (m : Manifest) (end : ℕ)
    (r : Result (Seen D) (Refused D OpenError)) → disk_of r ≡ disk
    → IfOk r (λ a. (a.state.manifest ≡ m) × (end_of a.state ≡ end)) → P disk m end
    → IfOk r (λ a. P a.disk a.state.manifest (end_of a.state))
of_archive P disk m end (Ok a) same is at =
    subst (λ x. P x a.state.manifest (end_of a.state)) (sym same)
    (subst (λ k. P disk k (end_of a.state)) (sym is.0) (subst (P disk m) (sym is.1) at))
of_archive P disk m end (Err r) same is at = tt

pub resumed-requires : goal.resumed-requires
resumed-requires g c = (reads_of (g.D.Disk.held c.args.disk), c.in-Ok.ensures.recovered)

pub returns-in-Ok-clause-read : goal.returns-in-Ok-clause-read
returns-in-Ok-clause-read g c h =
    let D = g.D.Disk in
    let h1 = subst IsTrue (sym c.recover.ensures.honest) h in
    c.resumed.ensures.read (reads_of (D.held c.args.disk)) c.in-Ok.ensures.recovered h1

pub returns-in-Ok-clause-stands : goal.returns-in-Ok-clause-stands
returns-in-Ok-clause-stands g c h = c.resumed.ensures.stands (subst IsTrue (sym c.recover.ensures.honest) h)

pub returns-in-Ok-clause-either : goal.returns-in-Ok-clause-either
returns-in-Ok-clause-either g c h s t all =
    let D = g.D.Disk in
    let d = c.args.disk in
    let reads = reads_of (D.held d) in
    if_ok c.resumed.result (λ a. StandsFor reads a.state) (λ a. (a.state ≡ s) ⊎ (a.state ≡ t))
    (λ a read. ⊎_elim (λ stands. inl (one_state reads a.state s read stands))
    (λ stands. inr (one_state reads a.state t read stands))
    (all reads (λ n. g.met.D.Disk.reads_image d n h)))
    (returns-in-Ok-clause-read g c h)

pub returns-in-Ok-clause-told : goal.returns-in-Ok-clause-told
returns-in-Ok-clause-told g c h = if_err c.resumed.result (λ r. r.error ≡ refusal.OutOfMemory) _
    (λ r is. inl (inr is)) c.resumed.ensures.refused

pub returns-in-Ok-clause-any_moment : goal.returns-in-Ok-clause-any_moment
returns-in-Ok-clause-any_moment g c h s t all =
    let D = g.D.Disk in
    subst (λ (x : g.row.D.Denot). LeavesOnly D c.args.disk x (StandsForEither s t))
    (sym c.resumed.ensures.disk) (c.recover.ensures.any_moment h s t all)

pub returns-in-Ok-clause-honest : goal.returns-in-Ok-clause-honest
returns-in-Ok-clause-honest g c = ap g.D.Disk.honest c.resumed.ensures.disk ∙ c.recover.ensures.honest

pub returns-in-Ok-clause-cause : goal.returns-in-Ok-clause-cause
returns-in-Ok-clause-cause g c =
    let D = g.D.Disk in
    let r = c.resumed.result in
    let same : D.faults (disk_of r) ≡ D.faults c.args.disk =
    ap D.faults c.resumed.ensures.disk ∙ c.in-Ok.ensures.cause.done in
    subst (λ (n : ℕ). HasCause refusal.Fault (D.faults c.args.disk) n (answer_of r)) (sym same)
    (only_memory (D.faults c.args.disk) r c.resumed.ensures.refused)

pub returns-in-Ok-clause-cut : goal.returns-in-Ok-clause-cut
returns-in-Ok-clause-cut g c =
    let D = g.D.Disk in
    let found = c.in-Ok.found in
    of_archive (λ disk m end. AreCutTo (λ n. (D.marks disk n).size) m end) c.recover.new.disk found.slots.current
    found.end c.resumed.result c.resumed.ensures.disk c.resumed.ensures.counted c.in-Ok.ensures.cut

pub returns-in-Ok-clause-cut_images : goal.returns-in-Ok-clause-cut_images
returns-in-Ok-clause-cut_images g c h =
    let D = g.D.Disk in
    let found = c.in-Ok.found in
    of_archive (λ disk m end. AllImages (D.held disk) (λ image. AreCutTo (λ n. length (image n)) m end))
    c.recover.new.disk found.slots.current found.end c.resumed.result c.resumed.ensures.disk c.resumed.ensures.counted
    (c.in-Ok.ensures.cut_images h)

pub returns-in-Ok-clause-listed : goal.returns-in-Ok-clause-listed
returns-in-Ok-clause-listed g c =
    let D = g.D.Disk in
    let found = c.in-Ok.found in
    of_archive (λ disk m end. (n : ℕ) → is_file_of m n ≡ true → (D.marks disk n).listed ≡ true) c.recover.new.disk
    found.slots.current found.end c.resumed.result c.resumed.ensures.disk c.resumed.ensures.counted
    c.in-Ok.ensures.listed

pub returns-in-Ok-clause-removed : goal.returns-in-Ok-clause-removed
returns-in-Ok-clause-removed g c h =
    let D = g.D.Disk in
    let found = c.in-Ok.found in
    of_archive (λ disk m end. (n : ℕ) → is_file_of m n ≡ false → (D.marks disk n).listed ≡ false) c.recover.new.disk
    found.slots.current found.end c.resumed.result c.resumed.ensures.disk c.resumed.ensures.counted
    (c.in-Ok.ensures.removed h)

pub returns-in-Ok-clause-slots : goal.returns-in-Ok-clause-slots
returns-in-Ok-clause-slots g c h slot =
    let D = g.D.Disk in
    subst (λ (x : g.row.D.Denot). IsWithin (D.held x (file_of slot)) (D.held c.args.disk (file_of slot)))
    (sym c.resumed.ensures.disk) (c.recover.ensures.slots h slot)

pub returns-in-Ok-clause-kept : goal.returns-in-Ok-clause-kept
returns-in-Ok-clause-kept g c h sound slot =
    let D = g.D.Disk in
    subst (λ (x : g.row.D.Denot). (D.held x (file_of slot)).reads ≡ (D.held c.args.disk (file_of slot)).reads)
    (sym c.resumed.ensures.disk) (c.recover.ensures.kept h (λ is. absurd (cc)) slot)

pub returns-in-Ok-clause-unchanged : goal.returns-in-Ok-clause-unchanged
returns-in-Ok-clause-unchanged g c h = if_err c.resumed.result (λ r. r.error ≡ refusal.OutOfMemory) _
    (λ r is. λ other. absurd (other (inr is))) c.resumed.ensures.refused
