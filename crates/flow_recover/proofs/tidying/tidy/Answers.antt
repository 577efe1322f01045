use Rattle.std.proofs.Common.{◌≡◌, ◌≢◌, ◌⊎◌, inl, inr, ⊎_elim, ℕ, ◌-◌, ◌<◌, ◌≤◌, true, IsTrue, List, length}
use Rattle.std.proofs.Common.{take, sym, ◌∙◌, ap, map, subst, arith}
use Rattle.std.specs.List.{AllByRecursion}
use Rattle.std.proofs.lemmas.Bool.{cases_eq}
use Rattle.flow_disk.specs.Disk.{Marks, AllImages}
use Rattle.flow_disk.specs.Calls.{LeavesOnly}
use Rattle.flow_disk.proofs.Moments.{now_all, Reached, stopped}
use Rattle.flow_manifest.specs.declared.manifest.Entry.{Entry}
use Rattle.flow_manifest.specs.declared.manifest.Manifest.{Manifest}
use Rattle.flow_manifest.specs.declared.slots.Slot.{Slot}
use Rattle.flow_manifest.specs.declared.slots.Slots.{Slots}
use Rattle.flow_manifest.specs.Manifest.{IsValidManifest, HaveOwnFiles, IsEntry}
use Rattle.flow_manifest.specs.Slots.{file_of, reads_of}
use Rattle.flow_disk.proofs.Results.{passed_on}
use Rattle.flow_model.specs.State.{State, end_of}
use Rattle.flow_model.specs.Standing.{IsKnown, is_file_of}
use Rattle.flow_manifest.specs.Following.{active_of, front_of}
use Rattle.flow_recover.specs.Opening.{IsDeviceOrMemory, shut_at}
use Rattle.flow_manifest.proofs.EntryLists.{all_by, all_both, all_take}
use Rattle.flow_model.proofs.Stand.{all_last, slot_below}
use Rattle.flow_manifest.proofs.ValidEntries.{split, are_entries, IsOther}
use Rattle.flow_recover.proofs.Recovering.{removing, trimming, own_front, slot_named, parts_long, bool_cases, not_named}
use Rattle.flow_recover.proofs.Recovering.{active_named, entries_named}
use Rattle.flow_recover.proofs.tidying.tidy.Given.{Over}
use Rattle.flow_recover.proofs.tidying.tidy.Goals.{After-freeze_files, After-cut_file, After-remove_unnamed}
use Rattle.flow_recover.proofs.tidying.tidy.Goals as goal

-- ---- the entries of the manifest

front : {entries l : List Entry} → l ≡ entries → take (length l - 1) l ≡ take (length entries - 1) entries
front is = ap (λ (l : List Entry). take (length l - 1) l) is

-- what holds of each entry holds of those in front
each : {entries l : List Entry} (P : Entry → Type 0) → l ≡ entries → AllByRecursion P entries
    → AllByRecursion P (take (length l - 1) l)
each {entries} {l} P is all = all_take P (length l - 1) l (subst (AllByRecursion P) (sym is) all)

-- and of the last one
at_last : {m : Manifest} {active_entry : Entry} (P : Entry → Type 0) → IsValidManifest m → active_entry ≡ active_of m
    → AllByRecursion P m.entries → P active_entry
at_last {m} P valid is all =
    subst P (sym is) (all_last P (front_of m) (active_of m) (subst (AllByRecursion P) (split m valid) all))

-- no entry has a number outside of those of its manifest
outside : (m : Manifest) → IsValidManifest m → (n : ℕ) → (n < 3) ⊎ (m.next ≤ n)
    → AllByRecursion (λ (e : Entry). e.file ≢ n) m.entries
outside m valid n which = all_by (IsEntry m.limit m.next) (λ e. e.file ≢ n)
    (λ e one is. ⊎_elim (λ low. omega (arith, is, low, one.file_from))
    (λ high. omega (arith, is, high, one.file_below)) which) m.entries valid.each

-- ---- how far the calls came

still : (g : Over) {old new : g.row.D.Denot} {P : (ℕ → List ℕ) → Type 0} → IsTrue (g.D.Disk.honest new)
    → LeavesOnly g.D.Disk old new P → Reached g.D.Disk old new P P
still g h run = record {
  honest = h;
  run = run;
  here = now_all _ _ _ _ run (λ image is. g.met.D.Disk.counts_now _ _ image h run.later is);
}

module _ (g : Over) (c : After-freeze_files g) where
  here : g.D.Disk.marks c.freeze_files.new.disk c.args.active_entry.file
      ≡ g.D.Disk.marks c.args.disk.now c.args.active_entry.file
  here = let m = c.args.manifest.now in
      c.freeze_files.ensures.other_marks c.args.active_entry.file
      (rw (front c.as_slice-entries.ensures) (all_by (IsOther m) _
      (λ e one is. one.apart (is ∙ ap (λ (x : Entry). x.file) c.requires.active_entry)) _
      (are_entries m c.requires.valid).front))

module _ (g : Over) (c : After-cut_file g) where
  same_marks : (n : ℕ) → AllByRecursion (λ (e : Entry). e.file ≢ n) c.args.manifest.now.entries
      → g.D.Disk.marks c.cut_file.new.disk n ≡ g.D.Disk.marks c.args.disk.now n
  same_marks n apart =
      c.cut_file.ensures.other_marks n (λ is. at_last _ c.requires.valid c.requires.active_entry apart (sym is))
      ∙ c.freeze_files.ensures.other_marks n (each _ c.as_slice-entries.ensures apart)

  honest1 : IsTrue (g.D.Disk.honest c.args.disk.now) → IsTrue (g.D.Disk.honest c.freeze_files.new.disk)
  honest1 h = subst IsTrue (sym c.freeze_files.ensures.honest) h

  honest2 : IsTrue (g.D.Disk.honest c.args.disk.now) → IsTrue (g.D.Disk.honest c.cut_file.new.disk)
  honest2 h = subst IsTrue (sym c.cut_file.ensures.honest) (honest1 h)

  same_slots : IsTrue (g.D.Disk.honest c.args.disk.now) → (slot : Slot)
      → g.D.Disk.held c.cut_file.new.disk (file_of slot) ≡ g.D.Disk.held c.args.disk.now (file_of slot)
  same_slots h slot =
      let apart = outside c.args.manifest.now c.requires.valid (file_of slot) (inl (slot_below slot)) in
      c.cut_file.ensures.other_files (honest1 h) (file_of slot)
      (λ is. at_last _ c.requires.valid c.requires.active_entry apart (sym is))
      ∙ c.freeze_files.ensures.other_files h (file_of slot) (each _ c.as_slice-entries.ensures apart)

  cut : IsTrue (g.D.Disk.honest c.args.disk.now) → {slots : Slots} {s : State} → s.manifest ≡ c.args.manifest.now
      → end_of s ≡ c.args.end → AllImages (g.D.Disk.held c.args.disk.now) (IsKnown slots s)
      → Reached g.D.Disk c.args.disk.now c.cut_file.new.disk (IsKnown slots s) (IsKnown slots s)
  cut h {slots} {s} man end_is all = still g (honest2 h)
      (stopped (still g (honest1 h) (c.freeze_files.ensures.any_moment h slots s
      (ap front_of man ∙ sym (front c.as_slice-entries.ensures)) all)) c.cut_file.ensures.any_moment
      (λ a b known step. trimming slots s _ _ a b (ap (λ (k : Manifest). (active_of k).file) man
      ∙ sym (ap (λ (e : Entry). e.file) c.requires.active_entry)) end_is known step))

module _ (g : Over) (c : After-remove_unnamed g) where
  active : g.D.Disk.marks c.remove_unnamed.new.disk c.args.active_entry.file
      ≡ g.D.Disk.marks c.cut_file.new.disk c.args.active_entry.file
  active = c.remove_unnamed.ensures.marks c.args.active_entry.file (ap (λ (e : Entry). is_file_of c.args.manifest.now
      e.file)
      c.requires.active_entry ∙ active_named c.args.manifest.now c.requires.valid)

-- ---- what the calls take
pub freeze_files-requires-clause-own : goal.freeze_files-requires-clause-own
freeze_files-requires-clause-own g c =
    subst HaveOwnFiles (sym (front c.as_slice-entries.ensures)) (own_front c.args.manifest.now c.requires.valid)

pub freeze_files-requires-clause-thawed : goal.freeze_files-requires-clause-thawed
freeze_files-requires-clause-thawed g c =
    each _ c.as_slice-entries.ensures (all_by _ _ (λ e is. c.requires.thawed e.file) _ c.requires.settled)

pub freeze_files-requires-clause-settled : goal.freeze_files-requires-clause-settled
freeze_files-requires-clause-settled g c =
    each (λ e. (g.D.Disk.marks c.args.disk.now e.file).settled ≡ true) c.as_slice-entries.ensures c.requires.settled

pub freeze_files-requires-clause-listed : goal.freeze_files-requires-clause-listed
freeze_files-requires-clause-listed g c =
    each (λ e. (g.D.Disk.marks c.args.disk.now e.file).listed ≡ true) c.as_slice-entries.ensures
    (all_by (λ e. is_file_of c.args.manifest.now e.file ≡ true)
    (λ e. (g.D.Disk.marks c.args.disk.now e.file).listed ≡ true) (λ e is. c.requires.listed e.file is)
    c.args.manifest.now.entries (entries_named c.args.manifest.now))

pub cut_file-requires-clause-listed : goal.cut_file-requires-clause-listed
cut_file-requires-clause-listed g c =
    rw (here g (goal.at.cut_file-requires-clause-listed g c).After-freeze_files)
    (at_last (λ e. (g.D.Disk.marks c.args.disk.now e.file).listed ≡ true) c.requires.valid c.requires.active_entry
    (all_by (λ e. is_file_of c.args.manifest.now e.file ≡ true)
    (λ e. (g.D.Disk.marks c.args.disk.now e.file).listed ≡ true) (λ e is. c.requires.listed e.file is)
    c.args.manifest.now.entries (entries_named c.args.manifest.now)))

pub cut_file-requires-clause-thawed : goal.cut_file-requires-clause-thawed
cut_file-requires-clause-thawed g c =
    rw (here g (goal.at.cut_file-requires-clause-thawed g c).After-freeze_files) (c.requires.thawed
    c.args.active_entry.file)

pub cut_file-requires-clause-settled : goal.cut_file-requires-clause-settled
cut_file-requires-clause-settled g c =
    rw (here g (goal.at.cut_file-requires-clause-settled g c).After-freeze_files)
    (at_last _ c.requires.valid c.requires.active_entry c.requires.settled)

pub remove_unnamed-requires : goal.remove_unnamed-requires
remove_unnamed-requires g c n unnamed =
    rw (same_marks g (goal.at.remove_unnamed-requires g c).After-cut_file n (not_named c.args.manifest.now n unnamed))
    (c.requires.thawed n)

-- ---- at any moment
pub returns-in_err-parts-clause-any_moment : goal.returns-in_err-parts-clause-any_moment
returns-in_err-parts-clause-any_moment g c h slots s man end_is all =
    c.freeze_files.ensures.any_moment h slots s (ap front_of man ∙ sym (front c.as_slice-entries.ensures)) all

pub returns-in_err-cut_file-clause-any_moment : goal.returns-in_err-cut_file-clause-any_moment
returns-in_err-cut_file-clause-any_moment g c h slots s man end_is all =
    (cut g (goal.at.returns-in_err-cut_file-clause-any_moment g c).After-cut_file h man end_is all).run

pub returns-in_err-remove_unnamed-clause-any_moment : goal.returns-in_err-remove_unnamed-clause-any_moment
returns-in_err-remove_unnamed-clause-any_moment g c h slots s man end_is all =
    stopped (cut g (goal.at.returns-in_err-remove_unnamed-clause-any_moment g c).After-cut_file h man end_is all)
    c.remove_unnamed.ensures.any_moment (λ a b known same. removing slots s a b known (rw man same))

pub returns-clause-any_moment : goal.returns-clause-any_moment
returns-clause-any_moment g c h slots s man end_is all =
    stopped (cut g (goal.at.returns-clause-any_moment g c).After-cut_file h man end_is all)
    c.remove_unnamed.ensures.any_moment (λ a b known same. removing slots s a b known (rw man same))

-- ---- refusals
pub returns-in_err-parts-clause-refused : goal.returns-in_err-parts-clause-refused
returns-in_err-parts-clause-refused g c h slots s man end_is all =
    let D = g.D.Disk in
    let d0 = c.args.disk.now in
    let known = all (reads_of (D.held d0)) (λ n. g.met.D.Disk.reads_image d0 n h) in
    passed_on c.from_residual.result (c.in_err-parts.field-0).0 IsDeviceOrMemory c.from_residual.ensures.1
    (c.in_err-parts.ensures.refused h (rw (front c.as_slice-entries.ensures, ← man)
    (all_by (λ e. e.length ≤ length (D.held d0 e.file).reads) _
    (λ e le. omega (arith, le, g.met.D.Disk.has_size d0 e.file h)) _
    (parts_long (reads_of (D.held d0)) (front_of s.manifest) s.parts known.files.parts))))

pub returns-in_err-cut_file-clause-refused : goal.returns-in_err-cut_file-clause-refused
returns-in_err-cut_file-clause-refused g c h slots s man end_is all =
    let at = goal.at.returns-in_err-cut_file-clause-refused g c in
    let reads = reads_of (g.D.Disk.held c.args.disk.now) in
    let known = all reads (λ n. g.met.D.Disk.reads_image c.args.disk.now n h) in
    let room = known.files.active.gated.closed.room in
    let there = ap (λ (k : Manifest). length (reads (active_of k).file)) man in
    let too = ap (λ (e : Entry). length (reads e.file)) c.requires.active_entry in
    let size = ap (λ (k : Marks). k.size) (here g at.After-freeze_files) in
    passed_on c.from_residual-in_err-cut_file.result
    (c.in_err-cut_file.field-0).0 IsDeviceOrMemory c.from_residual-in_err-cut_file.ensures.1
    (c.in_err-cut_file.ensures.refused (honest1 g at.After-cut_file h)
    (omega (arith, g.met.D.Disk.has_size c.args.disk.now c.args.active_entry.file h)))

-- ---- what is Ok
pub returns-clause-parts : goal.returns-clause-parts
returns-clause-parts g c h slots s man all =
    rw (← front c.as_slice-entries.ensures)
    (c.in_ok-parts.ensures.parts h slots s (ap front_of man ∙ sym (front c.as_slice-entries.ensures)) all)

pub returns-clause-ready : goal.returns-clause-ready
returns-clause-ready g c =
    let D = g.D.Disk in
    let d0 = c.args.disk.now in
    let d3 = c.remove_unnamed.new.disk in
    let m = c.args.manifest.now in
    let at = goal.at.returns-clause-ready g c in
    let active = active g at.After-remove_unnamed in
    let same : (n : ℕ) → (n < 3) ⊎ (m.next ≤ n) → is_file_of m n ≡ true → D.marks d3 n ≡ D.marks d0 n =
    λ n which named. c.remove_unnamed.ensures.marks n named
    ∙ same_marks g at.After-cut_file n (outside m c.requires.valid n which) in
    let slot_same : (slot : Slot) → D.marks d3 (file_of slot) ≡ D.marks d0 (file_of slot) = λ slot.
    same (file_of slot) (inl (slot_below slot)) (slot_named m slot) in
    record {
      slot_room = λ slot. rw (slot_same slot) (c.requires.slots slot).1;
      slot_settled = λ slot. rw (slot_same slot) (c.requires.slots slot).0;
      slot_thawed = λ slot. rw (slot_same slot) (c.requires.thawed (file_of slot));
      room = omega (arith, ap (λ (k : Marks). k.size) active, c.in_ok-cut_file.ensures.size);
      settled = rw active c.in_ok-cut_file.ensures.settled;
      thawed = λ n which. ⊎_elim
          (λ is. ap (λ (k : ℕ). (D.marks d3 k).frozen) is ∙ ap (λ (k : Marks). k.frozen) active
          ∙ c.cut_file.ensures.thawed)
          (λ le. ⊎_elim (λ named. rw (same n (inr le) named) (c.requires.thawed n))
          (c.remove_unnamed.ensures.thawed n) (bool_cases (is_file_of m n))) which;
    }

pub returns-clause-files : goal.returns-clause-files
returns-clause-files g c =
    rw (c.remove_unnamed.ensures.honest ∙ c.cut_file.ensures.honest, ← front c.as_slice-entries.ensures)
    c.in_ok-parts.ensures.files

pub returns-clause-shut : goal.returns-clause-shut
returns-clause-shut g c =
    let m = c.args.manifest.now in
    let old = g.D.Disk.marks c.freeze_files.new.disk in
    let new = g.D.Disk.marks c.remove_unnamed.new.disk in
    let same = all_both (IsOther m) (λ e. is_file_of m e.file ≡ true) (λ e. new e.file ≡ old e.file)
    (λ e one is. c.remove_unnamed.ensures.marks e.file is
    ∙ c.cut_file.ensures.other_marks e.file (λ there. one.apart (there
    ∙ ap (λ (e : Entry). e.file) c.requires.active_entry)))
    _ (are_entries m c.requires.valid).front (all_take _ _ _ (entries_named m)) in
    all_both _ (λ e. old e.file ≡ shut_at e.length) _ (λ e same is. same ∙ is) _ same
    (rw (← front c.as_slice-entries.ensures) c.in_ok-parts.ensures.shut)

pub returns-clause-sizes : goal.returns-clause-sizes
returns-clause-sizes g c =
    c.in_ok-parts.ensures.sizes ∙ ap (map (λ (e : Entry). e.length)) (front c.as_slice-entries.ensures)

pub returns-clause-size : goal.returns-clause-size
returns-clause-size g c =
    ap (λ (k : Marks). k.size) (active g (goal.at.returns-clause-size g c).After-remove_unnamed)
    ∙ c.in_ok-cut_file.ensures.size

-- ---- the slots
pub returns-in_err-parts-clause-slots : goal.returns-in_err-parts-clause-slots
returns-in_err-parts-clause-slots g c h slot =
    c.freeze_files.ensures.other_files h (file_of slot)
    (each _ c.as_slice-entries.ensures
    (outside c.args.manifest.now c.requires.valid (file_of slot) (inl (slot_below slot))))

pub returns-in_err-cut_file-clause-slots : goal.returns-in_err-cut_file-clause-slots
returns-in_err-cut_file-clause-slots g c h slot =
    same_slots g (goal.at.returns-in_err-cut_file-clause-slots g c).After-cut_file h slot

pub returns-in_err-remove_unnamed-clause-slots : goal.returns-in_err-remove_unnamed-clause-slots
returns-in_err-remove_unnamed-clause-slots g c h slot =
    let at = (goal.at.returns-in_err-remove_unnamed-clause-slots g c).After-cut_file in
    c.remove_unnamed.ensures.named (honest2 g at h) (file_of slot) (slot_named c.args.manifest.now slot)
    ∙ same_slots g at h slot

pub returns-clause-slots : goal.returns-clause-slots
returns-clause-slots g c h slot =
    let at = (goal.at.returns-clause-slots g c).After-cut_file in
    c.remove_unnamed.ensures.named (honest2 g at h) (file_of slot) (slot_named c.args.manifest.now slot)
    ∙ same_slots g at h slot

pub returns-clause-removed : goal.returns-clause-removed
returns-clause-removed g c h =
    c.in_ok-remove_unnamed.ensures.removed (honest2 g (goal.at.returns-clause-removed g c).After-cut_file h)

pub returns-clause-still : goal.returns-clause-still
returns-clause-still g c n named was =
    rw (c.remove_unnamed.ensures.marks n named) (⊎_elim (λ same. rw same c.in_ok-cut_file.ensures.listed)
    (λ differs. rw (c.cut_file.ensures.other_marks n differs) (c.in_ok-parts.ensures.still n was))
    (cases_eq n c.args.active_entry.file))
