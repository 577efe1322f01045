use Rattle.std.proofs.Common.{◌≡◌, ◌≢◌, ℕ, ◌+◌, ◌<◌, ◌≤◌, true, false, IsTrue, List, [], ◌∷◌, ◌++◌, length, get_or}
use Rattle.std.proofs.Common.{Bool, map, take, refl, sym, ◌∙◌, ap, subst, arith, rules}
use Rattle.std.proofs.Common.{⊎_elim}
use Rattle.std.specs.List.{AllByRecursion}
use Rattle.std.proofs.lemmas.Bool.{cases_eq}
use Rattle.std.proofs.lemmas.List.{map-append, take_more, take_all}
use Rattle.flow_disk.specs.Disk.{Marks, AllImages, InFile}
use Rattle.flow_disk.specs.Calls.{LeavesOnly}
use Rattle.flow_disk.proofs.Moments.{started, advance, now_all}
use Rattle.flow_manifest.specs.declared.manifest.Entry.{Entry}
use Rattle.flow_manifest.specs.declared.slots.Slots.{Slots}
use Rattle.flow_manifest.specs.Manifest.{HaveOwnFiles}
use Rattle.flow_disk.proofs.Results.{passed_on}
use Rattle.flow_segment.specs.Steps.{KeepsFront}
use Rattle.flow_model.specs.State.{Part, State}
use Rattle.flow_model.specs.Standing.{PartsStand, StandsAs, IsKnown}
use Rattle.flow_manifest.specs.Following.{no_entry, front_of}
use Rattle.flow_recover.specs.Kept.{AreFilesOf}
use Rattle.flow_recover.specs.Opening.{IsDeviceOrMemory, FrozenStand, shut_at}
use Rattle.flow_manifest.proofs.Bodies.{all_more}
use Rattle.flow_manifest.proofs.EntryLists.{all_both, all_take}
use Rattle.flow_model.proofs.Stand.{all_first, all_last}
use Rattle.flow_recover.proofs.Recovering.{cutting_one, all_at, own_before, part_is, parts_count, frozen_push}
use Rattle.flow_recover.proofs.Recovering.{files_push, no_part}
use Rattle.flow_recover.proofs.tidying.freeze_files.Goals as goal

pub entries-init : goal.entries-init
entries-init g c =
    let D = g.D.Disk in
    let d0 = c.args.disk.now in
    record {
      honest = refl;
      others = λ n apart. refl;
      run = λ h slots s front all. started D d0 (IsKnown slots s) (λ image left. all image
          (g.met.D.Disk.only_now d0 image h left));
      frozen = λ h slots s front all. let none : c.in-Ok.parts.items ≡ [] = search rules in subst
          (λ l. FrozenStand g.D.Sealed.SealedFile.octets [] [] l) (sym none) tt;
      files = let none : c.in-Ok.parts.items ≡ [] = search rules in subst (λ l. AreFilesOf g.D.Sealed.SealedFile.number
          g.D.Sealed.SealedFile.size g.D.Sealed.SealedFile.honest (D.honest d0) [] l) (sym none) tt;
      sizes = let none : c.in-Ok.parts.items ≡ [] = search rules in ap (map g.D.Sealed.SealedFile.size) none;
      shut = tt;
      still = λ n was. was;
      other_held = λ h n apart. refl;
      room = search rules;
      count = search rules;
      faults = refl;
    }

pub freeze_one-requires-clause-thawed : goal.freeze_one-requires-clause-thawed
freeze_one-requires-clause-thawed g c =
    let D = g.D.Disk in
    let d0 = c.args.disk.now in
    let d1 = c.entries.disk in
    let i = c.entries.entry-index in
    let was = c.entries.invariant in
    let es = c.args.entries.now in
    let e = get_or es i no_entry in
    let lt : i < length es = c.entries-test.true in
    let same : D.marks d1 e.file ≡ D.marks d0 e.file = was.others e.file (own_before es i c.requires.own lt) in
    ap (λ (m : Marks). m.frozen) same ∙ all_at (λ (x : Entry).
    (D.marks d0 x.file).frozen ≡ false) es i c.requires.thawed lt

pub freeze_one-requires-clause-settled : goal.freeze_one-requires-clause-settled
freeze_one-requires-clause-settled g c =
    let D = g.D.Disk in
    let d0 = c.args.disk.now in
    let d1 = c.entries.disk in
    let i = c.entries.entry-index in
    let was = c.entries.invariant in
    let es = c.args.entries.now in
    let e = get_or es i no_entry in
    let lt : i < length es = c.entries-test.true in
    let same : D.marks d1 e.file ≡ D.marks d0 e.file = was.others e.file (own_before es i c.requires.own lt) in
    ap (λ (m : Marks). m.settled) same ∙ all_at (λ (x : Entry).
    (D.marks d0 x.file).settled ≡ true) es i c.requires.settled lt

pub freeze_one-requires-clause-listed : goal.freeze_one-requires-clause-listed
freeze_one-requires-clause-listed g c =
    let D = g.D.Disk in
    let d0 = c.args.disk.now in
    let d1 = c.entries.disk in
    let i = c.entries.entry-index in
    let was = c.entries.invariant in
    let es = c.args.entries.now in
    let e = get_or es i no_entry in
    let lt : i < length es = c.entries-test.true in
    let same : D.marks d1 e.file ≡ D.marks d0 e.file = was.others e.file (own_before es i c.requires.own lt) in
    ap (λ (m : Marks). m.listed) same ∙ all_at (λ (x : Entry).
    (D.marks d0 x.file).listed ≡ true) es i c.requires.listed lt

pub returns-in_err-part-clause-other_marks : goal.returns-in_err-part-clause-other_marks
returns-in_err-part-clause-other_marks g c n apart =
    let D = g.D.Disk in
    let d0 = c.args.disk.now in
    let d1 = c.entries.disk in
    let i = c.entries.entry-index in
    let was = c.entries.invariant in
    let es = c.args.entries.now in
    let e = get_or es i no_entry in
    let lt : i < length es = c.entries-test.true in
    let same : D.marks d1 e.file ≡ D.marks d0 e.file = was.others e.file (own_before es i c.requires.own lt) in
    c.freeze_one.ensures.other_marks n (λ is. all_at (λ (x : Entry). x.file ≢ n) es i apart lt (sym is))
    ∙ was.others n (all_take (λ (x : Entry). x.file ≢ n) i es apart)

pub returns-in_err-part-clause-any_moment : goal.returns-in_err-part-clause-any_moment
returns-in_err-part-clause-any_moment g c h slots s front all =
    let D = g.D.Disk in
    let d0 = c.args.disk.now in
    let d1 = c.entries.disk in
    let i = c.entries.entry-index in
    let was = c.entries.invariant in
    let es = c.args.entries.now in
    let e = get_or es i no_entry in
    let lt : i < length es = c.entries-test.true in
    let same : D.marks d1 e.file ≡ D.marks d0 e.file = was.others e.file (own_before es i c.requires.own lt) in
    let d2 = c.freeze_one.new.disk in
    let more : IsTrue (D.honest d0) → (slots : Slots) (s : State) → front_of s.manifest ≡ es → AllImages (D.held d0)
    (IsKnown slots s) → LeavesOnly D d0 d2 (IsKnown slots s) =
    (λ h slots s front all.
    let h1 = subst IsTrue (sym was.honest) h in
    let run1 = was.run h slots s front all in
    let known1 = now_all D d0 d1 (IsKnown slots s) run1
    (λ image is. g.met.D.Disk.counts_now d1 (D.moment d0) image h1 run1.later is) in
    advance D d0 d1 d2 (IsKnown slots s) (IsKnown slots s) (InFile e.file
    (KeepsFront e.length)) run1 known1 (c.freeze_one.ensures.any_moment h1)
    (λ a b known step. cutting_one slots s i a b (subst (λ (l : List Entry). i < length l) (sym front) lt)
    (subst HaveOwnFiles (sym front) c.requires.own) known
    (subst (λ (l : List Entry). InFile (get_or l i no_entry).file (KeepsFront (get_or l i no_entry).length) a b)
    (sym front) step))) in
    more h slots s front all

pub returns-in_err-part-clause-refused : goal.returns-in_err-part-clause-refused
returns-in_err-part-clause-refused g c h sizes =
    let D = g.D.Disk in
    let d0 = c.args.disk.now in
    let d1 = c.entries.disk in
    let i = c.entries.entry-index in
    let was = c.entries.invariant in
    let es = c.args.entries.now in
    let e = get_or es i no_entry in
    let lt : i < length es = c.entries-test.true in
    let same : D.marks d1 e.file ≡ D.marks d0 e.file = was.others e.file (own_before es i c.requires.own lt) in
    let h1 = subst IsTrue (sym was.honest) h in
    let size : e.length ≤ (D.marks d1 e.file).size = subst (λ (m : Marks). e.length ≤ m.size) (sym same) (all_at (λ
    (x : Entry). x.length ≤ (D.marks d0 x.file).size) es i sizes lt) in
    passed_on c.from_residual.result (c.in_err-part.field-0).0 IsDeviceOrMemory c.from_residual.ensures.1
    (c.in_err-part.ensures.refused h1 size)

pub entries-preserved : goal.entries-preserved
entries-preserved g c =
    let D = g.D.Disk in
    let d0 = c.args.disk.now in
    let d1 = c.entries.disk in
    let i = c.entries.entry-index in
    let was = c.entries.invariant in
    let es = c.args.entries.now in
    let e = get_or es i no_entry in
    let lt : i < length es = c.entries-test.true in
    let same : D.marks d1 e.file ≡ D.marks d0 e.file = was.others e.file (own_before es i c.requires.own lt) in
    let d2 = c.freeze_one.new.disk in
    let more : IsTrue (D.honest d0) → (slots : Slots) (s : State) → front_of s.manifest ≡ es → AllImages (D.held d0)
    (IsKnown slots s) → LeavesOnly D d0 d2 (IsKnown slots s) =
    (λ h slots s front all.
    let h1 = subst IsTrue (sym was.honest) h in
    let run1 = was.run h slots s front all in
    let known1 = now_all D d0 d1 (IsKnown slots s) run1
    (λ image is. g.met.D.Disk.counts_now d1 (D.moment d0) image h1 run1.later is) in
    advance D d0 d1 d2 (IsKnown slots s) (IsKnown slots s) (InFile e.file
    (KeepsFront e.length)) run1 known1 (c.freeze_one.ensures.any_moment h1)
    (λ a b known step. cutting_one slots s i a b (subst (λ (l : List Entry). i < length l) (sym front) lt)
    (subst HaveOwnFiles (sym front) c.requires.own) known
    (subst (λ (l : List Entry). InFile (get_or l i no_entry).file (KeepsFront (get_or l i no_entry).length) a b)
    (sym front) step))) in
    let taken : take (i + 1) es ≡ take i es ++ e ∷ [] = take_more es i no_entry lt in
    record {
      honest = c.freeze_one.ensures.honest ∙ was.honest;
      others = λ n apart. let both_parts = subst (AllByRecursion (λ (x : Entry). x.file ≢ n)) taken apart in
          c.freeze_one.ensures.other_marks n (λ is. all_last (λ (x : Entry). x.file ≢ n) (take i es) e both_parts
          (sym is)) ∙ was.others n (all_first (λ (x : Entry). x.file ≢ n) (take i es) e both_parts);
      run = more;
      other_held = λ h n apart. let both_parts = subst (AllByRecursion (λ (x : Entry). x.file ≢ n)) taken apart in
          c.freeze_one.ensures.other_files (subst IsTrue (sym was.honest) h) n (λ is. all_last (λ (x : Entry).
          x.file ≢ n) (take i es) e both_parts (sym is)) ∙ was.other_held h n (all_first (λ (x : Entry). x.file ≢ n)
          (take i es) e both_parts);
      frozen = λ h slots s front all.
          let h1 = subst IsTrue (sym was.honest) h in
          let h2 = subst IsTrue (sym c.freeze_one.ensures.honest) h1 in
          let run2 = more h slots s front all in
          let known = now_all D d0 d2 (IsKnown slots s) run2
          (λ image is. g.met.D.Disk.counts_now d2 (D.moment d0) image h2 run2.later is) (λ n. (D.held d2 n).reads)
          (λ n. g.met.D.Disk.reads_image d2 n h2) in
          let stand : PartsStand (λ n. (D.held d2 n).reads) es s.parts = subst (λ (l : List Entry). PartsStand (λ n.
          (D.held d2 n).reads) l s.parts) front known.files.parts in
          let at = part_is (λ n. (D.held d2 n).reads) es s.parts i stand lt in
          let here = subst (λ (l : List ℕ). StandsAs e.kind l e (get_or s.parts i no_part)) (sym
          (c.in_ok-part.ensures.octets h1)) at in
          let taken_parts : take
          (i + 1) s.parts ≡ take i s.parts ++ get_or s.parts i no_part ∷ [] = take_more s.parts i no_part (omega
          (arith, lt, parts_count (λ n. (D.held d2 n).reads) es s.parts stand)) in
          subst (λ (l : List Entry). FrozenStand g.D.Sealed.SealedFile.octets l (take
          (i + 1) s.parts) c.push_reserved.new.self.items) (sym taken)
          (subst (λ (l : List Part). FrozenStand g.D.Sealed.SealedFile.octets
          (take i es ++ e ∷ []) l c.push_reserved.new.self.items) (sym taken_parts)
          (subst (λ l. FrozenStand g.D.Sealed.SealedFile.octets (take i es ++ e ∷ [])
          (take i s.parts ++ get_or s.parts i no_part ∷ []) l) (sym c.push_reserved.ensures.items)
          (frozen_push g.D.Sealed.SealedFile.octets e (get_or s.parts i no_part) c.in_ok-part.part here (take i es)
          (take i s.parts) c.entries.parts.items (was.frozen h slots s front all))));
      files = subst (λ (l : List Entry). AreFilesOf g.D.Sealed.SealedFile.number g.D.Sealed.SealedFile.size
          g.D.Sealed.SealedFile.honest (D.honest d2) l c.push_reserved.new.self.items) (sym taken)
          (subst (λ l. AreFilesOf g.D.Sealed.SealedFile.number g.D.Sealed.SealedFile.size
          g.D.Sealed.SealedFile.honest (D.honest d2) (take i es ++ e ∷ []) l) (sym c.push_reserved.ensures.items)
          (files_push g.D.Sealed.SealedFile.number g.D.Sealed.SealedFile.size g.D.Sealed.SealedFile.honest
          (D.honest d2) e c.in_ok-part.part c.in_ok-part.ensures.file (take i es) c.entries.parts.items
          (subst (λ (b : Bool). AreFilesOf g.D.Sealed.SealedFile.number g.D.Sealed.SealedFile.size
          g.D.Sealed.SealedFile.honest b (take i es) c.entries.parts.items) (sym c.freeze_one.ensures.honest)
          was.files)));
      sizes =
          let size = g.D.Sealed.SealedFile.size in
          let count : Entry → ℕ = λ x. x.length in
          ap (map size) c.push_reserved.ensures.items
          ∙ map-append size c.entries.parts.items (c.in_ok-part.part ∷ [])
          ∙ ap (λ (l : List ℕ). l ++ size c.in_ok-part.part ∷ []) was.sizes
          ∙ ap (λ (n : ℕ). map count (take i es) ++ n ∷ []) c.in_ok-part.ensures.size
          ∙ sym (map-append count (take i es) (e ∷ []))
          ∙ ap (map count) (sym taken);
      shut = subst (AllByRecursion (λ (x : Entry). D.marks d2 x.file ≡ shut_at x.length)) (sym taken)
          (all_more (λ (x : Entry). D.marks d2 x.file ≡ shut_at x.length) (take i es) e
          (all_both (λ (x : Entry). x.file ≢ e.file) (λ (x : Entry). D.marks d1 x.file ≡ shut_at x.length)
          (λ (x : Entry). D.marks d2 x.file ≡ shut_at x.length)
          (λ x apart is. c.freeze_one.ensures.other_marks x.file apart ∙ is)
          (take i es) (own_before es i c.requires.own lt) was.shut) c.in_ok-part.ensures.shut);
      still = λ n old. ⊎_elim (λ (same : n ≡ e.file). ap (λ (k : ℕ). (D.marks d2 k).listed) same
          ∙ ap (λ (m : Marks). m.listed) c.in_ok-part.ensures.shut) (λ differs. ap (λ (m : Marks). m.listed)
          (c.freeze_one.ensures.other_marks n differs) ∙ was.still n old) (cases_eq n e.file);
      room = omega (arith, c.push_reserved.ensures.capacity, was.room);
      count = c.push_reserved.ensures.len ∙ ap (λ (n : ℕ). n + 1) was.count;
      faults = c.in_ok-part.ensures.cause.done ∙ was.faults;
    }

pub returns-clause-other_marks : goal.returns-clause-other_marks
returns-clause-other_marks g c n apart =
    let D = g.D.Disk in
    c.entries.invariant.others n (all_take (λ (x : Entry). x.file ≢ n) c.entries.entry-index c.args.entries.now apart)

pub returns-clause-parts : goal.returns-clause-parts
returns-clause-parts g c h slots s front all =
    let D = g.D.Disk in
    let d0 = c.args.disk.now in
    let es = c.args.entries.now in
    let i = c.entries.entry-index in
    let known = all (λ n. (D.held d0 n).reads) (λ n. g.met.D.Disk.reads_image d0 n h) in
    let stand : PartsStand (λ n. (D.held d0 n).reads) es s.parts = subst (λ (l : List Entry). PartsStand (λ n.
    (D.held d0 n).reads) l s.parts) front known.files.parts in
    subst (λ (l : List Entry). FrozenStand g.D.Sealed.SealedFile.octets l s.parts c.entries.parts.items)
    (take_all i es (omega arith))
    (subst (λ (l : List Part). FrozenStand g.D.Sealed.SealedFile.octets (take i es) l c.entries.parts.items)
    (take_all i s.parts (omega (arith, parts_count (λ n. (D.held d0 n).reads) es s.parts stand)))
    (c.entries.invariant.frozen h slots s front all))

pub returns-in_default-clause-any_moment : goal.returns-in_default-clause-any_moment
returns-in_default-clause-any_moment g c h slots s front all =
    let D = g.D.Disk in
    let d0 = c.args.disk.now in
    started D d0 (IsKnown slots s) (λ image left. all image (g.met.D.Disk.only_now d0 image h left))

pub returns-clause-files : goal.returns-clause-files
returns-clause-files g c =
    let D = g.D.Disk in
    let es = c.args.entries.now in
    let i = c.entries.entry-index in
    subst (λ (l : List Entry). AreFilesOf g.D.Sealed.SealedFile.number g.D.Sealed.SealedFile.size
    g.D.Sealed.SealedFile.honest (D.honest c.entries.disk) l c.entries.parts.items) (take_all i es (omega arith))
    c.entries.invariant.files

pub returns-clause-sizes : goal.returns-clause-sizes
returns-clause-sizes g c =
    c.entries.invariant.sizes
    ∙ ap (map (λ (e : Entry). e.length)) (take_all c.entries.entry-index c.args.entries.now (omega arith))

pub returns-clause-shut : goal.returns-clause-shut
returns-clause-shut g c =
    let D = g.D.Disk in
    let d1 = c.entries.disk in
    let es = c.args.entries.now in
    let i = c.entries.entry-index in
    subst (AllByRecursion (λ (e : Entry). D.marks d1 e.file ≡ shut_at e.length)) (take_all i es (omega arith))
    c.entries.invariant.shut

pub returns-in_err-part-clause-other_files : goal.returns-in_err-part-clause-other_files
returns-in_err-part-clause-other_files g c h n apart =
    let i = c.entries.entry-index in
    let was = c.entries.invariant in
    let es = c.args.entries.now in
    c.freeze_one.ensures.other_files (subst IsTrue (sym was.honest) h) n (λ is. all_at (λ (x : Entry). x.file ≢ n) es i
    apart c.entries-test.true (sym is)) ∙ was.other_held h n (all_take (λ (x : Entry). x.file ≢ n) i es apart)

pub returns-clause-other_files : goal.returns-clause-other_files
returns-clause-other_files g c h n apart = c.entries.invariant.other_held h n (all_take (λ (x : Entry). x.file ≢ n)
    c.entries.entry-index c.args.entries.now apart)

pub returns-clause-still : goal.returns-clause-still
returns-clause-still g c n was = c.entries.invariant.still n was
