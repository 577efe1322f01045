-- A file that no manifest names is removed.
use Rattle.std.proofs.Common.{◌≡◌, ◌≢◌, ◌⊎◌, inl, ⊎_elim, ℕ, ◌≤◌, Bool, true, false, IsTrue, List, [], ◌∷◌, ◌++◌}
use Rattle.std.proofs.Common.{refl, sym, ◌∙◌, ap, subst, arith}
use Rattle.std.specs.Prelude.{Option, Some, None, IfSome}
use Rattle.std.specs.List.{AllByRecursion}
use Rattle.flow_disk.specs.Disk.{Held, Marks, IsImage, AllImages, ComesOf, InFile}
use Rattle.flow_disk.specs.Calls.{LeavesOnly}
use Rattle.flow_disk.specs.declared.disk.Disk.{Ghosts}
use Rattle.flow_disk.proofs.Calls.{comes}
use Rattle.flow_disk.proofs.Moments.{by}
use Rattle.flow_manifest.specs.declared.manifest.Entry.{Entry}
use Rattle.flow_manifest.specs.declared.slots.Slot.{Slot}
use Rattle.flow_manifest.specs.declared.slots.Slots.{Slots}
use Rattle.flow_manifest.specs.Following.{active_of, front_of}
use Rattle.flow_manifest.specs.Slots.{file_of}
use Rattle.flow_manifest.proofs.EntryLists.{all_both, all_by, all_left}
use Rattle.flow_manifest.proofs.ValidEntries.{split}
use Rattle.flow_segment.specs.Carry.{Carry}
use Rattle.flow_segment.specs.Steps.{IsAnything}
use Rattle.flow_model.specs.State.{State}
use Rattle.flow_recover.specs.Kept.{IsReadyFor}
use Rattle.flow_model.specs.Standing.{IsKnown}
use Rattle.flow_archive.specs.Frozen.{AreHeldAs, Frozen}
use Rattle.flow_archive.specs.Seen.{state_in, IsArchive, StandsBeforeOrAfter}
use Rattle.flow_archive.specs.UnderWay.{job_in, job_numbers, number_in, numbers_of, staged_in, under_way_in, AllDiffer}
use Rattle.flow_archive.specs.UnderWay.{HasOwnFiles, IsOnDisk, FrozenStaged, IsRunningJob, IsStaged, IsUnderWay, IsUnnamed, IsWaiting}
use Rattle.flow_archive.specs.UnderWay.{RunningJob}
use Rattle.flow_archive.proofs.Directing.{beside_archive, failed_archive}
use Rattle.flow_archive.proofs.Stand.{cutting, slot_below, stands_for, valid_of}
use Rattle.flow_archive.proofs.Working.{goes_on, other_file}

-- ---- numbers that differ

all_before : (P : ℕ → Type 0) (xs ys : List ℕ) → AllByRecursion P (xs ++ ys) → AllByRecursion P xs
all_before P [] ys all = tt
all_before P (x ∷ xs) ys all = (all.0, all_before P xs ys all.1)

all_but : (P : ℕ → Type 0) (xs ys : List ℕ) (n : ℕ) → AllByRecursion P (xs ++ n ∷ ys) → AllByRecursion P (xs ++ ys)
all_but P [] ys n all = all.1
all_but P (x ∷ xs) ys n all = (all.0, all_but P xs ys n all.1)

all_at : (P : ℕ → Type 0) (xs ys : List ℕ) (n : ℕ) → AllByRecursion P (xs ++ n ∷ ys) → P n
all_at P [] ys n all = all.0
all_at P (x ∷ xs) ys n all = all_at P xs ys n all.1

differ_but : (xs ys : List ℕ) (n : ℕ) → AllDiffer (xs ++ n ∷ ys) → AllDiffer (xs ++ ys)
differ_but [] ys n differ = differ.1
differ_but (x ∷ xs) ys n differ = (all_but (λ o. o ≢ x) xs ys n differ.0, differ_but xs ys n differ.1)

differ_behind : (xs ys : List ℕ) (n : ℕ) → AllDiffer (xs ++ n ∷ ys) → AllByRecursion (λ o. o ≢ n) ys
differ_behind [] ys n differ = differ.0
differ_behind (x ∷ xs) ys n differ = differ_behind xs ys n differ.1

differ_before : (xs ys : List ℕ) (n : ℕ) → AllDiffer (xs ++ n ∷ ys) → AllByRecursion (λ o. o ≢ n) xs
differ_before [] ys n differ = tt
differ_before (x ∷ xs) ys n differ =
    ((λ same. all_at (λ o. o ≢ x) xs ys n differ.0 (sym same)), differ_before xs ys n differ.1)

-- ---- what an image represents

pub unnamed_known : (slots : Slots) (s : State) (n : ℕ) (a b : ℕ → List ℕ) → IsUnnamed s n → IsKnown slots s a
    → InFile n IsAnything a b → IsKnown slots s b
unnamed_known slots s n a b is known step =
    let m = s.manifest in
    let valid = valid_of slots s a known in
    let both = subst (AllByRecursion (λ e. e.file ≢ n)) (split m valid) is.apart in
    let front = all_left (λ e. e.file ≢ n) (front_of m) (active_of m ∷ []) both in
    cutting slots s n 0 a b is.from (other_file s n valid is)
    (all_by (λ e. e.file ≢ n) (λ e. (e.file ≢ n) ⊎ (e.length ≤ 0)) (λ e differs. inl differs) (front_of m) front) known
    (record { others = step.others; here = record { front = refl; long = omega arith } })

-- ---- of an archive

-- where nothing but the files that wait differs
abbrev pub with_waiting : State → List ℕ → State
with_waiting s waiting = record s { waiting = waiting }

module _ {D : Type 0} (honest : D → Bool) (marks : D → ℕ → Marks) (held : D → ℕ → Held) (d d1 : D) (s : State) (n : ℕ)
    (unnamed : IsUnnamed s n) (honest_too : honest d1 ≡ honest d)
    (marks_too : (k : ℕ) → k ≢ n → marks d1 k ≡ marks d k)
    (held_too : IsTrue (honest d) → (k : ℕ) → k ≢ n → held d1 k ≡ held d k)
    (readable : IsTrue (honest d) → IsImage (held d n) (held d n).reads) where
  back : IsTrue (honest d1) → IsTrue (honest d)
  back h1 = subst IsTrue honest_too h1

  pub removed_run : {S X : Type 0} (g : Ghosts D S X) (slots : Slots) (After : State → Type 0)
      → AllImages (held d) (IsKnown slots s)
      → LeavesOnly g d d1 (ComesOf (held d) (InFile n IsAnything))
      → LeavesOnly g d d1 (StandsBeforeOrAfter s After)
  removed_run g slots After known run =
      by g d d1 (ComesOf (held d) (InFile n IsAnything)) (StandsBeforeOrAfter s After) run
      (λ image came. inl (stands_for slots s image
      (unnamed_known slots s n came.0 image unnamed (known came.0 came.1) came.2)))

  known_now : (slots : Slots) → IsTrue (honest d) → AllImages (held d) (IsKnown slots s)
      → AllImages (held d1) (IsKnown slots s)
  known_now slots h known image is =
      let came = comes (held d) (held d1) n IsAnything (held_too h)
      (λ b has. ((held d n).reads, readable h, tt)) image is in
      unnamed_known slots s n came.0 image unnamed (known came.0 came.1) came.2

  slot_apart : (slot : Slot) → file_of slot ≢ n
  slot_apart slot is = omega (arith, is, slot_below slot, unnamed.from)

  ready_now : (active end : ℕ) → active ≢ n → IsReadyFor (marks d) active s.next end
      → IsReadyFor (marks d1) active s.next end
  ready_now active end apart ready = record {
    slot_room = λ slot. subst (λ (k : Marks). 1 ≤ k.size) (sym (marks_too (file_of slot) (slot_apart slot)))
        (ready.slot_room slot);
    slot_settled = λ slot.
        ap (λ (k : Marks). k.settled) (marks_too (file_of slot) (slot_apart slot)) ∙ ready.slot_settled slot;
    slot_thawed = λ slot.
        ap (λ (k : Marks). k.frozen) (marks_too (file_of slot) (slot_apart slot)) ∙ ready.slot_thawed slot;
    room = omega (arith, ready.room, ap (λ (k : Marks). k.size) (marks_too active apart));
    settled = ap (λ (k : Marks). k.settled) (marks_too active apart) ∙ ready.settled;
    thawed = λ k which. ap (λ (x : Marks). x.frozen) (marks_too k (⊎_elim
        (λ here same. apart (sym here ∙ same)) (λ le same. omega (arith, le, same, unnamed.below)) which))
        ∙ ready.thawed k which;
  }

  pub removed_archive : (slots : Slots) (last : Entry) (end total : ℕ) (carry : Carry) (files : List Frozen)
      (closed : Bool) → IsArchive honest marks held d slots last end total carry files s closed
      → IsArchive honest marks held d1 slots last end total carry files s closed
  removed_archive slots last end total carry files closed was = record {
    counted = was.counted;
    files_are = subst (λ (b : Bool). AreHeldAs b (front_of s.manifest) files) (sym honest_too) was.files_are;
    stand = λ h1. was.stand (back h1);
    still_open = λ is.
        let still = was.still_open is in
        let file = ap (λ (e : Entry). e.file) was.counted.active_entry_is in
        record {
          kept = record {
            counted = still.kept.counted;
            ready = ready_now last.file end
                (λ same. other_file s n was.counted.valid unnamed (sym same ∙ file)) still.kept.ready;
            known = λ h1. known_now slots (back h1) (still.kept.known (back h1));
          };
          segment = still.segment;
          hands_on = λ h1. still.hands_on (back h1);
          frozen = all_both (λ e. e.file ≢ n) (λ e. (marks d e.file).frozen ≡ true)
              (λ e. (marks d1 e.file).frozen ≡ true)
              (λ e apart is. ap (λ (k : Marks). k.frozen) (marks_too e.file apart) ∙ is) (front_of s.manifest)
              (all_left (λ e. e.file ≢ n) (front_of s.manifest) (active_of s.manifest ∷ [])
              (subst (AllByRecursion (λ e. e.file ≢ n)) (split s.manifest was.counted.valid) unnamed.apart))
              still.frozen;
        };
  }

  -- what is under way
  unnamed_too : (waiting : List ℕ) (k : ℕ) → IsUnnamed s k → IsUnnamed (with_waiting s waiting) k
  unnamed_too waiting k is = record { from = is.from; below = is.below; apart = is.apart }

  module _ (waiting : List ℕ) where
    staged_too : (h : Bool) (r : RunningJob) (f : Option FrozenStaged) → IfSome f (IsStaged h s r)
        → IfSome f (IsStaged h (with_waiting s waiting) r)
    staged_too h r None is = tt
    staged_too h r (Some f) is = record {
      all = is.all;
      generation = is.generation;
      unnamed = unnamed_too waiting f.file is.unnamed;
      honest_is = is.honest_is;
      made = is.made;
    }

    rolling_too : (h : Bool) (job : Option RunningJob) → IfSome job (IsRunningJob h s)
        → IfSome job (IsRunningJob h (with_waiting s waiting))
    rolling_too h None is = tt
    rolling_too h (Some r) is = record {
      some = is.some;
      few = is.few;
      read = is.read;
      width = is.width;
      sums = is.sums;
      time = is.time;
      staged = staged_too h r r.staged is.staged;
    }

    waiting_too : (closed : Bool) (files : List Frozen) → AllByRecursion (λ o. o ≢ n) (numbers_of files)
        → AllByRecursion (IsWaiting (marks d) s closed) files
        → AllByRecursion (IsWaiting (marks d1) (with_waiting s waiting) closed) files
    waiting_too closed [] apart all = tt
    waiting_too closed (f ∷ files) apart all = (
      record {
        unnamed = unnamed_too waiting f.entry.file all.0.unnamed;
        frozen = λ is. ap (λ (k : Marks). k.frozen) (marks_too f.entry.file apart.0) ∙ all.0.frozen is;
      },
      waiting_too closed files apart.1 all.1,
    )

  staged_there : (f : Option FrozenStaged) → AllByRecursion (λ o. o ≢ n) (number_in (staged_in f))
      → IfSome f (IsOnDisk honest marks held d) → IfSome f (IsOnDisk honest marks held d1)
  staged_there None apart there = tt
  staged_there (Some f) apart there = record {
    frozen = ap (λ (k : Marks). k.frozen) (marks_too f.file apart.0) ∙ there.frozen;
    octets = λ h1 image left. there.octets (back h1) image
        (subst (λ (x : Held). IsImage x image) (held_too (back h1) f.file apart.0) left);
  }

  job_there : (job : Option RunningJob) → AllByRecursion (λ o. o ≢ n) (job_numbers (job_in job))
      → IfSome job (λ r. IfSome r.staged (IsOnDisk honest marks held d))
      → IfSome job (λ r. IfSome r.staged (IsOnDisk honest marks held d1))
  job_there None apart there = tt
  job_there (Some r) apart there = staged_there r.staged apart there

  -- the oldest of those that wait is removed
  pub removed_work : (next : ℕ) (job : Option RunningJob) (f : Frozen) (rest : List Frozen) (closed : Bool)
      → f.entry.file ≡ n → AllDiffer (job_numbers (job_in job) ++ numbers_of (f ∷ rest))
      → IsUnderWay honest marks held d s (under_way_in next job (f ∷ rest)) closed
      → IsUnderWay honest marks held d1 (with_waiting s (numbers_of rest)) (under_way_in next job rest) closed
  removed_work next job f rest closed same differ was =
      let numbers = job_numbers (job_in job) in
      let now = subst (λ (k : ℕ). AllDiffer (numbers ++ k ∷ numbers_of rest)) same differ in
      record {
        job = subst (λ (h : Bool). IfSome job (IsRunningJob h (with_waiting s (numbers_of rest)))) (sym honest_too)
            (rolling_too (numbers_of rest) (honest d) job was.job);
        on_disk = λ is. job_there job (differ_before numbers (numbers_of rest) n now) (was.on_disk is);
        waiting = waiting_too (numbers_of rest) closed rest (differ_behind numbers (numbers_of rest) n now)
            was.waiting.1;
      }

-- ---- the archive after it

pub own_removed : (shared : Bool) (files : List Frozen) (next : ℕ) (job : Option RunningJob) (f : Frozen)
    (rest : List Frozen) → HasOwnFiles shared files (under_way_in next job (f ∷ rest))
    → HasOwnFiles shared files (under_way_in next job rest)
own_removed shared files next job f rest own = record {
  alone = own.alone;
  waiting = λ not. (own.waiting not).1;
  differ = differ_but (job_numbers (job_in job)) (numbers_of rest) f.entry.file own.differ;
}

module _ {D : Type 0} (honest : D → Bool) (marks : D → ℕ → Marks) (held : D → ℕ → Held) (slots : Slots) (last : Entry)
    (end total : ℕ) (carry : Carry) (files : List Frozen) (prefix : List ℕ) (messages : List (List ℕ)) (next : ℕ)
    (job : Option RunningJob) (shared : Bool) where
  abbrev pub state_of : List Frozen → State
  state_of waiting = state_in (under_way_in next job waiting) shared slots.current files prefix messages

  -- the archive's invariant
  abbrev pub Holds : D → Bool → List Frozen → Type 0
  Holds x closed waiting =
      IsArchive honest marks held x slots last end total carry files (state_of waiting) closed
      × IsUnderWay honest marks held x (state_of waiting) (under_way_in next job waiting) closed
      × HasOwnFiles shared files (under_way_in next job waiting)

  pub removed : (d d1 : D) (closed : Bool) (f : Frozen) (rest : List Frozen) (n : ℕ) → Holds d closed (f ∷ rest)
      → f.entry.file ≡ n → honest d1 ≡ honest d → ((k : ℕ) → k ≢ n → marks d1 k ≡ marks d k)
      → (IsTrue (honest d) → (k : ℕ) → k ≢ n → held d1 k ≡ held d k)
      → (IsTrue (honest d) → IsImage (held d n) (held d n).reads) → Holds d1 closed rest
  removed d d1 closed f rest n was same honest_too marks_too held_too readable =
      let s = state_of (f ∷ rest) in
      let unnamed : IsUnnamed s n = subst (IsUnnamed s) same was.1.waiting.0.unnamed in (
        beside_archive s s.job (numbers_of rest) shared honest marks held d1 slots last end total carry files closed
            (removed_archive honest marks held d d1 s n unnamed honest_too marks_too held_too readable slots last end
            total carry files closed was.0),
        removed_work honest marks held d d1 s n unnamed honest_too marks_too held_too readable next job f rest closed
            same was.2.differ was.1,
        own_removed shared files next job f rest was.2,
      )

  -- and is closed
  pub closed_now : (d : D) (closed : Bool) (waiting : List Frozen) → Holds d closed waiting → Holds d true waiting
  closed_now d closed waiting was =
      let s = state_of waiting in (
        failed_archive honest marks held d d slots last end total carry carry files s closed was.0 refl,
        goes_on s s.active shared honest marks held d d closed true refl (λ is. absurd (cc)) (λ is. absurd (cc))
            (λ is. absurd (cc)) (under_way_in next job waiting) was.1,
        was.2,
      )

-- a file that has further owners is one of an archive that is shared
pub is_shared_too : (shared own : Bool) → own ≡ true → (shared ≡ false → own ≡ false) → shared ≡ true
is_shared_too true own is alone = refl
is_shared_too false own is alone = let not = alone refl in absurd (cc)
