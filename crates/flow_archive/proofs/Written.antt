-- An archive whose job makes its file.
use Rattle.std.proofs.Common.{◌≡◌, ◌≢◌, inr, inl, ⊎_elim, ℕ, ◌+◌, ◌<◌, ◌≤◌, ◌^◌, Bool, true, false, IsTrue, List, []}
use Rattle.std.proofs.Common.{◌∷◌, ◌++◌, length, take, drop, refl, sym, ◌∙◌, ap, subst, arith, Option, Some, None, Err}
use Rattle.std.specs.Prelude.{replicate, IfSome, ⊤}
use Rattle.std.specs.List.{AllByRecursion}
use Rattle.std.proofs.lemmas.List.{length-take, take_at, take_all}
use Rattle.flow_disk.specs.Disk.{Held, Marks, AllImages, ComesOf, InFile, IsDiskImage, IsImage}
use Rattle.flow_disk.proofs.Images.{image_here, with_image, with_image_is}
use Rattle.flow_manifest.specs.declared.manifest.Entry.{Entry}
use Rattle.flow_manifest.specs.declared.slots.Slot.{Slot}
use Rattle.flow_manifest.specs.declared.slots.Slots.{Slots}
use Rattle.flow_manifest.specs.Manifest.{IsValidManifest, IsEntry}
use Rattle.flow_manifest.specs.Following.{count_before, front_of, source_of}
use Rattle.flow_manifest.specs.Slots.{file_of}
use Rattle.flow_manifest.proofs.EntryLists.{all_by}
use Rattle.flow_rolled.specs.Rollup.{IsRollup}
use Rattle.flow_segment.specs.Carry.{Carry}
use Rattle.flow_segment.specs.Steps.{Becomes}
use Rattle.flow_model.specs.State.{Job, Part, State}
use Rattle.flow_model.specs.Chain.{HandsOn}
use Rattle.flow_model.specs.Jobs.{source_parts, width_made, IsJobSum, IsStagedAt}
use Rattle.flow_recover.specs.Kept.{IsCounted, IsReadyFor}
use Rattle.flow_model.specs.Standing.{IsKnown}
use Rattle.flow_archive.specs.declared.refusal.ArchiveError.{ArchiveError}
use Rattle.flow_archive.specs.declared.refusal.ArchiveError.TheVariants.{Message, OutOfMemory, NumbersSpent, NotEmpty}
use Rattle.flow_archive.specs.declared.refusal.ArchiveError.TheVariants.{Fault, NoRoom, ManifestFull, NothingToSeal}
use Rattle.flow_archive.specs.declared.refusal.ArchiveError.TheVariants.{Closed}
use Rattle.flow_archive.specs.declared.refusal.ArchiveError.TheVariants.{Damaged, SourceFault, RollBusy, NoRoll}
use Rattle.flow_archive.specs.declared.refusal.ArchiveError.TheVariants.{RollCount, RollNotDone, Pinned, NothingToRetire}
use Rattle.flow_archive.specs.Answers.{job_generations, staged_generations}
use Rattle.flow_archive.specs.JobAnswers.{with_staged, AnswersWrite, IsJobFile, IsStagedIn, IsWritten, MayWrite}
use Rattle.flow_archive.specs.Frozen.{AreHeldAs, Frozen}
use Rattle.flow_archive.specs.Seen.{AreFrozen, IsArchive}
use Rattle.flow_archive.specs.Sources.{IsJobTime}
use Rattle.flow_archive.specs.Staging.{HasNoOctets, MayStage}
use Rattle.flow_archive.specs.UnderWay.{frozen_staged, number_in, sized, numbers_of, staged_file, staged_in, job_in, under_way_in, AllDiffer, HasOwnFiles, IsOnDisk, IsRunningJob, IsStaged}
use Rattle.flow_archive.specs.UnderWay.{IsUnderWay, IsUnnamed, IsWaiting, FrozenStaged, RunningJob}
use Rattle.flow_archive.proofs.Stand.{elsewhere, slot_below}

-- ---- a state with other work under way

abbrev pub with_work : State → ℕ → Option Job → List ℕ → State
with_work s next job waiting = record s { next = next; job = job; waiting = waiting }

module _ (s : State) (next : ℕ) (job : Option Job) (waiting : List ℕ) where
  abbrev now : State
  now = with_work s next job waiting

  counted_with : (last : Entry) (end total : ℕ) → s.manifest.next ≤ next → IsCounted s last end total
      → IsCounted now last end total
  counted_with last end total from was = record {
    valid = was.valid;
    next = from;
    active_entry_is = was.active_entry_is;
    end_is = was.end_is;
    long = was.long;
    total_is = was.total_is;
    within = record { limit = was.within.limit; all = was.within.all };
  }

  hands_with : (carry : Carry) → HandsOn s carry → HandsOn now carry
  hands_with carry was = record { sealed = was.sealed; parts = was.parts; active = was.active }

  known_with : (slots : Slots) (image : ℕ → List ℕ) → IsKnown slots s image → IsKnown slots now image
  known_with slots image was = record {
    slots_are = was.slots_are;
    current = was.current;
    files = record {
      parts = was.files.parts;
      active = was.files.active;
      within = record { limit = was.files.within.limit; all = was.files.within.all };
      chained = (was.files.chained.0, hands_with was.files.chained.0 was.files.chained.1);
    };
  }

  pub archive_with : {D : Type 0} (honest : D → Bool) (marks : D → ℕ → Marks) (held : D → ℕ → Held) (d d1 : D)
      (slots : Slots) (last : Entry) (end total : ℕ) (carry : Carry) (files : List Frozen) (closed : Bool)
      → IsArchive honest marks held d slots last end total carry files s closed → honest d1 ≡ honest d
      → s.manifest.next ≤ next → (closed ≡ false → IsReadyFor (marks d1) last.file next end)
      → (closed ≡ false → IsTrue (honest d) → AllImages (held d1) (IsKnown slots s))
      → (closed ≡ false → AreFrozen (marks d1) (front_of s.manifest))
      → IsArchive honest marks held d1 slots last end total carry files now closed
  archive_with honest marks held d d1 slots last end total carry files closed was same from ready known frozen = record {
    counted = counted_with last end total from was.counted;
    files_are = subst (λ (b : Bool). AreHeldAs b (front_of s.manifest) files) (sym same) was.files_are;
    stand = λ h. was.stand (subst IsTrue same h);
    still_open = λ is.
        let still = was.still_open is in record {
          kept = record {
            counted = counted_with last end total from still.kept.counted;
            ready = ready is;
            known = λ h image left. known_with slots image (known is (subst IsTrue same h) image left);
          };
          segment = still.segment;
          hands_on = λ h. hands_with carry (still.hands_on (subst IsTrue same h));
          frozen = frozen is;
        };
  }

-- ---- one more file beside those that are named

-- no file is named that has this number
pub far_from : (s : State) → IsValidManifest s.manifest → (n : ℕ) → s.manifest.next ≤ n
    → AllByRecursion (λ e. e.file ≢ n) s.manifest.entries
far_from s valid n from = all_by (IsEntry s.manifest.limit s.manifest.next) (λ e. e.file ≢ n)
    (λ e one same. omega (arith, same, one.file_below, from)) s.manifest.entries valid.each

pub ready_beside : (old new : ℕ → Marks) (active next end : ℕ) → 3 ≤ active → active < next
    → IsReadyFor old active next end → ((n : ℕ) → n ≢ next → new n ≡ old n)
    → IsReadyFor new active (next + 1) end
ready_beside old new active next end from below ready others = record {
  slot_room = λ slot. subst (λ (k : Marks). 1 ≤ k.size) (sym (others (file_of slot) (apart slot))) (ready.slot_room
      slot);
  slot_settled = λ slot. ap (λ (k : Marks). k.settled) (others (file_of slot) (apart slot)) ∙ ready.slot_settled slot;
  slot_thawed = λ slot. ap (λ (k : Marks). k.frozen) (others (file_of slot) (apart slot)) ∙ ready.slot_thawed slot;
  room = subst (λ (k : Marks). end + 2 ≤ k.size) (sym here) ready.room;
  settled = ap (λ (k : Marks). k.settled) here ∙ ready.settled;
  thawed = λ n which. ⊎_elim
      (λ same. ap (λ (k : Marks). k.frozen) (others n (λ is. omega (arith, is, same, below))) ∙ ready.thawed n (inl same))
      (λ le. ap (λ (k : Marks). k.frozen) (others n (λ is. omega (arith, is, le)))
      ∙ ready.thawed n (inr (omega (arith, le))))
      which;
}
  where
    apart : (slot : Slot) → file_of slot ≢ next
    apart slot is = omega (arith, is, slot_below slot, from, below)

    here : new active ≡ old active
    here = others active (λ is. omega (arith, is, below))

-- what a stop leaves while it is made
pub beside : (on_disk : ℕ → Held) (slots : Slots) (s : State) (file : ℕ) (Q : List ℕ → List ℕ → Type 0)
    → s.manifest.next ≤ file → AllImages on_disk (IsKnown slots s) → (image : ℕ → List ℕ)
    → ComesOf on_disk (InFile file Q) image → IsKnown slots s image
beside on_disk slots s file Q far known image came =
    elsewhere slots s file Q came.0 image far (known came.0 came.1) came.2

-- ---- its octets

pub made_is : {S : Type 0} (number size : S → ℕ) (honest : S → Bool) (octets : S → List ℕ) (file : S) (given : List ℕ)
    → size file ≡ length given → octets file ≡ given → (frozen_staged number size honest octets file).octets ≡ given
made_is number size honest octets file given long is =
    ap (λ (n : ℕ). sized n (octets file)) long ∙ ap (λ (l : List ℕ). sized (length given) l) is
    ∙ take_at given (replicate (length given) 0) (length given) refl

pub stands_alone : (before after : ℕ → Held) (reads : ℕ → List ℕ) (file : ℕ) (given : List ℕ)
    → IsDiskImage after reads → AllImages after (ComesOf before (InFile file (Becomes given))) → (image : List ℕ)
    → IsImage (after file) image → image ≡ given
stands_alone before after reads file given are all image is =
    let came = all (with_image reads file image)
    (with_image_is after reads file image is (λ n differs. are n)) in
    let step = came.2 in sym (image_here reads file image) ∙ step.here

pub staged_at : (f : FrozenStaged) (given image : List ℕ) → f.octets ≡ given → image ≡ given → IsStagedAt image (staged_file f)
staged_at f given image is same =
    let alike : image ≡ f.octets = same ∙ sym is in record {
      long = omega (arith, ap (λ (l : List ℕ). length l) alike);
      front = take_all (length f.octets) image (omega (arith, ap (λ (l : List ℕ). length l) alike)) ∙ alike;
    }

-- ---- what is under way

abbrev pub holding : RunningJob → FrozenStaged → RunningJob
holding r f = record r { staged = Some f }

module _ (s : State) (r : RunningJob) (f : FrozenStaged) (waiting : List Frozen) where
  abbrev then : State
  then = with_work s (s.next + 1) (job_in (Some (holding r f))) s.waiting

  unnamed_then : (n : ℕ) → IsUnnamed s n → IsUnnamed then n
  unnamed_then n is = record { from = is.from; below = omega (arith, is.below); apart = is.apart }

  waiting_then : (old new : ℕ → Marks) (closed : Bool) → ((n : ℕ) → n ≢ s.next → new n ≡ old n)
      → (files : List Frozen) → AllByRecursion (IsWaiting old s closed) files
      → AllByRecursion (IsWaiting new then closed) files
  waiting_then old new closed others [] all = tt
  waiting_then old new closed others (w ∷ files) all = (
    record {
      unnamed = unnamed_then w.entry.file all.0.unnamed;
      frozen = λ is. ap (λ (k : Marks). k.frozen)
          (others w.entry.file (λ same. omega (arith, same, (all.0.unnamed).below))) ∙ all.0.frozen is;
    },
    waiting_then old new closed others files all.1,
  )

  below_next : (old : ℕ → Marks) (closed : Bool) (files : List Frozen) → AllByRecursion (IsWaiting old s closed) files
      → f.file ≡ s.next → AllByRecursion (λ n. n ≢ f.file) (numbers_of files)
  below_next old closed [] all file = tt
  below_next old closed (w ∷ files) all file =
      ((λ same. omega (arith, same, file, (all.0.unnamed).below)), below_next old closed files all.1 file)

  pub work_written : {D : Type 0} (honest : D → Bool) (marks : D → ℕ → Marks) (held : D → ℕ → Held) (d d1 : D)
      (closed : Bool) → IsValidManifest s.manifest → s.manifest.next ≤ s.next → 3 ≤ s.next → honest d1 ≡ honest d
      → ((n : ℕ) → n ≢ s.next → marks d1 n ≡ marks d n) → f.file ≡ s.next → (marks d1 s.next).frozen ≡ true
      → r.sources ≤ r.read → s.manifest.generation + 1 < 2 ^ 64 → f.honest ≡ honest d
      → (IsTrue (honest d) → (image : List ℕ) → IsImage (held d1 s.next) image → IsStagedAt image (staged_file f))
      → (IsTrue (honest d) → (rollup : IsRollup r.rows.width f.octets r.rows) × (rollup.time ≡ r.time))
      → IsUnderWay honest marks held d s (under_way_in s.next (Some r) waiting) closed
      → IsUnderWay honest marks held d1 then (under_way_in (s.next + 1) (Some (holding r f)) waiting) closed
  work_written honest marks held d d1 closed valid far from same others file frozen all generation is_honest at made was =
      let rolling : IsRunningJob (honest d) s r = was.job in
      let unnamed : IsUnnamed then f.file = record {
        from = omega (arith, file, from);
        below = omega (arith, file);
        apart = far_from s valid f.file (omega (arith, file, far));
      } in
      let staged : IsStaged (honest d) then (holding r f) f = record {
        all = omega (arith, all, rolling.read);
        generation = generation;
        unnamed = unnamed;
        honest_is = is_honest;
        made = λ h. subst (λ (w : ℕ). (rollup : IsRollup w f.octets r.rows) × (rollup.time ≡ r.time)) rolling.width
            (made h);
      } in
      let is : IsRunningJob (honest d) then (holding r f) = record {
        some = rolling.some;
        few = rolling.few;
        read = rolling.read;
        width = rolling.width;
        sums = rolling.sums;
        time = rolling.time;
        staged = staged;
      } in
      let there : IsOnDisk honest marks held d1 f = record {
        frozen = ap (λ (n : ℕ). (marks d1 n).frozen) file ∙ frozen;
        octets = λ h image left. at (subst IsTrue same h) image (subst (λ (n : ℕ). IsImage (held d1 n) image) file left);
      } in
      record {
        job = subst (λ (b : Bool). IsRunningJob b then (holding r f)) (sym same) is;
        on_disk = λ _. there;
        waiting = waiting_then (marks d) (marks d1) closed others waiting was.waiting;
      }

-- whose files it has alone
pub own_written : (s : State) (r : RunningJob) (f : FrozenStaged) (waiting files : List Frozen) (marks : ℕ → Marks)
    (closed shared : Bool) → r.staged ≡ None → f.file ≡ s.next → AllByRecursion (IsWaiting marks s closed) waiting
    → HasOwnFiles shared files (under_way_in s.next (Some r) waiting)
    → HasOwnFiles shared files (under_way_in (s.next + 1) (Some (holding r f)) waiting)
own_written s r f waiting files marks closed shared none file waits own = record {
  alone = own.alone;
  waiting = own.waiting;
  differ = (
    below_next s r f waiting marks closed waiting waits file,
    subst (λ (x : Option FrozenStaged). AllDiffer (number_in (staged_in x) ++ numbers_of waiting)) none own.differ,
  );
}

-- ---- what is answered

-- a job, as the state has it
abbrev pub told : RunningJob → Job
told r = record { kind = r.kind; sources = r.sources; read = r.read; staged = staged_in r.staged }

pub none_staged : (f : Option FrozenStaged) → staged_generations (staged_in f) ≡ 0 → f ≡ None
none_staged None is = refl
none_staged (Some f) is = absurd (omega (arith, is))

made_before : (honest was : Bool) (s : State) (r : RunningJob) (f : Option FrozenStaged) → r.staged ≡ f → s.job ≡ Some (told r)
    → IfSome f (IsStaged was s r) → 1 ≤ staged_generations (staged_in f) → IsWritten honest s s
made_before honest was s r None at same is some = absurd (omega (arith, some))
made_before honest was s r (Some f) at same is some = (
  told r,
  same,
  (omega (arith, is.all), subst (λ (x : Option FrozenStaged). IsStagedIn honest s (told r) (staged_in x) s) (sym at) refl),
)

-- a file that was made before stays
pub is_written_before : (honest was : Bool) (s : State) (job : Option RunningJob) → s.job ≡ job_in job
    → IfSome job (IsRunningJob was s) → 1 ≤ job_generations (job_in job) → IsWritten honest s s
is_written_before honest was s None same is some = absurd (omega (arith, some))
is_written_before honest was s (Some r) same is some = made_before honest was s r r.staged refl same is.staged some

pub none_made : (r : RunningJob) (job : Option RunningJob) → job ≡ Some r → job_generations (job_in job) ≡ 0 → r.staged ≡ None
none_made r job is none =
    none_staged r.staged (sym (ap (λ (j : Option RunningJob). job_generations (job_in j)) is) ∙ none)

pub may_write : (s : State) (r : RunningJob) (job : Option RunningJob) → job ≡ Some r → job_generations (job_in job) ≡ 0
    → MayStage s.next s.manifest.generation r → MayWrite s (told r)
may_write s r job is none may = record {
  read = omega (arith, may.all);
  none = ap staged_in (none_made r job is none);
  numbers = (may.file, may.manifest);
}

pub not_written : (honest closed : Bool) (s : State) (job : Option RunningJob) (e : ArchiveError) → closed ≡ false
    → s.job ≡ job_in job → job_generations (job_in job) ≡ 0 → HasNoOctets job s.next s.manifest.generation e
    → AnswersWrite {X = ⊤} honest closed s (Err e) s
not_written honest closed s job NoRoll still same none is = (still, same ∙ ap job_in is, refl)
not_written honest closed s job RollNotDone still same none (r, is, lt) =
    (still, (told r, same ∙ ap job_in is, omega (arith, lt)), refl)
not_written honest closed s job NumbersSpent still same none (r, is, all, spent) = (
  still,
  (told r, same ∙ ap job_in is, (omega (arith, all), ap staged_in (none_made r job is none))),
  (λ numbers. ⊎_elim (λ file. omega (arith, numbers.0, file))
      (λ generation. omega (arith, numbers.1, generation)) spent),
  refl,
)
not_written honest closed s job OutOfMemory still same none (r, is, may) =
    (still, (told r, same ∙ ap job_in is, may_write s r job is none may), refl)
not_written honest closed s job (Message fault) still same none is = absurd is
not_written honest closed s job NotEmpty still same none is = absurd is
not_written honest closed s job (Damaged file at) still same none is = absurd is
not_written honest closed s job SourceFault still same none is = absurd is
not_written honest closed s job Fault still same none is = absurd is
not_written honest closed s job NoRoom still same none is = absurd is
not_written honest closed s job ManifestFull still same none is = absurd is
not_written honest closed s job NothingToSeal still same none is = absurd is
not_written honest closed s job RollBusy still same none is = absurd is
not_written honest closed s job RollCount still same none is = absurd is
not_written honest closed s job Pinned still same none is = absurd is
not_written honest closed s job NothingToRetire still same none is = absurd is
not_written honest closed s job Closed still same none is = absurd is

-- the sums of all sources, and their Export Time
pub is_made_of : (honest : Bool) (s : State) (r : RunningJob) (octets : List ℕ) → IsRunningJob honest s r
    → r.sources ≤ r.read → IsTrue honest
    → (rollup : IsRollup (width_made r.kind s.manifest) octets r.rows) × (rollup.time ≡ r.time)
    → IsJobFile s (told r) octets
is_made_of honest s r octets is all h (rollup, time) =
    let parts = source_parts r.kind r.sources s in
    let whole : take r.read parts ≡ parts = take_all r.read parts (omega (
      arith,
      all,
      length-take r.sources (drop (count_before (source_of r.kind) s.manifest.entries) s.parts),
    )) in (
      r.rows,
      rollup,
      subst (λ (l : List Part). IsJobSum r.kind s.manifest l r.rows) whole (is.sums h),
      subst (IsJobTime r.kind parts) (sym time)
          (subst (λ (l : List Part). IsJobTime r.kind l r.time) whole (is.time h)),
    )

pub is_written : (honest was : Bool) (s : State) (r : RunningJob) (f : FrozenStaged) (job : Option RunningJob) → job ≡ Some r
    → s.job ≡ job_in job → job_generations (job_in job) ≡ 0 → MayStage s.next s.manifest.generation r
    → (IsTrue honest → IsJobFile s (told r) f.octets) → (after : State)
    → after ≡ with_staged s (told r) f.octets → IsWritten honest s after
is_written honest was s r f job is same none may made after after_is = (
  told r,
  same ∙ ap job_in is,
  (
    omega (arith, may.all),
    subst (λ (x : Option FrozenStaged). IsStagedIn honest s (told r) (staged_in x) after) (sym (none_made r job is none))
        ((may.file, may.manifest), (f.octets, made, after_is)),
  ),
)
