-- An archive whose job changes, and nothing else.
use Rattle.std.proofs.Common.{◌≡◌, ◌≢◌, inl, ℕ, ◌<◌, ◌≤◌, Bool, true, false, IsTrue, List, [], ◌∷◌, refl, sym, subst}
use Rattle.std.proofs.Common.{arith, Option, Some, None, Ok}
use Rattle.std.specs.Prelude.{IfSome, is_some}
use Rattle.std.specs.List.{AllByRecursion}
use Rattle.flow_disk.specs.declared.disk.Disk.{Ghosts}
use Rattle.flow_disk.specs.Disk.{Held, Marks, AllImages, IsDiskImage}
use Rattle.flow_disk.proofs.Moments.{started}
use Rattle.flow_manifest.specs.declared.manifest.Entry.{Entry}
use Rattle.flow_manifest.specs.declared.slots.Slots.{Slots}
use Rattle.flow_manifest.specs.declared.following.JobKind.{JobKind}
use Rattle.flow_manifest.specs.declared.following.JobKind.TheVariants.{Merge, Roll}
use Rattle.flow_manifest.specs.declared.manifest.Manifest.{Manifest}
use Rattle.flow_manifest.specs.Following.{count_of, source_of}
use Rattle.flow_manifest.specs.Manifest.{head_of, IsInRange}
use Rattle.flow_segment.specs.Carry.{Carry}
use Rattle.flow_model.specs.State.{Job, State, reopened}
use Rattle.flow_model.specs.Jobs.{width_made}
use Rattle.flow_model.specs.Standing.{StandsFor}
use Rattle.flow_model.proofs.Sourcing.{job_none}
use Rattle.flow_archive.specs.Frozen.{Frozen}
use Rattle.flow_archive.specs.Seen.{IsArchive, IsStep, StandsBeforeOrAfter}
use Rattle.flow_archive.specs.Sources.{IsJobTime}
use Rattle.flow_archive.specs.UnderWay.{IsOnDisk, IsRunningJob, IsStaged, IsUnderWay, IsUnnamed, IsWaiting}
use Rattle.flow_archive.specs.UnderWay.{FrozenStaged, RunningJob, UnderWay, fresh, job_in, under_way_in}
use Rattle.flow_archive.proofs.Directing.{beside_archive}

-- ---- a state with another job

abbrev pub with_job : State → Option Job → State
with_job s job = record s { job = job }

module _ (s : State) (job : Option Job) where
  abbrev now : State
  now = with_job s job

  pub job_archive : {D : Type 0} (honest : D → Bool) (marks : D → ℕ → Marks) (held : D → ℕ → Held) (d : D)
      (slots : Slots) (last : Entry) (end total : ℕ) (carry : Carry) (files : List Frozen) (closed : Bool)
      → IsArchive honest marks held d slots last end total carry files s closed
      → IsArchive honest marks held d slots last end total carry files now closed
  job_archive honest marks held d slots last end total carry files closed =
      beside_archive s job s.waiting s.shared honest marks held d slots last end total carry files closed

  unnamed : (n : ℕ) → IsUnnamed s n → IsUnnamed now n
  unnamed n is = record { from = is.from; below = is.below; apart = is.apart }

  waiting_too : (marks : ℕ → Marks) (closed : Bool) (files : List Frozen)
      → AllByRecursion (IsWaiting marks s closed) files → AllByRecursion (IsWaiting marks now closed) files
  waiting_too marks closed [] all = tt
  waiting_too marks closed (f ∷ files) all =
      (record { unnamed = unnamed f.entry.file all.0.unnamed; frozen = all.0.frozen }, waiting_too marks closed files all.1)

  staged_too : (honest : Bool) (r : RunningJob) (f : Option FrozenStaged) → IfSome f (IsStaged honest s r)
      → IfSome f (IsStaged honest now r)
  staged_too honest r None is = tt
  staged_too honest r (Some f) is = record {
    all = is.all;
    generation = is.generation;
    unnamed = unnamed f.file is.unnamed;
    honest_is = is.honest_is;
    made = is.made;
  }

  rolling_too : (honest : Bool) (r : RunningJob) → IsRunningJob honest s r → IsRunningJob honest now r
  rolling_too honest r is = record {
    some = is.some;
    few = is.few;
    read = is.read;
    width = is.width;
    sums = is.sums;
    time = is.time;
    staged = staged_too honest r r.staged is.staged;
  }

-- ---- a job of which no file is made yet

module _ (s : State) (r : RunningJob) (none : r.staged ≡ None) {D : Type 0} (honest : D → Bool) (marks : D → ℕ → Marks)
    (held : D → ℕ → Held) (d : D) (work : UnderWay) (closed : Bool) where
  pub job_work : IsRunningJob (honest d) s r → IsUnderWay honest marks held d s work closed
      → IsUnderWay honest marks held d (with_job s (job_in (Some r))) (under_way_in work.next (Some r) work.waiting) closed
  job_work is was = record {
    job = rolling_too s (job_in (Some r)) (honest d) r is;
    on_disk = λ _. subst (λ (f : Option FrozenStaged). IfSome f (IsOnDisk honest marks held d)) (sym none) tt;
    waiting = waiting_too s (job_in (Some r)) (marks d) closed work.waiting was.waiting;
  }

-- ---- no job

pub no_job_work : {D : Type 0} (honest : D → Bool) (marks : D → ℕ → Marks) (held : D → ℕ → Held) (d : D) (s : State)
    (work : UnderWay) (closed : Bool) → IsUnderWay honest marks held d s work closed
    → IsUnderWay honest marks held d (with_job s None) (under_way_in work.next None work.waiting) closed
no_job_work honest marks held d s work closed was = record {
  job = tt;
  on_disk = λ _. tt;
  waiting = waiting_too s None (marks d) closed work.waiting was.waiting;
}

-- ---- a job that begins

time_none : (kind : JobKind) → IsJobTime kind [] 0
time_none Roll = ([], refl, refl)
time_none Merge = refl

pub fresh_rolling : (honest : Bool) (s : State) (kind : JobKind) (count : ℕ) → 1 ≤ count
    → count ≤ count_of (source_of kind) s.manifest.entries
    → IsRunningJob honest s (fresh kind count (width_made kind s.manifest))
fresh_rolling honest s kind count some few = record {
  some = some;
  few = few;
  read = omega arith;
  width = refl;
  sums = λ _. job_none kind s.manifest;
  time = λ _. time_none kind;
  staged = tt;
}

pub no_job : (job : Option RunningJob) → is_some job ≡ false → job_in job ≡ None
no_job None is = refl
no_job (Some r) is = absurd (cc)

pub some_job : (job : Option RunningJob) → is_some job ≡ true → job_in job ≢ None
some_job None is none = absurd (cc)
some_job (Some r) is none = absurd (cc)

pub width_some : (kind : JobKind) (m : Manifest) → IsInRange (head_of m) → 0 < width_made kind m
width_some Roll m ranges = omega (arith, ranges.width_from)
width_some Merge m ranges = omega (arith, ranges.width_from, ranges.wide_from)

-- ---- a step that doesn't call the device

pub without_device : {D T S X : Type 0} (g : Ghosts D S X) (disk : D) (before after : State)
    (closed : Bool) (After : State → Type 0) (answer : T) → closed ≡ false → After after
    → reopened after ≡ reopened before
    → (IsTrue (g.honest disk) → (image : ℕ → List ℕ) → g.left_since disk (g.moment disk) image
    → IsDiskImage (g.held disk) image)
    → (IsTrue (g.honest disk) → AllImages (g.held disk) (λ image. StandsFor image (reopened before)))
    → IsStep {D = D} {T = T} g (record { disk = disk; state = before; closed = closed })
    (record { disk = disk; state = after; closed = closed }) After (Ok answer)
without_device g disk before after closed After answer is done same only stands = record {
  honest_too = refl;
  any_moment = λ h _. started g disk (StandsBeforeOrAfter before After)
      (λ image left. inl (stands h image (only h image left)));
  done = ((λ _. done), is, is);
  fault = λ never. absurd (cc);
  stands = λ h _ image left. subst (StandsFor image) (sym same) (stands h image (only h image left));
  refused = tt;
}
