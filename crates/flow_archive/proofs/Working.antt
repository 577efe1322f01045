-- What is under way in an archive, as it goes on.
use Rattle.std.proofs.Common.{◌≡◌, ◌≢◌, ℕ, ◌+◌, ◌<◌, ◌≤◌, ◌^◌, Bool, false, IsTrue, List, [], ◌∷◌, ◌++◌}
use Rattle.std.proofs.Common.{length, take, drop, refl, sym, ◌∙◌, ap, subst, arith}
use Rattle.std.specs.Prelude.{Option, Some, None, IfSome, ◌==◌, nat_lt, cond}
use Rattle.std.specs.List.{sum_by, AllByRecursion}
use Rattle.std.proofs.lemmas.List.{drop-append-le, length-drop, take-append-le}
use Rattle.std.proofs.lemmas.List.Sums.{sum_by-append}
use Rattle.flow_disk.specs.Disk.{Held, Marks, IsImage}
use Rattle.flow_manifest.specs.declared.manifest.Entry.{Entry}
use Rattle.flow_manifest.specs.declared.manifest.Manifest.{Manifest}
use Rattle.flow_manifest.specs.declared.manifest.Kind.{Kind}
use Rattle.flow_manifest.specs.declared.manifest.Kind.TheVariants.{Active, Rolled, Sealed}
use Rattle.flow_manifest.specs.declared.following.JobKind.{JobKind}
use Rattle.flow_manifest.specs.declared.following.JobKind.TheVariants.{Merge, Roll}
use Rattle.flow_manifest.specs.Manifest.{rank, IsValidManifest}
use Rattle.flow_manifest.specs.Following.{active_entry, active_of, count_before, count_of, front_of, next_manifest}
use Rattle.flow_manifest.specs.Following.{sealed_entry, source_of}
use Rattle.flow_manifest.proofs.EntryLists.{all_join, all_left, all_right}
use Rattle.flow_manifest.proofs.ValidEntries.{are_entries, front_long, split}
use Rattle.flow_manifest.proofs.ManifestAfterInstall.{behind_short}
use Rattle.flow_measure.specs.Sums.{Table}
use Rattle.flow_rolled.specs.Rollup.{IsRollup}
use Rattle.flow_model.specs.State.{end_of, after_seal, Part, State}
use Rattle.flow_model.specs.Jobs.{source_parts, width_made, IsJobSum}
use Rattle.flow_archive.specs.Answers.{job_generations, staged_generations}
use Rattle.flow_archive.specs.Frozen.{Frozen}
use Rattle.flow_archive.specs.Sources.{IsJobTime}
use Rattle.flow_archive.specs.UnderWay.{IsOnDisk, IsRunningJob, IsStaged, IsUnderWay, IsUnnamed, IsWaiting}
use Rattle.flow_archive.specs.UnderWay.{FrozenStaged, RunningJob, UnderWay, job_in, none_under_way, staged_in, under_way_in}

-- the active file isn't one of these
pub other_file : (s : State) (n : ℕ) → IsValidManifest s.manifest → IsUnnamed s n → n ≢ (active_of s.manifest).file
other_file s n valid is =
    let m = s.manifest in
    let both = subst (AllByRecursion (λ e. e.file ≢ n)) (split m valid) is.apart in
    let here = all_right (λ e. e.file ≢ n) (front_of m) (active_of m ∷ []) both in λ same. here.0 (sym same)

-- ---- where nothing but the active segment changes, and whether the archive is shared

abbrev pub with_active : State → Part → Bool → State
with_active s active shared = record s { active = active; shared = shared }

module _ (s : State) (active : Part) (shared : Bool) where
  abbrev pub now : State
  now = with_active s active shared

  unnamed_too : (n : ℕ) → IsUnnamed s n → IsUnnamed now n
  unnamed_too n is = record { from = is.from; below = is.below; apart = is.apart }

  staged_too : (honest : Bool) (r : RunningJob) (f : Option FrozenStaged) → IfSome f (IsStaged honest s r)
      → IfSome f (IsStaged honest now r)
  staged_too honest r None is = tt
  staged_too honest r (Some f) is = record {
    all = is.all;
    generation = is.generation;
    unnamed = unnamed_too f.file is.unnamed;
    honest_is = is.honest_is;
    made = is.made;
  }

  rolling_too : (honest : Bool) (job : Option RunningJob) → IfSome job (IsRunningJob honest s)
      → IfSome job (IsRunningJob honest now)
  rolling_too honest None is = tt
  rolling_too honest (Some r) is = record {
    some = is.some;
    few = is.few;
    read = is.read;
    width = is.width;
    sums = is.sums;
    time = is.time;
    staged = staged_too honest r r.staged is.staged;
  }

  module _ {D : Type 0} (honest : D → Bool) (marks : D → ℕ → Marks) (held : D → ℕ → Held) (d d1 : D)
      (closed later : Bool) (honest_too : honest d1 ≡ honest d) (still : later ≡ false → closed ≡ false)
      (marks_too : later ≡ false → (n : ℕ) → IsUnnamed s n → marks d1 n ≡ marks d n)
      (held_too : later ≡ false → IsTrue (honest d) → (n : ℕ) → IsUnnamed s n → held d1 n ≡ held d n) where
    staged_there : later ≡ false → (r : RunningJob) (f : Option FrozenStaged) → IfSome f (IsStaged (honest d) s r)
        → IfSome f (IsOnDisk honest marks held d) → IfSome f (IsOnDisk honest marks held d1)
    staged_there is r None staged there = tt
    staged_there is r (Some f) staged there = record {
      frozen = ap (λ (k : Marks). k.frozen) (marks_too is f.file staged.unnamed) ∙ there.frozen;
      octets = λ h1 image left.
          let h = subst IsTrue honest_too h1 in
          there.octets h image
          (subst (λ (x : Held). IsImage x image) (held_too is h f.file staged.unnamed) left);
    }

    job_there : later ≡ false → (job : Option RunningJob) → IfSome job (IsRunningJob (honest d) s)
        → IfSome job (λ r. IfSome r.staged (IsOnDisk honest marks held d))
        → IfSome job (λ r. IfSome r.staged (IsOnDisk honest marks held d1))
    job_there is None rolling there = tt
    job_there is (Some r) rolling there = staged_there is r r.staged rolling.staged there

    waiting_too : (files : List Frozen) → AllByRecursion (IsWaiting (marks d) s closed) files
        → AllByRecursion (IsWaiting (marks d1) now later) files
    waiting_too [] all = tt
    waiting_too (f ∷ files) all = (
      record {
        unnamed = unnamed_too f.entry.file all.0.unnamed;
        frozen = λ is.
            ap (λ (k : Marks). k.frozen) (marks_too is f.entry.file all.0.unnamed) ∙ all.0.frozen (still is);
      },
      waiting_too files all.1,
    )

    pub goes_on : (work : UnderWay) → IsUnderWay honest marks held d s work closed
        → IsUnderWay honest marks held d1 now work later
    goes_on work was = record {
      job = subst (λ (h : Bool). IfSome work.job (IsRunningJob h now)) (sym honest_too)
          (rolling_too (honest d) work.job was.job);
      on_disk = λ is. job_there is work.job was.job (was.on_disk (still is));
      waiting = waiting_too work.waiting was.waiting;
    }

-- ---- where nothing is under way

pub nothing_under_way : {D : Type 0} (honest : D → Bool) (marks : D → ℕ → Marks) (held : D → ℕ → Held) (d : D)
    (s : State) (next : ℕ) (closed : Bool) → IsUnderWay honest marks held d s (none_under_way next) closed
nothing_under_way honest marks held d s next closed = record { job = tt; on_disk = λ is. tt; waiting = tt }

-- ---- a seal

width_next : (m : Manifest) (end count file prefix : ℕ) (kind : JobKind)
    → width_made kind (next_manifest m end count file prefix) ≡ width_made kind m
width_next m end count file prefix Roll = refl
width_next m end count file prefix Merge = refl

sum_next : (m : Manifest) (end count file prefix : ℕ) (kind : JobKind) (parts : List Part) (rows : Table)
    → IsJobSum kind m parts rows → IsJobSum kind (next_manifest m end count file prefix) parts rows
sum_next m end count file prefix Roll parts rows is = is
sum_next m end count file prefix Merge parts rows is = is

module _ (m : Manifest) (valid : IsValidManifest m) (end count file prefix : ℕ) where
  abbrev sealed : Entry
  sealed = sealed_entry (active_of m) end count

  abbrev fresh : Entry
  fresh = active_entry file prefix

  both_ends : (f : Entry → ℕ)
      → (sum_by f m.entries ≡ sum_by f (front_of m) + f (active_of m))
      × (sum_by f (next_manifest m end count file prefix).entries ≡ sum_by f (front_of m) + f sealed + f fresh)
  both_ends f = (
    omega (arith, ap (sum_by f) (split m valid), sum_by-append f (front_of m) (active_of m ∷ [])),
    omega (arith, sum_by-append f (front_of m) (sealed ∷ fresh ∷ [])),
  )

  active_kind : (f : Kind → ℕ) → f (active_of m).kind ≡ f Active
  active_kind f = ap f (are_entries m valid).kind

  more_sources : (kind : JobKind) → count_of (source_of kind) m.entries
      ≤ count_of (source_of kind) (next_manifest m end count file prefix).entries
  more_sources Roll = let ends = both_ends (λ e. cond (rank e.kind == rank Sealed) 1 0) in
      omega (arith, ends.0, ends.1, active_kind (λ k. cond (rank k == rank Sealed) 1 0))
  more_sources Merge = let ends = both_ends (λ e. cond (rank e.kind == rank Rolled) 1 0) in
      omega (arith, ends.0, ends.1, active_kind (λ k. cond (rank k == rank Rolled) 1 0))

  same_place : (kind : JobKind) → count_before (source_of kind) (next_manifest m end count file prefix).entries
      ≡ count_before (source_of kind) m.entries
  same_place Roll = let ends = both_ends (λ e. cond (nat_lt (rank e.kind) (rank Sealed)) 1 0) in
      omega (arith, ends.0, ends.1, active_kind (λ k. cond (nat_lt (rank k) (rank Sealed)) 1 0))
  same_place Merge = let ends = both_ends (λ e. cond (nat_lt (rank e.kind) (rank Rolled)) 1 0) in
      omega (arith, ends.0, ends.1, active_kind (λ k. cond (nat_lt (rank k) (rank Rolled)) 1 0))

module _ (s : State) (valid : IsValidManifest s.manifest) (prefix : List ℕ) (part : Part)
    (many : length s.parts ≡ length (front_of s.manifest)) where
  -- the state after it, whatever its new part is
  abbrev pub then : State
  then = record (after_seal s prefix) { parts = s.parts ++ part ∷ [] }

  abbrev m : Manifest
  m = s.manifest

  unnamed_then : (n : ℕ) → IsUnnamed s n → IsUnnamed then n
  unnamed_then n is =
      let both = subst (AllByRecursion (λ e. e.file ≢ n)) (split m valid) is.apart in
      let last = all_right (λ e. e.file ≢ n) (front_of m) (active_of m ∷ []) both in
      record {
        from = is.from;
        below = omega (arith, is.below);
        apart = all_join (λ e. e.file ≢ n) (front_of m)
            (sealed_entry (active_of m) (end_of s) (length s.active.messages)
            ∷ active_entry s.next (length prefix) ∷ [])
            (all_left (λ e. e.file ≢ n) (front_of m) (active_of m ∷ []) both)
            (last.0, ((λ same. omega (arith, same, is.below)), tt));
      }

  same_sources : (kind : JobKind) (count : ℕ) → count ≤ count_of (source_of kind) m.entries
      → source_parts kind count then ≡ source_parts kind count s
  same_sources kind count few =
      let place = count_before (source_of kind) m.entries in
      let short = behind_short m valid kind count few in
      let long = front_long m valid in
      ap (λ (n : ℕ). take count (drop n (s.parts ++ part ∷ [])))
      (same_place m valid (end_of s) (length s.active.messages) s.next (length prefix) kind)
      ∙ ap (take count) (drop-append-le place s.parts (part ∷ []) (omega (arith, short, long, many)))
      ∙ take-append-le count (drop place s.parts) (part ∷ [])
      (omega (arith, short, long, many, length-drop place s.parts))

  staged_then : (honest : Bool) (r : RunningJob) (f : Option FrozenStaged)
      → m.generation + 1 + staged_generations (staged_in f) < 2 ^ 64 → IfSome f (IsStaged honest s r)
      → IfSome f (IsStaged honest then r)
  staged_then honest r None left is = tt
  staged_then honest r (Some f) left is = record {
    all = is.all;
    generation = omega (arith, left);
    unnamed = unnamed_then f.file is.unnamed;
    honest_is = is.honest_is;
    made = λ h. subst (λ (w : ℕ). (rollup : IsRollup w f.octets r.rows) × (rollup.time ≡ r.time))
        (sym (width_next m (end_of s) (length s.active.messages) s.next (length prefix) r.kind)) (is.made h);
  }

  rolling_then : (honest : Bool) (job : Option RunningJob) → m.generation + 1 + job_generations (job_in job) < 2 ^ 64
      → IfSome job (IsRunningJob honest s) → IfSome job (IsRunningJob honest then)
  rolling_then honest None left is = tt
  rolling_then honest (Some r) left is =
      let end = end_of s in
      let count = length s.active.messages in
      let same = same_sources r.kind r.sources is.few in
      let more = more_sources m valid end count s.next (length prefix) r.kind in record {
        some = is.some;
        few = omega (arith, is.few, more);
        read = is.read;
        width = is.width ∙ sym (width_next m end count s.next (length prefix) r.kind);
        sums = λ h. sum_next m end count s.next (length prefix) r.kind (take r.read (source_parts r.kind r.sources then))
            r.rows (subst (λ (l : List Part). IsJobSum r.kind m (take r.read l) r.rows) (sym same) (is.sums h));
        time = λ h. subst (λ (l : List Part). IsJobTime r.kind (take r.read l) r.time) (sym same) (is.time h);
        staged = staged_then honest r r.staged left is.staged;
      }

  waiting_then : (old new : ℕ → Marks) (closed : Bool) → ((n : ℕ) → IsUnnamed s n → new n ≡ old n)
      → (files : List Frozen) → AllByRecursion (IsWaiting old s closed) files
      → AllByRecursion (IsWaiting new then closed) files
  waiting_then old new closed marks_too [] all = tt
  waiting_then old new closed marks_too (f ∷ files) all = (
    record {
      unnamed = unnamed_then f.entry.file all.0.unnamed;
      frozen = λ is. ap (λ (k : Marks). k.frozen) (marks_too f.entry.file all.0.unnamed) ∙ all.0.frozen is;
    },
    waiting_then old new closed marks_too files all.1,
  )

  pub sealed_too : {D : Type 0} (honest : D → Bool) (marks : D → ℕ → Marks) (held : D → ℕ → Held) (d d1 : D)
      (work : UnderWay) (closed : Bool) → honest d1 ≡ honest d
      → ((n : ℕ) → IsUnnamed s n → marks d1 n ≡ marks d n)
      → (IsTrue (honest d) → (n : ℕ) → IsUnnamed s n → held d1 n ≡ held d n)
      → m.generation + 1 + job_generations (job_in work.job) < 2 ^ 64
      → IsUnderWay honest marks held d s work closed
      → IsUnderWay honest marks held d1 then (under_way_in (work.next + 1) work.job work.waiting) closed
  sealed_too honest marks held d d1 work closed honest_too marks_too held_too left was =
      let there = goes_on s s.active s.shared honest marks held d d1 closed closed honest_too (λ is. is)
      (λ _. marks_too) (λ _. held_too) work was in record {
        job = subst (λ (h : Bool). IfSome work.job (IsRunningJob h then)) (sym honest_too)
            (rolling_then (honest d) work.job left was.job);
        on_disk = there.on_disk;
        waiting = waiting_then (marks d) (marks d1) closed marks_too work.waiting was.waiting;
      }
