-- Events that are taken one after the other.
use Rattle.std.proofs.Common.{◌≡◌, ◌⊎◌, inl, inr, ◌∙◌, ℕ, zero, suc, ◌+◌, ◌≤◌, min, Bool, true, false, IsTrue, List, []}
use Rattle.std.proofs.Common.{◌∷◌, ◌++◌, drop, length, replicate, None, Result, Ok, Err, refl, sym, ap, subst}
use Rattle.std.proofs.Common.{append_assoc, arith, length-append, take}
use Rattle.std.proofs.lemmas.List.{length-replicate, take_at}
use Rattle.std.specs.Prelude.{if◌then◌else◌, ◌==◌}
use Rattle.std.specs.List.{AllByRecursion}
use Rattle.std.specs.Result.{IsOk}
use Rattle.flow_disk.specs.declared.disk.Disk.{Ghosts}
use Rattle.flow_manifest.specs.declared.following.JobKind.{JobKind}
use Rattle.flow_manifest.specs.Following.{count_of, source_of}
use Rattle.flow_model.specs.State.{State}
use Rattle.flow_archive.specs.declared.event.Answer.{Answer}
use Rattle.flow_archive.specs.declared.event.Answer.TheVariants.{Retired}
use Rattle.flow_archive.specs.declared.event.Event.{Event}
use Rattle.flow_archive.specs.declared.event.Event.TheVariants.{RollStep, RollWrite, RollInstall, Retire}
use Rattle.flow_archive.specs.declared.refusal.ArchiveError.{ArchiveError}
use Rattle.flow_archive.specs.declared.refusal.ArchiveError.TheVariants.{Pinned, NothingToRetire}
use Rattle.flow_archive.specs.Answers.{Answers, Takes, told_as}
use Rattle.flow_archive.specs.JobAnswers.{AnswersRetire, IsJobFile}
use Rattle.flow_archive.specs.Runs.{IsRun}
use Rattle.flow_archive.specs.Seen.{Seen, IsStep}
use Rattle.flow_turns.specs.Turns.{begun_by, job_events}
use Rattle.flow_turns.specs.Laws.{all_read}
use Rattle.flow_turns.proofs.JobStates.{after_begin, after_install, after_step, after_write, with_read, with_sums}
use Rattle.flow_turns.proofs.Passing.{IsPassed}

-- the events of a job up to its install
abbrev pub summing : JobKind → ℕ → List Event
summing kind count = begun_by kind count ∷ (replicate count RollStep ++ RollWrite ∷ RollInstall ∷ [])

not_none : (count : ℕ) → 1 ≤ count → (count == 0) ≡ false
not_none count some = grind arith

pub events_are : (kind : JobKind) (count : ℕ) → 1 ≤ count → job_events kind count
    ≡ begun_by kind count ∷ (replicate count RollStep ++ RollWrite ∷ RollInstall ∷ replicate count Retire)
events_are kind count some =
    let whole = begun_by kind count ∷ (replicate count RollStep ++ RollWrite ∷ RollInstall ∷ replicate count Retire) in
    ap (λ (b : Bool). if b then [] else whole) (not_none count some)

pub job_parts : (kind : JobKind) (count : ℕ) → 1 ≤ count
    → job_events kind count ≡ summing kind count ++ replicate count Retire
job_parts kind count some = events_are kind count some
    ∙ ap (λ (es : List Event). begun_by kind count ∷ es)
    (sym (append_assoc (replicate count RollStep) (RollWrite ∷ RollInstall ∷ []) (replicate count Retire)))

-- so many events of a job come up to its install
install_place : (kind : JobKind) (count : ℕ) → length (summing kind count) ≡ count + 3
install_place kind count = omega (
  arith,
  length-append (replicate count RollStep) (RollWrite ∷ RollInstall ∷ []),
  length-replicate count RollStep,
)

pub first_events : (kind : JobKind) (count : ℕ) → 1 ≤ count
    → take (count + 3) (job_events kind count) ≡ summing kind count
first_events kind count some = ap (λ (es : List Event). take (count + 3) es) (job_parts kind count some)
    ∙ take_at (summing kind count) (replicate count Retire) (count + 3) (install_place kind count)

-- ---- one removal

pub record IsRemoved (s after : State) (a : Result Answer ArchiveError) : Type 0 where
  pub file : ℕ
  pub others : List ℕ
  pub was : s.waiting ≡ file ∷ others
  pub is : after ≡ record s { waiting = others }

pub record IsLeft (s after : State) (a : Result Answer ArchiveError) : Type 0 where
  pub refused : IsOk a → ⊥
  pub cause : (s.shared ≡ true) ⊎ (s.waiting ≡ [])
  pub is : after ≡ s

removal_done : (closed : Bool) (s after : State) (file : Result ℕ ArchiveError) → IsPassed (told_as Retired file)
    → AnswersRetire closed s file after
    → IsRemoved s after (told_as Retired file) ⊎ IsLeft s after (told_as Retired file)
removal_done closed s after (Ok file) passed answers = inl (record {
  file = file;
  others = answers.1.0;
  was = answers.1.1;
  is = answers.1.2;
})
removal_done closed s after (Err Pinned) passed answers = inr (record {
  refused = λ ok. cc;
  cause = inl answers.2;
  is = answers.3;
})
removal_done closed s after (Err NothingToRetire) passed answers = inr (record {
  refused = λ ok. cc;
  cause = inr answers.1;
  is = answers.2;
})
removal_done closed s after (Err e) passed answers = absurd (cc)

pub after_removal : (honest closed : Bool) (s after : State) (a : Result Answer ArchiveError) → IsPassed a
    → Answers honest closed s Retire a after → IsRemoved s after a ⊎ IsLeft s after a
after_removal honest closed s after a passed answers =
    subst (λ (x : Result Answer ArchiveError). IsRemoved s after x ⊎ IsLeft s after x) (sym answers.1)
    (removal_done closed s after answers.0 (subst IsPassed answers.1 passed) answers.2)

-- the job and the manifest stay
pub still : (s after : State) (a : Result Answer ArchiveError) → IsRemoved s after a ⊎ IsLeft s after a
    → (after.job ≡ s.job) × (after.manifest ≡ s.manifest)
still s after a (inl one) = (ap (λ (x : State). x.job) one.is, ap (λ (x : State). x.manifest) one.is)
still s after a (inr left) = (ap (λ (x : State). x.job) left.is, ap (λ (x : State). x.manifest) left.is)

-- ---- many events

-- what the events of a job up to its install make of a state
pub record HasSums (honest : Bool) (s : State) (kind : JobKind) (count : ℕ) (after : State) : Type 0 where
  pub octets : List ℕ
  pub sums : IsTrue honest → IsJobFile s (all_read kind count) octets
  pub read : List ℕ
  pub reads : IsTrue honest → read ≡ octets
  pub is : after ≡ with_sums s kind count octets read

pub record IsSummed (honest : Bool) (s : State) (kind : JobKind) (count : ℕ) (after : State) : Type 0 where
  pub free : s.job ≡ None
  pub few : count ≤ count_of (source_of kind) s.manifest.entries
  pub has : HasSums honest s kind count after

module _ {D S X : Type 0} (g : Ghosts D S X) (Passes : Result Answer ArchiveError → Type 0) where
  -- an event with an answer that passes
  pub record IsTaken (old : Seen D) (e : Event) (new : Seen D) : Type 0 where
    pub answer : Result Answer ArchiveError
    pub passes : Passes answer
    pub answers : Answers (g.honest old.disk) old.closed old.state e answer new.state
    pub step : IsStep g old new (Takes true old.state e) answer

  abbrev pub IsChain : Seen D → List Event → Seen D → Type 0
  IsChain old [] new = new ≡ old
  IsChain old (e ∷ es) new = (mid : Seen D) × IsTaken old e mid × IsChain mid es new

  pub chain_of : (es : List Event) (answers : List (Result Answer ArchiveError)) (old new : Seen D)
      → IsRun g old es answers new → AllByRecursion Passes answers → IsChain old es new
  chain_of [] [] old new run passed = run
  chain_of [] (a ∷ answers) old new run passed = absurd run
  chain_of (e ∷ es) [] old new run passed = absurd run
  chain_of (e ∷ es) (a ∷ answers) old new run passed = (
    run.0,
    record { answer = a; passes = passed.0; answers = run.1; step = run.2 },
    chain_of es answers run.0 new run.3 passed.1,
  )

  pub run_of : (es : List Event) (old new : Seen D) → IsChain old es new → (answers : List (Result Answer ArchiveError))
      × IsRun g old es answers new × AllByRecursion Passes answers
  run_of [] old new chain = ([], chain, tt)
  run_of (e ∷ es) old new (mid, took, chain) =
      let others = run_of es mid new chain in
      (took.answer ∷ others.0, (mid, took.answers, took.step, others.1), (took.passes, others.2))

  pub parted : (es fs : List Event) (old new : Seen D) → IsChain old (es ++ fs) new
      → (mid : Seen D) × IsChain old es mid × IsChain mid fs new
  parted [] fs old new chain = (old, refl, chain)
  parted (e ∷ es) fs old new (mid, took, chain) =
      let others = parted es fs mid new chain in (others.0, (mid, took, others.1), others.2)

  pub joined : (es fs : List Event) (old mid new : Seen D) → IsChain old es mid → IsChain mid fs new
      → IsChain old (es ++ fs) new
  joined [] fs old mid new same chain = subst (λ (s : Seen D). IsChain s fs new) same chain
  joined (e ∷ es) fs old mid new (next, took, first) chain = (next, took, joined es fs next mid new first chain)

  module _ (passed : (a : Result Answer ArchiveError) → Passes a → IsPassed a) where
    -- all steps
    pub all_steps : (s : State) (kind : JobKind) (count n read : ℕ) → n + read ≡ count → (old new : Seen D)
        → old.state ≡ with_read s kind count read → IsChain old (replicate n RollStep) new
        → (new.state ≡ with_read s kind count count) × (g.honest new.disk ≡ g.honest old.disk)
    all_steps s kind count zero read left old new is same = (
      ap (λ (x : Seen D). x.state) same ∙ is
          ∙ ap (λ (n : ℕ). with_read s kind count n) (let e : read ≡ count = omega (arith, left) in e),
      ap (λ (x : Seen D). g.honest x.disk) same,
    )
    all_steps s kind count (suc n) read left old new is (mid, took, chain) =
        let here = subst (λ (x : State). Answers (g.honest old.disk) old.closed x RollStep took.answer mid.state) is
        took.answers in
        let next = after_step (g.honest old.disk) old.closed s mid.state kind count read took.answer
        (passed took.answer took.passes) here in
        let more : min (read + 1) count ≡ read + 1 = omega (arith, left) in
        let others = all_steps s kind count n (read + 1) (omega (arith, left)) mid new
        (next ∙ ap (λ (k : ℕ). with_read s kind count k) more) chain in
        (others.0, others.1 ∙ took.step.honest_too)

    -- the file is made and installed
    all_made : (s : State) (kind : JobKind) (count : ℕ) (old new : Seen D)
        → old.state ≡ with_read s kind count count → IsChain old (RollWrite ∷ RollInstall ∷ []) new
        → HasSums (g.honest old.disk) s kind count new.state × (g.honest new.disk ≡ g.honest old.disk)
    all_made s kind count old new is (first, writes, (second, installs, end)) =
        let made = after_write (g.honest old.disk) old.closed s first.state kind count writes.answer
        (passed writes.answer writes.passes) (subst (λ (x : State). Answers (g.honest old.disk) old.closed x RollWrite
        writes.answer first.state) is writes.answers) in
        let placed = after_install (g.honest first.disk) first.closed s second.state kind count made.octets
        installs.answer (passed installs.answer installs.passes) (subst (λ (x : State). Answers (g.honest first.disk)
        first.closed x RollInstall installs.answer second.state) made.is installs.answers) in (
          record {
            octets = made.octets;
            sums = made.sums;
            read = placed.read;
            reads = λ h. placed.reads (writes.step.honest_too ∙ h);
            is = subst (λ (x : State). x ≡ with_sums s kind count made.octets placed.read)
                (sym (ap (λ (x : Seen D). x.state) end)) placed.is;
          },
          ap (λ (x : Seen D). g.honest x.disk) end ∙ installs.step.honest_too ∙ writes.step.honest_too,
        )

    -- up to the install
    pub all_summed : (old new : Seen D) (kind : JobKind) (count : ℕ) → IsChain old (summing kind count) new
        → IsSummed (g.honest old.disk) old.state kind count new.state × (g.honest new.disk ≡ g.honest old.disk)
    all_summed old new kind count (first, begins, chain) =
        let begun = after_begin (g.honest old.disk) old.closed old.state first.state kind count begins.answer
        (passed begins.answer begins.passes) begins.answers in
        let apart = parted (replicate count RollStep) (RollWrite ∷ RollInstall ∷ []) first new chain in
        let steps = all_steps old.state kind count count 0 (omega arith) first apart.0 begun.is apart.1 in
        let same : g.honest apart.0.disk ≡ g.honest old.disk = steps.1 ∙ begins.step.honest_too in
        let made = all_made old.state kind count apart.0 new steps.0 apart.2 in (
          record {
            free = begun.free;
            few = begun.few;
            has = subst (λ (h : Bool). HasSums h old.state kind count new.state) same made.0;
          },
          made.1 ∙ same,
        )

    -- what removals leave of the files that wait
    pub record AreRemoved (s : State) (count : ℕ) (after : State) : Type 0 where
      pub removed : ℕ
      pub most : removed ≤ count
      pub is : after ≡ record s { waiting = drop removed s.waiting }
      pub alone : s.shared ≡ false → count ≤ length s.waiting → removed ≡ count
      pub taken : ((a : Result Answer ArchiveError) → Passes a → IsOk a) → removed ≡ count

    pub all_removed : (n : ℕ) (old new : Seen D) → IsChain old (replicate n Retire) new
        → AreRemoved old.state n new.state
    all_removed zero old new same = record {
      removed = 0;
      most = omega arith;
      is = ap (λ (x : Seen D). x.state) same;
      alone = λ _. λ _. refl;
      taken = λ _. refl;
    }
    all_removed (suc n) old new (mid, took, chain) =
        one_more n old mid new took (all_removed n mid new chain)
        (after_removal (g.honest old.disk) old.closed old.state mid.state took.answer
        (passed took.answer took.passes) took.answers)
      where
        one_more : (n : ℕ) (old mid new : Seen D) (took : IsTaken old Retire mid) → AreRemoved mid.state n new.state
            → IsRemoved old.state mid.state took.answer ⊎ IsLeft old.state mid.state took.answer
            → AreRemoved old.state (suc n) new.state
        one_more n old mid new took others (inl one) = record {
          removed = suc others.removed;
          most = let most = others.most in omega (arith, most);
          is = others.is ∙ ap (λ (x : State). record x { waiting = drop others.removed x.waiting }) one.is
              ∙ ap (λ (w : List ℕ). record old.state { waiting = drop (suc others.removed) w }) (sym one.was);
          alone = λ unshared long.
              let long_too : n ≤ length mid.state.waiting =
              omega (
                arith,
                long,
                ap (λ (w : List ℕ). length w) one.was,
                ap (λ (x : State). length x.waiting) one.is,
              ) in
              let last = others.alone (ap (λ (x : State). x.shared) one.is ∙ unshared) long_too in
              omega (arith, last);
          taken = λ ok. let last = others.taken ok in omega (arith, last);
        }
        one_more n old mid new took others (inr left) = record {
          removed = others.removed;
          most = let most = others.most in omega (arith, most);
          is = others.is ∙ ap (λ (x : State). record x { waiting = drop others.removed x.waiting }) left.is;
          alone = λ unshared long. never unshared long left.cause;
          taken = λ ok. absurd (left.refused (ok took.answer took.passes));
        }
          where
            never : old.state.shared ≡ false → suc n ≤ length old.state.waiting
                → (old.state.shared ≡ true) ⊎ (old.state.waiting ≡ []) → others.removed ≡ suc n
            never unshared long (inl shared) = absurd (cc)
            never unshared long (inr none) = absurd (omega (arith, long, ap (λ (w : List ℕ). length w) none))
