-- Whole jobs.
use Rattle.std.proofs.Common.{◌≡◌, ◌⊎◌, inl, inr, ◌∙◌, ℕ, ◌≤◌, false, List, [], ◌++◌, length, drop, map}
use Rattle.std.proofs.Common.{replicate}
use Rattle.std.proofs.Common.{⊎_elim, min, zero, suc, ◌∷◌, Result, refl, sym, ap, subst, arith, length-append}
use Rattle.std.proofs.lemmas.List.{length-map}
use Rattle.std.specs.List.{AllByRecursion}
use Rattle.std.specs.Result.{IsOk}
use Rattle.flow_disk.specs.declared.disk.Disk.{Ghosts}
use Rattle.flow_manifest.specs.declared.following.JobKind.{JobKind}
use Rattle.flow_manifest.specs.declared.manifest.Entry.{Entry}
use Rattle.flow_manifest.specs.Following.{count_of, source_of, sources_of}
use Rattle.flow_manifest.specs.Manifest.{IsValidManifest}
use Rattle.flow_model.specs.State.{State}
use Rattle.flow_archive.specs.declared.event.Answer.{Answer}
use Rattle.flow_archive.specs.declared.event.Event.{Event}
use Rattle.flow_archive.specs.declared.event.Event.TheVariants.{Retire}
use Rattle.flow_archive.specs.declared.refusal.ArchiveError.{ArchiveError}
use Rattle.flow_archive.specs.Runs.{IsRun}
use Rattle.flow_archive.specs.Seen.{Seen}
use Rattle.flow_turns.specs.Turns.{files_over, job_events}
use Rattle.flow_turns.specs.Laws.{IsReplacement, JobAnswered, JobInstalled, JobKeeps, WholeJob}
use Rattle.flow_turns.proofs.Chains.{all_removed, all_summed, chain_of, first_events, job_parts, parted, summing}
use Rattle.flow_turns.proofs.Chains.{IsChain}
use Rattle.flow_turns.proofs.Passing.{ok_passed, told_passed, IsPassed}
use Rattle.flow_turns.proofs.Replacements.{all_kept, none_left, replacement, so_many}

module _ {D S X : Type 0} (g : Ghosts D S X) where
  -- a job whose answers pass
  record IsWhole (Passes : Result Answer ArchiveError → Type 0) (old new : Seen D) (kind : JobKind) (count : ℕ)
      : Type 0 where
    pub removed : ℕ
    pub most : removed ≤ count
    pub replaced : IsReplacement (g.honest old.disk) kind count removed old.state new.state
    pub alone : old.state.shared ≡ false → removed ≡ count
    pub taken : ((a : Result Answer ArchiveError) → Passes a → IsOk a) → removed ≡ count
    pub none : old.state.waiting ≡ [] → removed ≡ count → new.state.waiting ≡ []

  whole : (Passes : Result Answer ArchiveError → Type 0)
      (passed : (a : Result Answer ArchiveError) → Passes a → IsPassed a) (old new : Seen D) (kind : JobKind)
      (count : ℕ) (answers : List (Result Answer ArchiveError))
      → IsValidManifest old.state.manifest → 1 ≤ count
      → IsRun g old (job_events kind count) answers new → AllByRecursion Passes answers
      → IsWhole Passes old new kind count
  whole Passes passed old new kind count answers valid some run all =
      let chain = chain_of g Passes (job_events kind count) answers old new run all in
      let two = parted g Passes (summing kind count) (replicate count Retire) old new
      (subst (λ (es : List Event). IsChain g Passes old es new) (job_parts kind count some)
      chain) in
      let summed = (all_summed g Passes passed old two.0 kind count two.1).0 in
      let rest = all_removed g Passes passed count two.0 new two.2 in
      let replaced = replacement (g.honest old.disk) old.state new.state kind count rest.removed valid two.0.state
      summed
      rest.is in
      let many = so_many old.state.manifest valid kind count summed.few in
      let files = map (λ (e : Entry). e.file) (sources_of kind count old.state.manifest.entries) in
      let waited : two.0.state.waiting ≡ old.state.waiting ++ files = ap (λ (x : State). x.waiting) summed.has.is in
      let shares : two.0.state.shared ≡ old.state.shared = ap (λ (x : State). x.shared) summed.has.is in
      let long : count ≤ length two.0.state.waiting =
      omega (
        arith,
        many,
        ap (λ (w : List ℕ). length w) waited,
        length-append old.state.waiting files,
        length-map (sources_of kind count old.state.manifest.entries) (λ (e : Entry). e.file),
      ) in
      record {
        removed = rest.removed;
        most = rest.most;
        replaced = replaced;
        alone = λ unshared. rest.alone (shares ∙ unshared) long;
        taken = rest.taken;
        none = λ none as_many. ap (λ (x : State). x.waiting) rest.is
            ∙ ap (λ (w : List ℕ). drop rest.removed w) waited
            ∙ ap (λ (n : ℕ). drop n (old.state.waiting ++ files)) as_many
            ∙ none_left old.state kind count many none;
      }

  pub installed : JobInstalled g
  installed old new kind count answers valid some run all =
      let chain = chain_of g IsOk (summing kind count) answers old new
      (subst (λ (es : List Event). IsRun g old es answers new) (first_events kind count some)
      run) all in
      let summed = (all_summed g IsOk ok_passed old new kind count chain).0 in
      replacement (g.honest old.disk) old.state new.state kind count 0 valid new.state summed refl

  pub whole_job : WholeJob g
  whole_job old new kind count answers valid some run all =
      let is = whole IsOk ok_passed old new kind count answers valid some run all in
      let as_many = is.taken (λ a ok. ok) in (
        subst (λ (n : ℕ). IsReplacement (g.honest old.disk) kind count n old.state new.state) as_many is.replaced,
        λ none. is.none none as_many,
      )

  no_events : (old new : Seen D) (kind : JobKind) (count : ℕ) (answers : List (Result Answer ArchiveError))
      → IsRun g old (job_events kind count) answers new → count ≡ 0 → new ≡ old
  no_events old new kind count answers run none =
      let nothing : job_events kind count ≡ [] = ap (λ (n : ℕ). job_events kind n) none in
      (chain_of g (λ _. Unit {0}) [] answers old new (subst (λ (es : List Event).
      IsRun g old es answers new) nothing run) (any_all answers))
    where
      any_all : (answers : List (Result Answer ArchiveError)) → AllByRecursion (λ _. Unit {0}) answers
      any_all [] = tt
      any_all (a ∷ others) = (tt, any_all others)

  pub answered : JobAnswered g
  answered old new kind count summed valid (inl (answers, run, tells)) =
      let passed = told_passed count summed answers (sym tells) in (
        passed.0,
        no_events old new kind count answers run,
        λ some.
            let is = whole IsPassed (λ a pass. pass) old new kind count answers valid some run passed.1 in (
              is.removed,
              is.most,
              is.replaced,
              λ unshared. (is.alone unshared, λ none. is.none none (is.alone unshared)),
            ),
      )
  answered old new kind count summed valid (inr (refused, same)) = absurd (cc)

  pub keeps : JobKeeps g
  keeps old new kind keep summed valid run =
      let is = answered old new kind (files_over kind keep old.state) summed valid run in
      ⊎_elim
      (λ none. ap (λ (x : Seen D). count_of (source_of kind) x.state.manifest.entries) (is.1 none)
      ∙ no_more none)
      (λ some. let more = is.2 some in
      all_kept (g.honest old.disk) kind
      (files_over kind keep old.state) more.0 old.state new.state more.2 valid keep refl
      some)
      (none_or_some (files_over kind keep old.state))
    where
      none_or_some : (n : ℕ) → (n ≡ 0) ⊎ (1 ≤ n)
      none_or_some zero = inl refl
      none_or_some (suc n) = inr (omega arith)

      no_more : files_over kind keep old.state ≡ 0 → count_of (source_of kind) old.state.manifest.entries
          ≡ min keep (count_of (source_of kind) old.state.manifest.entries)
      no_more none = omega (arith, none)
