-- Turns of a whole job, and of a roll with its removals.
use Rattle.std.proofs.Common.{◌≡◌, inl, ◌∙◌, ℕ, zero, suc, ◌+◌, ◌≤◌, List, ◌++◌}
use Rattle.std.proofs.Common.{replicate, None, Ok}
use Rattle.std.proofs.Common.{refl, sym, ap, subst, arith}
use Rattle.flow_disk.specs.declared.disk.Disk.{Ghosts}
use Rattle.flow_manifest.specs.declared.following.JobKind.TheVariants.{Roll}
use Rattle.flow_archive.specs.declared.event.Event.{Event}
use Rattle.flow_archive.specs.declared.event.Event.TheVariants.{Retire}
use Rattle.flow_archive.specs.Runs.{IsRun}
use Rattle.flow_archive.specs.Seen.{Seen}
use Rattle.flow_turns.specs.Turns.{files_over, IsJobRun}
use Rattle.flow_turns.specs.Laws.{TurnsOfAJob, TurnsOfARoll}
use Rattle.flow_turns.proofs.Chains.{after_removal, first_events, job_parts, joined, run_of, still, summing, IsChain}
use Rattle.flow_turns.proofs.Passing.{passed_told, IsPassed}
use Rattle.flow_turns.proofs.Turning.{due_none, over_still}
use Rattle.flow_turns.proofs.TurnRuns.{first_of_all, no_turns, passed_chain, summing_turns, Turns}
use Rattle.std.specs.Result.{IsOk}

module _ {D S X : Type 0} (g : Ghosts D S X) where
  pub turns_of_a_job : TurnsOfAJob g
  turns_of_a_job old new kind keep count told valid free is some long are ok =
      let turns : Turns g kind keep (count + (0 + 2) + 1) old new =
      record { told = told; long = omega (arith, long); are = are; ok = ok } in
      let job = summing_turns g kind keep count some old valid is 0 new free turns in
      let none = no_turns g kind keep job.mid new job.others in
      let run = run_of g IsOk (summing kind count) old new
      (subst (λ (x : Seen D). IsChain g IsOk old (summing kind count) x) (sym none) job.chain)
      in (
        (
          run.0,
          subst (λ (es : List Event). IsRun g old es run.0 new)
              (sym (first_events kind count some)) run.1,
          run.2,
        ),
        due_none kind keep new.state (ap (λ (x : Seen D). x.state.job) none ∙ job.free)
            (ap (λ (x : Seen D). files_over kind keep x.state) none ∙ job.none),
      )

  -- removals, where no job is to begin
  record Removals (keep count : ℕ) (old new : Seen D) : Type 0 where
    pub chain : IsChain g IsPassed old (replicate count Retire) new
    pub free : new.state.job ≡ None
    pub none : files_over Roll keep new.state ≡ 0

  removals : (keep count : ℕ) (old new : Seen D) → old.state.job ≡ None → files_over Roll keep old.state ≡ 0
      → Turns g Roll keep count old new → Removals keep count old new
  removals keep zero old new free none turns =
      let same = no_turns g Roll keep old new turns in
      record {
        chain = same;
        free = ap (λ (x : Seen D). x.state.job) same ∙ free;
        none = ap (λ (x : Seen D). files_over Roll keep x.state) same ∙ none;
      }
  removals keep (suc n) old new free none turns =
      let first = first_of_all g Roll keep n (suc n) old new Retire turns refl
      (due_none Roll keep old.state free none) in
      let as_was = still old.state first.mid.state first.took.answer (after_removal (g.honest old.disk) old.closed
      old.state first.mid.state first.took.answer first.took.passes first.took.answers) in
      let rest = removals keep n first.mid new (as_was.0 ∙ free)
      (over_still Roll keep old.state first.mid.state as_was.1 ∙ none) first.others in
      record { chain = (first.mid, first.took, rest.chain); free = rest.free; none = rest.none }

  job_run : (old new : Seen D) (count : ℕ) → 1 ≤ count
      → IsChain g IsPassed old (summing Roll count ++ replicate count Retire) new
      → IsJobRun g old new Roll count (Ok count)
  job_run old new count some chain =
      let events = summing Roll count ++ replicate count Retire in
      let run = run_of g IsPassed events old new chain in
      let whole = subst (λ (es : List Event). IsRun g old es run.0 new)
      (sym (job_parts Roll count some)) run.1 in
      inl (run.0, whole, sym (passed_told count run.0 run.2))

  pub turns_of_a_roll : TurnsOfARoll g
  turns_of_a_roll old new keep count told valid free is some long are ok =
      let turns : Turns g Roll keep (count + (count + 2) + 1) old new =
      record { told = told; long = omega (arith, long); are = are; ok = ok } in
      let job = summing_turns g Roll keep count some old valid is count new free turns in
      let rest = removals keep count job.mid new job.free job.none job.others in
      let whole = joined g IsPassed (summing Roll count) (replicate count Retire) old job.mid new
      (passed_chain g Roll keep (summing Roll count) old job.mid job.chain) rest.chain in
      (job_run old new count some whole, due_none Roll keep new.state rest.free rest.none)
