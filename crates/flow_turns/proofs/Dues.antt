-- The events of a job are due in turn.
use Rattle.std.proofs.Common.{◌≡◌, ◌∙◌, ℕ, zero, suc, ◌+◌, ◌<◌, ◌≤◌, min, Bool, IsTrue, List, [], ◌∷◌, ◌++◌}
use Rattle.std.proofs.Common.{length, take, replicate, Some, None, refl, sym, ap, subst, arith}
use Rattle.std.specs.List.{slice_get}
use Rattle.std.specs.Result.{IsOk}
use Rattle.flow_disk.specs.declared.disk.Disk.{Ghosts}
use Rattle.flow_manifest.specs.declared.following.JobKind.{JobKind}
use Rattle.flow_manifest.specs.declared.following.JobKind.TheVariants.{Roll, Merge}
use Rattle.flow_manifest.specs.Following.{count_of, source_of}
use Rattle.flow_manifest.specs.Manifest.{IsValidManifest}
use Rattle.flow_model.specs.State.{State}
use Rattle.flow_archive.specs.declared.event.Event.{Event}
use Rattle.flow_archive.specs.declared.event.Event.TheVariants.{RollStep, RollWrite, RollInstall, Retire}
use Rattle.flow_archive.specs.Answers.{Answers}
use Rattle.flow_archive.specs.JobAnswers.{IsJobFile}
use Rattle.flow_archive.specs.Seen.{Seen}
use Rattle.flow_turns.specs.Turns.{begun_by, due, files_over}
use Rattle.flow_turns.specs.Laws.{all_read, turn_events, DueInTurn}
use Rattle.flow_turns.proofs.Chains.{after_removal, chain_of, events_are, first_events, still}
use Rattle.flow_turns.proofs.Chains.{HasSums, IsChain, IsTaken}
use Rattle.flow_turns.proofs.JobStates.{after_begin, after_install, after_step, after_write, with_file, with_read}
use Rattle.flow_turns.proofs.Passing.{ok_passed}
use Rattle.flow_turns.proofs.Replacements.{none_over, replacement}
use Rattle.flow_turns.proofs.Turning.{due_first, due_install, due_none, due_step, due_write, over_still}

module _ {D S X : Type 0} (g : Ghosts D S X) (kind : JobKind) (keep : ℕ) where
  abbrev Took : Seen D → Event → Seen D → Type 0
  Took = IsTaken g IsOk

  -- after so many of these events the next one of them is due
  abbrev Along : List Event → Seen D → Type 0
  Along events old = (i : ℕ) (mid : Seen D) → i < length events
      → IsChain g IsOk old (take i events) mid → due kind keep mid.state ≡ slice_get events i

  none_along : (old : Seen D) → Along [] old
  none_along old i mid less chain = absurd (omega (arith, less))

  one_along : (e : Event) (events : List Event) (old : Seen D) → due kind keep old.state ≡ Some e
      → ((next : Seen D) → Took old e next → Along events next) → Along (e ∷ events) old
  one_along e events old is others zero mid less same = ap (λ (x : Seen D). due kind keep x.state) same ∙ is
  one_along e events old is others (suc i) mid less (next, took, chain) =
      others next took i mid (omega (arith, less)) chain

  -- ---- one job

  module _ (s : State) (valid : IsValidManifest s.manifest) (count : ℕ) (is : count ≡ files_over kind keep s)
      (some : 1 ≤ count) (free : s.job ≡ None) (few : count ≤ count_of (source_of kind) s.manifest.entries)
      (rest : List Event)
      (rest_along : (new : Seen D) → new.state.job ≡ None → files_over kind keep new.state ≡ 0 → Along rest new) where
    sums_along : (h : Bool) (new : Seen D) → HasSums h s kind count new.state → Along rest new
    sums_along h new has =
        let replaced = replacement h s new.state kind count 0 valid new.state
        (record { free = free; few = few; has = has }) refl in
        rest_along new replaced.no_job (none_over h kind count 0 s new.state replaced valid keep is some)

    install_along : (octets : List ℕ) (old : Seen D)
        → (IsTrue (g.honest old.disk) → IsJobFile s (all_read kind count) octets)
        → old.state ≡ with_file s kind count octets → Along (RollInstall ∷ rest) old
    install_along octets old sums is = one_along RollInstall rest old
        (ap (λ (x : State). due kind keep x) is ∙ due_install kind kind keep count s octets) (λ new took.
        let placed = after_install (g.honest old.disk) old.closed s new.state kind count octets took.answer
        (ok_passed took.answer took.passes) (subst (λ (x : State). Answers (g.honest old.disk) old.closed x RollInstall
        took.answer new.state) is took.answers) in
        sums_along (g.honest old.disk) new (record {
          octets = octets;
          sums = sums;
          read = placed.read;
          reads = placed.reads;
          is = placed.is;
        }))

    write_along : (old : Seen D) → old.state ≡ with_read s kind count count → Along (RollWrite ∷ RollInstall ∷ rest) old
    write_along old is = one_along RollWrite (RollInstall ∷ rest) old
        (ap (λ (x : State). due kind keep x) is ∙ due_write kind kind keep count s) (λ new took.
        let made = after_write (g.honest old.disk) old.closed s new.state kind count took.answer
        (ok_passed took.answer took.passes) (subst (λ (x : State). Answers (g.honest old.disk) old.closed x RollWrite
        took.answer new.state) is took.answers) in
        install_along made.octets new (λ h. made.sums (sym took.step.honest_too ∙ h)) made.is)

    steps_along : (n read : ℕ) (old : Seen D) → n + read ≡ count → old.state ≡ with_read s kind count read
        → Along (replicate n RollStep ++ RollWrite ∷ RollInstall ∷ rest) old
    steps_along zero read old left is = write_along old
        (is ∙ ap (λ (k : ℕ). with_read s kind count k) (let e : read ≡ count = omega (arith, left) in e))
    steps_along (suc n) read old left is =
        one_along RollStep (replicate n RollStep ++ RollWrite ∷ RollInstall ∷ rest) old
        (ap (λ (x : State). due kind keep x) is ∙ due_step kind kind keep count read s (omega (arith, left)))
        (λ new took.
        let next = after_step (g.honest old.disk) old.closed s new.state kind count read took.answer
        (ok_passed took.answer took.passes) (subst (λ (x : State). Answers (g.honest old.disk) old.closed x RollStep
        took.answer new.state) is took.answers) in
        let further : min (read + 1) count ≡ read + 1 = omega (arith, left) in
        steps_along n (read + 1) new (omega (arith, left)) (next ∙ ap (λ (k : ℕ). with_read s kind count k) further))

  -- its events up to the install, and others that are due then
  job_along : (old : Seen D) (count : ℕ) → IsValidManifest old.state.manifest → old.state.job ≡ None
      → count ≡ files_over kind keep old.state → 1 ≤ count → (rest : List Event)
      → ((new : Seen D) → new.state.job ≡ None → files_over kind keep new.state ≡ 0 → Along rest new)
      → Along (begun_by kind count ∷ (replicate count RollStep ++ RollWrite ∷ RollInstall ∷ rest)) old
  job_along old count valid free is some rest rest_along =
      one_along (begun_by kind count) (replicate count RollStep ++ RollWrite ∷ RollInstall ∷ rest) old
      (due_first kind keep count old.state free is some) (λ new took.
      let begun = after_begin (g.honest old.disk) old.closed old.state new.state kind count took.answer
      (ok_passed took.answer took.passes) took.answers in
      steps_along old.state valid count is some free begun.few rest rest_along count 0 new (omega arith) begun.is)

module _ {D S X : Type 0} (g : Ghosts D S X) (keep : ℕ) where
  removals_along : (n : ℕ) (old : Seen D) → old.state.job ≡ None → files_over Roll keep old.state ≡ 0
      → Along g Roll keep (replicate n Retire) old
  removals_along zero old free none = none_along g Roll keep old
  removals_along (suc n) old free none = one_along g Roll keep Retire (replicate n Retire) old
      (due_none Roll keep old.state free none) (λ new took.
      let as_was = still old.state new.state took.answer
      (after_removal (g.honest old.disk) old.closed old.state new.state
      took.answer (ok_passed took.answer took.passes) took.answers) in
      removals_along n new (as_was.0 ∙ free) (over_still Roll keep old.state new.state as_was.1 ∙ none))

module _ {D S X : Type 0} (g : Ghosts D S X) where
  turns_along : (kind : JobKind) (keep : ℕ) (old : Seen D) (count : ℕ) → IsValidManifest old.state.manifest
      → old.state.job ≡ None → count ≡ files_over kind keep old.state → 1 ≤ count
      → Along g kind keep (turn_events kind count) old
  turns_along Roll keep old count valid free is some =
      subst (λ (es : List Event). Along g Roll keep es old) (sym (events_are Roll count some))
      (job_along g Roll keep old count valid free is some (replicate count Retire)
      (removals_along g keep count))
  turns_along Merge keep old count valid free is some =
      subst (λ (es : List Event). Along g Merge keep es old)
      (sym (first_events Merge count some))
      (job_along g Merge keep old count valid free is some []
      (λ new free none. none_along g Merge keep new))

  pub due_in_turn : DueInTurn g
  due_in_turn old mid kind keep count i answers valid free is some less run all =
      turns_along kind keep old count valid free is some i mid less
      (chain_of g IsOk (take i (turn_events kind count)) answers old mid run all)
