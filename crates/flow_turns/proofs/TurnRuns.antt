-- Turns without a refusal take the events of a job.
use Rattle.std.proofs.Common.{◌≡◌, ◌∙◌, ℕ, zero, suc, ◌+◌, ◌≤◌, min, List, [], ◌∷◌}
use Rattle.std.proofs.Common.{length, replicate, Option, Some, None, Result}
use Rattle.std.proofs.Common.{refl, ap, subst, arith}
use Rattle.std.specs.List.{AllByRecursion}
use Rattle.std.specs.Result.{IsOk}
use Rattle.flow_disk.specs.declared.disk.Disk.{Ghosts}
use Rattle.flow_manifest.specs.declared.following.JobKind.{JobKind}
use Rattle.flow_manifest.specs.Manifest.{IsValidManifest}
use Rattle.flow_model.specs.State.{State}
use Rattle.flow_archive.specs.declared.event.Answer.{Answer}
use Rattle.flow_archive.specs.declared.event.Event.{Event}
use Rattle.flow_archive.specs.declared.event.Event.TheVariants.{RollStep, RollWrite, RollInstall}
use Rattle.flow_archive.specs.declared.refusal.ArchiveError.{ArchiveError}
use Rattle.flow_archive.specs.Answers.{Answers}
use Rattle.flow_archive.specs.Seen.{Seen}
use Rattle.flow_turns.specs.declared.turn.Turn.{Turn}
use Rattle.flow_turns.specs.Turns.{begun_by, due, files_over, IsTurn}
use Rattle.flow_turns.specs.Laws.{AreTurns}
use Rattle.flow_turns.proofs.Chains.{all_summed, joined, summing}
use Rattle.flow_turns.proofs.Chains.{IsChain, IsTaken}
use Rattle.flow_turns.proofs.JobStates.{after_begin, after_step, after_write, with_file, with_read}
use Rattle.flow_turns.proofs.Passing.{ok_begin, ok_install, ok_passed, ok_step, ok_write, turn_passed}
use Rattle.flow_turns.proofs.Passing.{IsOkWherePassed, IsPassed}
use Rattle.flow_turns.proofs.Turning.{due_first, due_install, due_step, due_write}
use Rattle.flow_turns.proofs.Replacements.{none_over, replacement}

module _ {D S X : Type 0} (g : Ghosts D S X) (kind : JobKind) (keep : ℕ) where
  abbrev pub Took : (Result Answer ArchiveError → Type 0) → Seen D → Event → Seen D → Type 0
  Took = IsTaken g

  abbrev pub Chain : (Result Answer ArchiveError → Type 0) → Seen D → List Event → Seen D → Type 0
  Chain = IsChain g

  -- so many turns, none of them refused
  pub record Turns (count : ℕ) (old new : Seen D) : Type 0 where
    pub told : List (Result Turn ArchiveError)
    pub long : length told ≡ count
    pub are : AreTurns g kind keep old told new
    pub ok : AllByRecursion IsOk told

  -- the first of them takes the event that is due
  pub record First (count : ℕ) (old : Seen D) (e : Event) (new : Seen D) : Type 0 where
    pub mid : Seen D
    pub took : Took IsPassed old e mid
    pub others : Turns count mid new

  one_turn : (old mid : Seen D) (e : Event) (told : Result Turn ArchiveError)
      → IsTurn g old mid (Some e) told → IsOk told → Took IsPassed old e mid
  one_turn old mid e told (answer, answers, step, same) ok = record {
    answer = answer;
    passes = turn_passed e answer (subst IsOk same ok);
    answers = answers;
    step = step;
  }

  first_turn : (count : ℕ) (old new : Seen D) (e : Event) (told : List (Result Turn ArchiveError))
      → length told ≡ suc count → AreTurns g kind keep old told new → AllByRecursion IsOk told
      → due kind keep old.state ≡ Some e → First count old e new
  first_turn count old new e [] long are ok is = absurd (omega (arith, long))
  first_turn count old new e (t ∷ told) long (mid, turn, are) ok is = record {
    mid = mid;
    took = one_turn old mid e t
        (subst (λ (x : Option Event). IsTurn g old mid x t) is turn) ok.0;
    others = record { told = told; long = omega (arith, long); are = are; ok = ok.1 };
  }

  pub first_of_all : (count more : ℕ) (old new : Seen D) (e : Event) → Turns more old new → more ≡ suc count
      → due kind keep old.state ≡ Some e → First count old e new
  first_of_all count more old new e turns is =
      first_turn count old new e turns.told (turns.long ∙ is) turns.are turns.ok

  taken_ok : (old mid : Seen D) (e : Event) → IsOkWherePassed e → Took IsPassed old e mid → Took IsOk old e mid
  taken_ok old mid e is took = record {
    answer = took.answer;
    passes = is (g.honest old.disk) old.closed old.state mid.state took.answer took.passes took.answers;
    answers = took.answers;
    step = took.step;
  }

  pub passed_chain : (es : List Event) (old new : Seen D) → Chain IsOk old es new → Chain IsPassed old es new
  passed_chain [] old new same = same
  passed_chain (e ∷ es) old new (mid, took, chain) = (
    mid,
    record {
      answer = took.answer;
      passes = ok_passed took.answer took.passes;
      answers = took.answers;
      step = took.step;
    },
    passed_chain es mid new chain,
  )

  -- no turn
  pub no_turns : (old new : Seen D) → Turns 0 old new → new ≡ old
  no_turns old new turns = none turns.told turns.long turns.are
    where
      none : (told : List (Result Turn ArchiveError)) → length told ≡ 0
          → AreTurns g kind keep old told new → new ≡ old
      none [] long are = are
      none (t ∷ told) long are = absurd (omega (arith, long))

  -- ---- the steps

  record Steps (s : State) (of : JobKind) (count n more : ℕ) (old new : Seen D) : Type 0 where
    pub mid : Seen D
    pub chain : Chain IsOk old (replicate n RollStep) mid
    pub others : Turns more mid new
    pub is : mid.state ≡ with_read s of count count

  step_turns : (s : State) (of : JobKind) (count n read more all : ℕ) → n + read ≡ count → all ≡ n + more
      → (old new : Seen D) → old.state ≡ with_read s of count read → Turns all old new → Steps s of count n more old new
  step_turns s of count zero read more all left sum old new is turns = record {
    mid = old;
    chain = refl;
    others = record { told = turns.told; long = omega (arith, turns.long, sum); are = turns.are; ok = turns.ok };
    is = is ∙ ap (λ (k : ℕ). with_read s of count k) (let e : read ≡ count = omega (arith, left) in e);
  }
  step_turns s of count (suc n) read more all left sum old new is turns =
      let first = first_of_all (n + more) all old new RollStep turns (omega (arith, sum))
      (ap (λ (x : State). due kind keep x) is ∙ due_step kind of keep count read s (omega (arith, left))) in
      let took = first.took in
      let next = after_step (g.honest old.disk) old.closed s first.mid.state of count read took.answer took.passes
      (subst (λ (x : State). Answers (g.honest old.disk) old.closed x RollStep took.answer first.mid.state) is
      took.answers) in
      let further : min (read + 1) count ≡ read + 1 = omega (arith, left) in
      let rest = step_turns s of count n (read + 1) more (n + more) (omega (arith, left)) refl first.mid new
      (next ∙ ap (λ (k : ℕ). with_read s of count k) further) first.others in
      record {
        mid = rest.mid;
        chain = (first.mid, taken_ok old first.mid RollStep ok_step took, rest.chain);
        others = rest.others;
        is = rest.is;
      }

  -- ---- the file is made and installed

  install_turn : (s : State) (of : JobKind) (count more : ℕ) (octets : List ℕ) (old new : Seen D)
      → old.state ≡ with_file s of count octets → Turns (more + 1) old new → First more old RollInstall new
  install_turn s of count more octets old new is turns = first_of_all more (more + 1) old new RollInstall turns
      (omega arith) (ap (λ (x : State). due kind keep x) is ∙ due_install kind of keep count s octets)

  record Made (more : ℕ) (old new : Seen D) : Type 0 where
    pub mid : Seen D
    pub chain : Chain IsOk old (RollWrite ∷ RollInstall ∷ []) mid
    pub others : Turns more mid new

  made_by : (more : ℕ) (old first second new : Seen D) → Took IsPassed old RollWrite first
      → Took IsPassed first RollInstall second → Turns more second new → Made more old new
  made_by more old first second new writes installs others = record {
    mid = second;
    chain = (
      first,
      taken_ok old first RollWrite ok_write writes,
      (second, taken_ok first second RollInstall ok_install installs, refl),
    );
    others = others;
  }

  made_turns : (s : State) (of : JobKind) (count more : ℕ) (old new : Seen D) → old.state ≡ with_read s of count count
      → Turns (more + 2) old new → Made more old new
  made_turns s of count more old new is turns =
      let first = first_of_all (more + 1) (more + 2) old new RollWrite turns (omega arith)
      (ap (λ (x : State). due kind keep x) is ∙ due_write kind of keep count s) in
      let made = after_write (g.honest old.disk) old.closed s first.mid.state of count first.took.answer
      first.took.passes (subst (λ (x : State). Answers (g.honest old.disk) old.closed x RollWrite first.took.answer
      first.mid.state) is first.took.answers) in
      let second = install_turn s of count more made.octets first.mid new made.is first.others in
      made_by more old first.mid second.mid new first.took second.took second.others

  -- ---- a whole job

  pub record Summing (count more : ℕ) (old new : Seen D) : Type 0 where
    pub mid : Seen D
    pub chain : Chain IsOk old (summing kind count) mid
    pub others : Turns more mid new
    pub free : mid.state.job ≡ None
    pub none : files_over kind keep mid.state ≡ 0

  -- a job after which no other one is to begin
  module _ (count : ℕ) (some : 1 ≤ count) (old : Seen D) (valid : IsValidManifest old.state.manifest)
      (is : count ≡ files_over kind keep old.state) where
    last_job : (more : ℕ) (mid new : Seen D) → Chain IsOk old (summing kind count) mid → Turns more mid new
        → Summing count more old new
    last_job more mid new chain others =
        let summed = (all_summed g IsOk ok_passed old mid kind count chain).0 in
        let replaced = replacement (g.honest old.disk) old.state mid.state kind count 0 valid mid.state summed refl in
        record {
          mid = mid;
          chain = chain;
          others = others;
          free = replaced.no_job;
          none = none_over (g.honest old.disk) kind count 0 old.state mid.state replaced valid keep is some;
        }

    pub summing_turns : (more : ℕ) (new : Seen D) → old.state.job ≡ None → Turns (count + (more + 2) + 1) old new
        → Summing count more old new
    summing_turns more new free turns =
        let first = first_of_all (count + (more + 2)) (count + (more + 2) + 1) old new (begun_by kind count) turns
        (omega arith) (due_first kind keep count old.state free is some) in
        let begun = after_begin (g.honest old.disk) old.closed old.state first.mid.state kind count first.took.answer
        first.took.passes first.took.answers in
        let steps = step_turns old.state kind count count 0 (more + 2) (count + (more + 2)) (omega arith) refl first.mid
        new begun.is first.others in
        let made = made_turns old.state kind count more steps.mid new steps.is steps.others in
        last_job more made.mid new (
          first.mid,
          taken_ok old first.mid (begun_by kind count) (ok_begin kind count) first.took,
          joined g IsOk (replicate count RollStep) (RollWrite ∷ RollInstall ∷ []) first.mid
              steps.mid made.mid steps.chain made.chain,
        ) made.others
