-- What a stop leaves that comes while events run.
use Rattle.std.proofs.Common.{◌≡◌, ◌≢◌, ⊎_elim, ℕ, zero, suc, ◌<◌, ◌≤◌, true, false, IsTrue, List, [], ◌∷◌}
use Rattle.std.proofs.Common.{length, take, drop, Result, Err, refl, sym, ◌∙◌, ap, subst, arith}
use Rattle.std.specs.Prelude.{IsErr}
use Rattle.std.specs.List.{AllByRecursion}
use Rattle.flow_disk.specs.declared.disk.Disk.{Ghosts}
use Rattle.flow_disk.specs.Calls.{LeavesOnly}
use Rattle.flow_disk.proofs.Moments.{by, one_run, started}
use Rattle.flow_measure.specs.History.{History}
use Rattle.flow_model.specs.State.{State, reopened}
use Rattle.flow_model.specs.Shelved.{HasHistory}
use Rattle.flow_model.specs.Standing.{StandsFor}
use Rattle.flow_archive.specs.declared.event.Answer.{Answer}
use Rattle.flow_archive.specs.declared.event.Event.{Event}
use Rattle.flow_archive.specs.declared.refusal.ArchiveError.{ArchiveError}
use Rattle.flow_archive.specs.declared.refusal.ArchiveError.TheVariants.{Closed, Fault}
use Rattle.flow_archive.specs.Answers.{Answers, Takes}
use Rattle.flow_archive.specs.Runs.{IsAfter, IsRun, Leads, StandsForSome}
use Rattle.flow_archive.specs.Seen.{Seen, IsStep}
use Rattle.flow_archive.proofs.Running.{all_moments, closed_run}
use Rattle.flow_headline.specs.Front.{AreMoments, IsPrefix, all_added}
use Rattle.flow_headline.proofs.Closing.{all_refused, closed_answers}
use Rattle.flow_headline.proofs.Fronts.{IsNoFault, IsStanding, fault_or, goes_on, one_first, one_more}
use Rattle.flow_headline.proofs.Growing.{IsGrown, event_adds, has_more, more_then, same_history, sound_of}

-- a prefix of the events, and an image that represents what is left of the archive after it
record IsImageIn (begun : ℕ) (s : State) (events : List Event) (answers : List (Result Answer ArchiveError))
    (image : ℕ → List ℕ) : Type 0 where
  pub taken : ℕ
  pub within : taken ≤ length events
  pub after : State
  pub prefix : IsAfter s (take taken events) (take taken answers) after
  pub stands : StandsFor image (reopened after)
  pub acknowledged : AllByRecursion (λ (a : Result Answer ArchiveError). IsErr a) (drop taken (take begun answers))
  pub one : (k : ℕ) → k < taken → AllByRecursion IsNoFault (take k answers)
  pub history : (h : History) → HasHistory s h
      → IsGrown h (all_added (take taken events) (take taken answers)) after

prefix_of : (begun : ℕ) (s : State) (events : List Event) (answers : List (Result Answer ArchiveError))
    (image : ℕ → List ℕ) → IsImageIn begun s events answers image
    → (left : State) × IsPrefix s events answers begun left × StandsFor image left
prefix_of begun s events answers image found = (
  reopened found.after,
  record {
    taken = found.taken;
    within = found.within;
    after = found.after;
    prefix = found.prefix;
    left_is = refl;
    acknowledged = found.acknowledged;
    one = found.one;
    history = λ h has. has_more h (all_added (take found.taken events) (take found.taken answers)) found.after
        (sound_of image found.after found.stands).valid (found.history h has);
  },
  found.stands,
)

-- none of the events is in it
none_in : (begun : ℕ) (s : State) (events : List Event) (answers : List (Result Answer ArchiveError))
    (image : ℕ → List ℕ) → AllByRecursion (λ (a : Result Answer ArchiveError). IsErr a) (take begun answers)
    → StandsFor image (reopened s) → IsImageIn begun s events answers image
none_in begun s events answers image refused stands = record {
  taken = 0;
  within = omega arith;
  after = s;
  prefix = refl;
  stands = stands;
  acknowledged = refused;
  one = λ k lt. absurd (omega (arith, lt));
  history = λ h has. same_history s s h refl has;
}

all_refused_first : (n : ℕ) (answers : List (Result Answer ArchiveError))
    → AllByRecursion (λ (a : Result Answer ArchiveError). IsErr a) answers
    → AllByRecursion (λ (a : Result Answer ArchiveError). IsErr a) (take n answers)
all_refused_first zero answers all = tt
all_refused_first (suc n) [] all = tt
all_refused_first (suc n) (a ∷ answers) all = (all.0, all_refused_first n answers all.1)

-- none of no events was acknowledged
none_begun : (n : ℕ) → AllByRecursion (λ (a : Result Answer ArchiveError). IsErr a) (drop n [])
none_begun zero = tt
none_begun (suc n) = tt

pub take_fewer : {X : Type 0} (i j : ℕ) (xs : List X) → i ≤ j → take i (take j xs) ≡ take i xs
take_fewer zero j xs le = refl
take_fewer (suc i) zero xs le = absurd (omega (arith, le))
take_fewer (suc i) (suc j) [] le = refl
take_fewer (suc i) (suc j) (x ∷ xs) le = ap (λ ys. x ∷ ys) (take_fewer i j xs (omega (arith, le)))

-- the first ones and the others are
all_closed : (n : ℕ) (answers : List (Result Answer ArchiveError))
    → AllByRecursion (λ (a : Result Answer ArchiveError). a ≡ Err Closed) (take n answers)
    → AllByRecursion (λ (a : Result Answer ArchiveError). a ≡ Err Closed) (drop n answers)
    → AllByRecursion (λ (a : Result Answer ArchiveError). a ≡ Err Closed) answers
all_closed zero answers first others = others
all_closed (suc n) [] first others = tt
all_closed (suc n) (a ∷ answers) first others = (first.0, all_closed n answers first.1 others)

module _ {D S X : Type 0} (disk : Ghosts D S X) where
  abbrev pub IsHere : Seen D → Type 0
  IsHere s = IsStanding disk s

  abbrev pub Ran : Seen D → List Event → List (Result Answer ArchiveError) → Seen D → Type 0
  Ran old events answers new = IsRun disk old events answers new

  abbrev pub Leaves : Seen D → Seen D → ((ℕ → List ℕ) → Type 0) → Type 0
  Leaves old new P = LeavesOnly disk old.disk new.disk P

  pub honest_after : (old : Seen D) (events : List Event) (answers : List (Result Answer ArchiveError)) (new : Seen D)
      → Ran old events answers new → disk.honest new.disk ≡ disk.honest old.disk
  honest_after old [] [] new run = ap (λ (s : Seen D). disk.honest s.disk) run
  honest_after old [] (a ∷ answers) new run = absurd run
  honest_after old (e ∷ events) [] new run = absurd run
  honest_after old (e ∷ events) (a ∷ answers) new run =
      honest_after run.0 events answers new run.3 ∙ run.2.honest_too

  -- one event is in it
  first_in : (begun : ℕ) (old mid : Seen D) (next : State) (e : Event) (a : Result Answer ArchiveError)
      (events : List Event) (answers : List (Result Answer ArchiveError)) (image : ℕ → List ℕ)
      → Answers (disk.honest old.disk) old.closed old.state e a mid.state → Leads old.state e a next → IsHere old
      → AllByRecursion (λ (r : Result Answer ArchiveError). IsErr r) (drop 1 (take begun (a ∷ answers)))
      → StandsFor image (reopened next) → IsImageIn begun old.state (e ∷ events) (a ∷ answers) image
  first_in begun old mid next e a events answers image told leads here refused stands =
      let sound = sound_of here.some.0 old.state (here.images here.some.0 here.some.1) in
      record {
        taken = 1;
        within = omega arith;
        after = next;
        prefix = (next, leads, refl);
        stands = stands;
        acknowledged = refused;
        one = one_first a answers;
        history = λ g has. more_then g _ [] next next
            (event_adds (disk.honest old.disk) old.closed old.state next mid.state e a g sound told leads has)
            (λ f given. same_history next next f refl given);
      }

  -- one event more, before those that are in it
  more_in : (begun one_begun : ℕ) (old mid : Seen D) (e : Event) (a : Result Answer ArchiveError) (events : List Event)
      (answers : List (Result Answer ArchiveError)) (image : ℕ → List ℕ)
      → Answers (disk.honest old.disk) old.closed old.state e a mid.state → Leads old.state e a mid.state
      → a ≢ Err Fault
      → IsHere old
      → ((n : ℕ) → AllByRecursion (λ (r : Result Answer ArchiveError). IsErr r) (drop n (take begun answers))
      → AllByRecursion (λ (r : Result Answer ArchiveError). IsErr r) (drop (suc n) (take one_begun (a ∷ answers))))
      → IsImageIn begun mid.state events answers image → IsImageIn one_begun old.state (e ∷ events) (a ∷ answers) image
  more_in begun one_begun old mid e a events answers image told leads other here refused rest =
      let sound = sound_of here.some.0 old.state (here.images here.some.0 here.some.1) in
      record {
        taken = suc rest.taken;
        within = omega (arith, rest.within);
        after = rest.after;
        prefix = (mid.state, leads, rest.prefix);
        stands = rest.stands;
        acknowledged = refused rest.taken rest.acknowledged;
        one = one_more a answers rest.taken other rest.one;
        history = λ h has. more_then h _ (all_added (take rest.taken events) (take rest.taken answers))
            mid.state rest.after
            (event_adds (disk.honest old.disk) old.closed old.state mid.state mid.state e a h sound told leads has)
            rest.history;
      }

  -- what a stop leaves within the first event
  some_in : (old mid : Seen D) (e : Event) (a : Result Answer ArchiveError) (events : List Event)
      (answers : List (Result Answer ArchiveError)) (image : ℕ → List ℕ)
      → Answers (disk.honest old.disk) old.closed old.state e a mid.state → IsHere old
      → StandsForSome old.state (e ∷ []) (a ∷ []) image → IsImageIn 0 old.state (e ∷ events) (a ∷ answers) image
  some_in old mid e a events answers image told here (zero, few, after, same, stands) =
      none_in 0 old.state (e ∷ events) (a ∷ answers) image tt
      (subst (λ (s : State). StandsFor image (reopened s)) same stands)
  some_in old mid e a events answers image told here (suc zero, few, after, next, stands) =
      first_in 0 old mid next.0 e a events answers image told next.1 here tt
      (subst (λ (s : State). StandsFor image (reopened s)) next.2 stands)
  some_in old mid e a events answers image told here (suc (suc m), few, after, next, stands) =
      absurd (omega (arith, few))

  first_event : (old mid : Seen D) (e : Event) (a : Result Answer ArchiveError) (events : List Event)
      (answers : List (Result Answer ArchiveError)) → Answers (disk.honest old.disk) old.closed old.state e a mid.state
      → IsStep disk old mid (Takes true old.state e) a → IsTrue (disk.honest old.disk)
      → old.closed ≡ false → IsHere old
      → Leaves old mid (IsImageIn 0 old.state (e ∷ events) (a ∷ answers))
  first_event old mid e a events answers told step h still here =
      by disk old.disk mid.disk (StandsForSome old.state (e ∷ []) (a ∷ []))
      (IsImageIn 0 old.state (e ∷ events) (a ∷ answers))
      (all_moments disk old (e ∷ []) (a ∷ []) mid (mid, told, step, refl) h still
      (record { images = here.images }))
      (λ image some. some_in old mid e a events answers image told here some)

  module _ (some : (d : D) → IsTrue (disk.honest d) → (image : ℕ → List ℕ) × disk.left_since d (disk.moment d) image)
      (earlier : (d : D) (t : ℕ) (image : ℕ → List ℕ) → IsTrue (disk.honest d) → t ≤ disk.moment d
      → disk.left_since d (disk.moment d) image → disk.left_since d t image) where
    here_after : (old mid : Seen D) (e : Event) (a : Result Answer ArchiveError)
        → IsStep disk old mid (Takes true old.state e) a → IsTrue (disk.honest mid.disk)
        → mid.closed ≡ false → IsHere mid
    here_after old mid e a step h still = record { images = step.stands h still; some = some mid.disk h }

    any_moment : (old : Seen D) (events : List Event) (answers : List (Result Answer ArchiveError)) (new : Seen D)
        → Ran old events answers new → IsTrue (disk.honest old.disk) → old.closed ≡ false → IsHere old
        → Leaves old new (IsImageIn 0 old.state events answers)
    any_moment old [] [] new run h still here =
        subst (λ (s : Seen D). Leaves old s (IsImageIn 0 old.state [] [])) (sym run)
        (started disk old.disk (IsImageIn 0 old.state [] [])
        (λ image left. none_in 0 old.state [] [] image tt (here.images image left)))
    any_moment old [] (b ∷ answers) new run h still here = absurd run
    any_moment old (e ∷ events) [] new run h still here = absurd run
    any_moment old (e ∷ events) (a ∷ answers) new run h still here =
        let mid = run.0 in
        let first = first_event old mid e a events answers run.1 run.2 h still here in
        ⊎_elim
        (λ fault. let closed = (run.2.fault fault).1 in
        subst (λ (s : Seen D). Leaves old s (IsImageIn 0 old.state (e ∷ events) (a ∷ answers)))
        (sym (closed_run disk mid events answers new run.3 closed)) first)
        (λ other. let goes = goes_on disk old mid e a run.2 h still other in
        let h1 = subst IsTrue (sym run.2.honest_too) h in
        one_run disk old.disk mid.disk new.disk (IsImageIn 0 old.state (e ∷ events) (a ∷ answers)) first
        (by disk mid.disk new.disk (IsImageIn 0 mid.state events answers)
        (IsImageIn 0 old.state (e ∷ events) (a ∷ answers))
        (any_moment mid events answers new run.3 h1 goes.0 (here_after old mid e a run.2 h1 goes.0))
        (λ image rest. more_in 0 0 old mid e a events answers image run.1 goes.1 other here
        (λ n none. none_begun (suc n)) rest)))
        (fault_or a)

    -- the device failed under the first event
    fault_in : (i : ℕ) (old mid : Seen D) (e : Event) (events : List Event) (answers : List (Result Answer ArchiveError))
        → Answers (disk.honest old.disk) old.closed old.state e (Err Fault) mid.state
        → IsStep {T = Answer} disk old mid (Takes true old.state e) (Err Fault)
        → IsTrue (disk.honest old.disk) → old.closed ≡ false → IsHere old
        → AllByRecursion (λ (a : Result Answer ArchiveError). a ≡ Err Closed) answers
        → Leaves mid mid (IsImageIn (suc i) old.state (e ∷ events) (Err Fault ∷ answers))
    fault_in i old mid e events answers told step h still here closed =
        let run_of = step.any_moment h still in
        let refused = all_refused_first i answers (all_refused answers closed) in
        started disk mid.disk (IsImageIn (suc i) old.state (e ∷ events) (Err Fault ∷ answers))
        (λ image left. ⊎_elim
        (λ before. none_in (suc i) old.state (e ∷ events) (Err Fault ∷ answers) image (refl, refused) before)
        (λ under. first_in (suc i) old mid under.0 e (Err Fault) events answers image told under.1 here refused under.2)
        (run_of.each image (earlier mid.disk (disk.moment old.disk) image (subst IsTrue (sym step.honest_too) h)
        run_of.later left)))

    -- what a stop leaves from event i on, where a fault closed the archive under the first event
    at_fault : (i : ℕ) (old mid early new : Seen D) (e : Event) (events : List Event)
        (answers : List (Result Answer ArchiveError))
        → Answers (disk.honest old.disk) old.closed old.state e (Err Fault) mid.state
        → IsStep {T = Answer} disk old mid (Takes true old.state e) (Err Fault)
        → Ran mid (take i events) (take i answers) early → Ran early (drop i events) (drop i answers) new
        → IsTrue (disk.honest old.disk) → old.closed ≡ false → IsHere old
        → Leaves early new (IsImageIn (suc i) old.state (e ∷ events) (Err Fault ∷ answers))
    at_fault i old mid early new e events answers told step before after h still here =
        let closed = (step.fault refl).1 in
        let P = IsImageIn (suc i) old.state (e ∷ events) (Err Fault ∷ answers) in
        let first : early ≡ mid = closed_run disk mid (take i events) (take i answers) early before closed in
        let run : Ran mid (drop i events) (drop i answers) new =
        subst (λ (s : Seen D). Ran s (drop i events) (drop i answers) new) first after in
        let last : new ≡ mid = closed_run disk mid (drop i events) (drop i answers) new run closed in
        let refused = all_closed i answers
        (closed_answers disk mid (take i events) (take i answers) early before closed)
        (closed_answers disk mid (drop i events) (drop i answers) new run closed) in
        subst (λ (s : Seen D). Leaves s new P) (sym first)
        (subst (λ (s : Seen D). Leaves mid s P) (sym last)
        (fault_in i old mid e events answers told step h still here refused))

    -- what a stop leaves from event i on
    from_event : (i : ℕ) (old early : Seen D) (events : List Event) (answers : List (Result Answer ArchiveError))
        (new : Seen D) → Ran old (take i events) (take i answers) early → Ran early (drop i events) (drop i answers) new
        → IsTrue (disk.honest old.disk) → old.closed ≡ false → IsHere old
        → Leaves early new (IsImageIn i old.state events answers)
    from_event zero old early events answers new before after h still here =
        subst (λ (s : Seen D). Leaves s new (IsImageIn 0 old.state events answers)) (sym before)
        (any_moment old events answers new (subst (λ (s : Seen D). Ran s events answers new) before after) h still here)
    from_event (suc i) old early [] [] new before after h still here =
        subst (λ (s : Seen D). Leaves s new (IsImageIn (suc i) old.state [] [])) (sym before)
        (subst (λ (s : Seen D). Leaves old s (IsImageIn (suc i) old.state [] [])) (sym (after ∙ before))
        (started disk old.disk (IsImageIn (suc i) old.state [] [])
        (λ image left. none_in (suc i) old.state [] [] image tt (here.images image left))))
    from_event (suc i) old early [] (b ∷ answers) new before after h still here = absurd before
    from_event (suc i) old early (e ∷ events) [] new before after h still here = absurd before
    from_event (suc i) old early (e ∷ events) (a ∷ answers) new before after h still here =
        let mid = before.0 in
        ⊎_elim
        (λ fault. subst (λ (r : Result Answer ArchiveError).
        Answers (disk.honest old.disk) old.closed old.state e r mid.state
        → IsStep disk old mid (Takes true old.state e) r
        → Leaves early new (IsImageIn (suc i) old.state (e ∷ events) (r ∷ answers))) (sym fault)
        (λ told step. at_fault i old mid early new e events answers told step before.3 after h still here)
        before.1 before.2)
        (λ other. let goes = goes_on disk old mid e a before.2 h still other in
        let h1 = subst IsTrue (sym before.2.honest_too) h in
        by disk early.disk new.disk (IsImageIn i mid.state events answers)
        (IsImageIn (suc i) old.state (e ∷ events) (a ∷ answers))
        (from_event i mid early events answers new before.3 after h1 goes.0
        (here_after old mid e a before.2 h1 goes.0))
        (λ image found. more_in i (suc i) old mid e a events answers image before.1 goes.1 other here
        (λ n refused. refused) found))
        (fault_or a)

    pub prefixes_between : (i j : ℕ) (old early late : Seen D) (events : List Event)
        (answers : List (Result Answer ArchiveError)) → i ≤ j → Ran old (take i events) (take i answers) early
        → Ran early (drop i (take j events)) (drop i (take j answers)) late
        → IsTrue (disk.honest old.disk) → old.closed ≡ false → IsHere old
        → Leaves early late (λ image. (left : State) × IsPrefix old.state (take j events) (take j answers) i left
        × StandsFor image left)
    prefixes_between i j old early late events answers le before between h still here =
        by disk early.disk late.disk (IsImageIn i old.state (take j events) (take j answers))
        (λ image. (left : State) × IsPrefix old.state (take j events) (take j answers) i left × StandsFor image left)
        (from_event i old early (take j events) (take j answers) late
        (subst (λ (es : List Event). Ran old es (take i (take j answers)) early) (sym (take_fewer i j events le))
        (subst (λ (rs : List (Result Answer ArchiveError)). Ran old (take i events) rs early)
        (sym (take_fewer i j answers le)) before))
        between h still here)
        (λ image is. prefix_of i old.state (take j events) (take j answers) image is)

  -- ---- the archive when each event begins

  abbrev pub moment_of : (old : Seen D) (events : List Event) (answers : List (Result Answer ArchiveError)) (new : Seen D)
      → Ran old events answers new → ℕ → Seen D
  moment_of old events answers new run zero = old
  moment_of old [] answers new run (suc i) = old
  moment_of old (e ∷ events) [] new run (suc i) = old
  moment_of old (e ∷ events) (a ∷ answers) new run (suc i) = moment_of run.0 events answers new run.3 i

  run_before : (i : ℕ) (old : Seen D) (events : List Event) (answers : List (Result Answer ArchiveError))
      (new : Seen D) (run : Ran old events answers new)
      → Ran old (take i events) (take i answers) (moment_of old events answers new run i)
  run_before zero old events answers new run = refl
  run_before (suc i) old [] [] new run = refl
  run_before (suc i) old [] (a ∷ answers) new run = absurd run
  run_before (suc i) old (e ∷ events) [] new run = absurd run
  run_before (suc i) old (e ∷ events) (a ∷ answers) new run =
      (run.0, run.1, run.2, run_before i run.0 events answers new run.3)

  run_after : (i : ℕ) (old : Seen D) (events : List Event) (answers : List (Result Answer ArchiveError))
      (new : Seen D) (run : Ran old events answers new)
      → Ran (moment_of old events answers new run i) (drop i events) (drop i answers) new
  run_after zero old events answers new run = run
  run_after (suc i) old [] [] new run = run
  run_after (suc i) old [] (a ∷ answers) new run = absurd run
  run_after (suc i) old (e ∷ events) [] new run = absurd run
  run_after (suc i) old (e ∷ events) (a ∷ answers) new run = run_after i run.0 events answers new run.3

  run_between : (i j : ℕ) (old : Seen D) (events : List Event) (answers : List (Result Answer ArchiveError))
      (new : Seen D) (run : Ran old events answers new) → i ≤ j
      → Ran (moment_of old events answers new run i) (drop i (take j events)) (drop i (take j answers))
      (moment_of old events answers new run j)
  run_between zero j old events answers new run le = run_before j old events answers new run
  run_between (suc i) zero old events answers new run le = absurd (omega (arith, le))
  run_between (suc i) (suc j) old [] [] new run le = refl
  run_between (suc i) (suc j) old [] (a ∷ answers) new run le = absurd run
  run_between (suc i) (suc j) old (e ∷ events) [] new run le = absurd run
  run_between (suc i) (suc j) old (e ∷ events) (a ∷ answers) new run le =
      run_between i j run.0 events answers new run.3 (omega (arith, le))

  pub are_moments : (old : Seen D) (events : List Event) (answers : List (Result Answer ArchiveError)) (new : Seen D)
      (run : Ran old events answers new)
      → AreMoments disk old new events answers (moment_of old events answers new run)
  are_moments old events answers new run = record {
    before = λ i. run_before i old events answers new run;
    between = λ i j le. run_between i j old events answers new run le;
    after = λ i. run_after i old events answers new run;
  }
