-- What an image of the last moment of a run represents.
use Rattle.std.proofs.Common.{◌≡◌, ◌≢◌, ◌⊎◌, inl, inr, ⊎_elim, ℕ, zero, suc, ◌<◌, ◌≤◌, true, false, IsTrue}
use Rattle.std.proofs.Common.{List, [], ◌∷◌, length, take, drop, Result, Ok, Err, refl, sym, ◌∙◌, ap, subst, arith}
use Rattle.std.specs.Prelude.{IsErr}
use Rattle.std.specs.List.{AllByRecursion}
use Rattle.flow_disk.specs.declared.disk.Disk.{Ghosts}
use Rattle.flow_measure.specs.History.{History}
use Rattle.flow_model.specs.State.{State, reopened}
use Rattle.flow_model.specs.Shelved.{HasHistory}
use Rattle.flow_model.specs.Standing.{StandsFor}
use Rattle.flow_archive.specs.declared.event.Answer.{Answer}
use Rattle.flow_archive.specs.declared.event.Event.{Event}
use Rattle.flow_archive.specs.declared.refusal.ArchiveError.{ArchiveError}
use Rattle.flow_archive.specs.declared.refusal.ArchiveError.TheVariants.{Message, OutOfMemory, NumbersSpent, NotEmpty}
use Rattle.flow_archive.specs.declared.refusal.ArchiveError.TheVariants.{Fault, NoRoom, ManifestFull, NothingToSeal}
use Rattle.flow_archive.specs.declared.refusal.ArchiveError.TheVariants.{Closed}
use Rattle.flow_archive.specs.declared.refusal.ArchiveError.TheVariants.{Damaged, SourceFault, RollBusy, NoRoll}
use Rattle.flow_archive.specs.declared.refusal.ArchiveError.TheVariants.{RollCount, RollNotDone, Pinned, NothingToRetire}
use Rattle.flow_archive.specs.Answers.{Answers, Takes}
use Rattle.flow_archive.specs.Runs.{IsAfter, IsRun, Leads}
use Rattle.flow_archive.specs.Seen.{Seen, IsStep}
use Rattle.flow_archive.proofs.Running.{closed_run}
use Rattle.flow_headline.specs.Front.{IsFront, all_added}
use Rattle.flow_headline.proofs.Closing.{all_refused, closed_answers}
use Rattle.flow_headline.proofs.Growing.{IsGrown, event_adds, has_more, more_then, same_history, sound_of}

abbrev pub IsNoFault : Result Answer ArchiveError → Type 0
IsNoFault a = a ≢ Err Fault

-- a prefix of the events, and an image that represents what is left of the archive after it
pub record IsImageOf (s : State) (events : List Event) (answers : List (Result Answer ArchiveError))
    (image : ℕ → List ℕ) : Type 0 where
  pub taken : ℕ
  pub within : taken ≤ length events
  pub after : State
  pub prefix : IsAfter s (take taken events) (take taken answers) after
  pub stands : StandsFor image (reopened after)
  pub acknowledged : AllByRecursion (λ (a : Result Answer ArchiveError). IsErr a) (drop taken answers)
  pub one : (k : ℕ) → k < taken → AllByRecursion IsNoFault (take k answers)
  pub history : (h : History) → HasHistory s h
      → IsGrown h (all_added (take taken events) (take taken answers)) after

pub front_of : (s : State) (events : List Event) (answers : List (Result Answer ArchiveError)) (image : ℕ → List ℕ)
    (found : IsImageOf s events answers image) → IsFront s events answers (reopened found.after)
front_of s events answers image found = record {
  taken = found.taken;
  within = found.within;
  after = found.after;
  prefix = found.prefix;
  left_is = refl;
  acknowledged = found.acknowledged;
  one = found.one;
  history = λ h has. has_more h (all_added (take found.taken events) (take found.taken answers)) found.after
      (sound_of image found.after found.stands).valid (found.history h has);
}

pub fault_or : (a : Result Answer ArchiveError) → (a ≡ Err Fault) ⊎ (a ≢ Err Fault)
fault_or (Ok done) = inr (λ is. cc)
fault_or (Err Fault) = inl refl
fault_or (Err (Message fault)) = inr (λ is. cc)
fault_or (Err OutOfMemory) = inr (λ is. cc)
fault_or (Err NumbersSpent) = inr (λ is. cc)
fault_or (Err NotEmpty) = inr (λ is. cc)
fault_or (Err (Damaged file at)) = inr (λ is. cc)
fault_or (Err SourceFault) = inr (λ is. cc)
fault_or (Err RollBusy) = inr (λ is. cc)
fault_or (Err NoRoll) = inr (λ is. cc)
fault_or (Err RollCount) = inr (λ is. cc)
fault_or (Err RollNotDone) = inr (λ is. cc)
fault_or (Err Pinned) = inr (λ is. cc)
fault_or (Err NothingToRetire) = inr (λ is. cc)
fault_or (Err NoRoom) = inr (λ is. cc)
fault_or (Err ManifestFull) = inr (λ is. cc)
fault_or (Err NothingToSeal) = inr (λ is. cc)
fault_or (Err Closed) = inr (λ is. cc)

pub one_first : (a : Result Answer ArchiveError) (answers : List (Result Answer ArchiveError)) (k : ℕ) → k < 1
    → AllByRecursion IsNoFault (take k (a ∷ answers))
one_first a answers zero lt = tt
one_first a answers (suc k) lt = absurd (omega (arith, lt))

pub one_more : (a : Result Answer ArchiveError) (answers : List (Result Answer ArchiveError)) (taken : ℕ) → a ≢ Err Fault
    → ((k : ℕ) → k < taken → AllByRecursion IsNoFault (take k answers)) → (k : ℕ) → k < suc taken
    → AllByRecursion IsNoFault (take k (a ∷ answers))
one_more a answers taken other rest zero lt = tt
one_more a answers taken other rest (suc k) lt = (other, rest k (omega (arith, lt)))

module _ {D S X : Type 0} (disk : Ghosts D S X) where
  -- each image that a stop would leave now represents the state, and there is such an image
  pub record IsStanding (s : Seen D) : Type 0 where
    pub images : (image : ℕ → List ℕ) → disk.left_since s.disk (disk.moment s.disk) image
        → StandsFor image (reopened s.state)
    pub some : (image : ℕ → List ℕ) × disk.left_since s.disk (disk.moment s.disk) image

  -- a stop at any moment so far might have left this
  abbrev IsLeft : (ℕ → List ℕ) → Seen D → Type 0
  IsLeft image s = (t : ℕ) → t ≤ disk.moment s.disk → disk.left_since s.disk t image

  stays : (old mid : Seen D) → mid ≡ old → old.closed ≡ false → (mid.closed ≡ false) × (mid.state ≡ old.state)
  stays old mid same still = (ap (λ (s : Seen D). s.closed) same ∙ still, ap (λ (s : Seen D). s.state) same)

  pub goes_on : (old mid : Seen D) (e : Event) (a : Result Answer ArchiveError)
      → IsStep disk old mid (Takes true old.state e) a → IsTrue (disk.honest old.disk)
      → old.closed ≡ false → a ≢ Err Fault → (mid.closed ≡ false) × Leads old.state e a mid.state
  goes_on old mid e (Ok done) step h still other = (step.done.1, step.done.0 h)
  goes_on old mid e (Err Fault) step h still other = absurd (other refl)
  goes_on old mid e (Err (Message fault)) step h still other = stays old mid (step.refused (λ is. cc)) still
  goes_on old mid e (Err OutOfMemory) step h still other = stays old mid (step.refused (λ is. cc)) still
  goes_on old mid e (Err NumbersSpent) step h still other = stays old mid (step.refused (λ is. cc)) still
  goes_on old mid e (Err NotEmpty) step h still other = stays old mid (step.refused (λ is. cc)) still
  goes_on old mid e (Err (Damaged file at)) step h still other = stays old mid (step.refused (λ is. cc)) still
  goes_on old mid e (Err SourceFault) step h still other = stays old mid (step.refused (λ is. cc)) still
  goes_on old mid e (Err RollBusy) step h still other = stays old mid (step.refused (λ is. cc)) still
  goes_on old mid e (Err NoRoll) step h still other = stays old mid (step.refused (λ is. cc)) still
  goes_on old mid e (Err RollCount) step h still other = stays old mid (step.refused (λ is. cc)) still
  goes_on old mid e (Err RollNotDone) step h still other = stays old mid (step.refused (λ is. cc)) still
  goes_on old mid e (Err Pinned) step h still other = stays old mid (step.refused (λ is. cc)) still
  goes_on old mid e (Err NothingToRetire) step h still other = stays old mid (step.refused (λ is. cc)) still
  goes_on old mid e (Err NoRoom) step h still other = stays old mid (step.refused (λ is. cc)) still
  goes_on old mid e (Err ManifestFull) step h still other = stays old mid (step.refused (λ is. cc)) still
  goes_on old mid e (Err NothingToSeal) step h still other = stays old mid (step.refused (λ is. cc)) still
  goes_on old mid e (Err Closed) step h still other = stays old mid (step.refused (λ is. cc)) still

  -- the device failed under this event
  at_fault : (old mid new : Seen D) (e : Event) (events : List Event) (answers : List (Result Answer ArchiveError))
      (image : ℕ → List ℕ) → Answers (disk.honest old.disk) old.closed old.state e (Err Fault) mid.state
      → IsStep {T = Answer} disk old mid (Takes true old.state e) (Err Fault)
      → IsRun disk mid events answers new → IsTrue (disk.honest old.disk) → old.closed ≡ false
      → IsStanding old → IsLeft image new → IsImageOf old.state (e ∷ events) (Err Fault ∷ answers) image
  at_fault old mid new e events answers image told step run h still stands left =
      let closed = (step.fault refl).1 in
      let same : new ≡ mid = closed_run disk mid events answers new run closed in
      let there : IsLeft image mid = subst (λ (s : Seen D). IsLeft image s) same left in
      let run_of = step.any_moment h still in
      let refused = all_refused answers (closed_answers disk mid events answers new run closed) in
      let sound = sound_of stands.some.0 old.state (stands.images stands.some.0 stands.some.1) in
      ⊎_elim
      (λ before. record {
        taken = 0;
        within = omega arith;
        after = old.state;
        prefix = refl;
        stands = before;
        acknowledged = (refl, refused);
        one = λ k lt. absurd (omega (arith, lt));
        history = λ h has. same_history old.state old.state h refl has;
      })
      (λ under. record {
        taken = 1;
        within = omega arith;
        after = under.0;
        prefix = (under.0, under.1, refl);
        stands = under.2;
        acknowledged = refused;
        one = one_first (Err Fault) answers;
        history = λ g has. more_then g _ [] under.0 under.0
            (event_adds (disk.honest old.disk) old.closed old.state under.0 mid.state e
            (Err Fault) g sound told under.1 has)
            (λ f given. same_history under.0 under.0 f refl given);
      })
      (run_of.each image (there (disk.moment old.disk) run_of.later))

  -- one event more before them
  one_more_event : (old mid : Seen D) (e : Event) (a : Result Answer ArchiveError) (events : List Event)
      (answers : List (Result Answer ArchiveError)) (image : ℕ → List ℕ)
      → Answers (disk.honest old.disk) old.closed old.state e a mid.state → Leads old.state e a mid.state
      → a ≢ Err Fault
      → IsStanding old → IsImageOf mid.state events answers image → IsImageOf old.state (e ∷ events) (a ∷ answers) image
  one_more_event old mid e a events answers image told leads other stands rest =
      let sound = sound_of stands.some.0 old.state (stands.images stands.some.0 stands.some.1) in
      record {
        taken = suc rest.taken;
        within = omega (arith, rest.within);
        after = rest.after;
        prefix = (mid.state, leads, rest.prefix);
        stands = rest.stands;
        acknowledged = rest.acknowledged;
        one = one_more a answers rest.taken other rest.one;
        history = λ h has. more_then h _ (all_added (take rest.taken events) (take rest.taken answers))
            mid.state rest.after
            (event_adds (disk.honest old.disk) old.closed old.state mid.state mid.state e a h sound told leads has)
            rest.history;
      }

  module _ (some : (d : D) → IsTrue (disk.honest d) → (image : ℕ → List ℕ)
      × disk.left_since d (disk.moment d) image) where
    pub image_of_run : (old : Seen D) (events : List Event) (answers : List (Result Answer ArchiveError))
        (new : Seen D) (image : ℕ → List ℕ) → IsRun disk old events answers new
        → IsTrue (disk.honest old.disk) → old.closed ≡ false → IsStanding old → IsLeft image new
        → IsImageOf old.state events answers image
    image_of_run old [] [] new image run h still stands left = record {
      taken = 0;
      within = omega arith;
      after = old.state;
      prefix = refl;
      stands = stands.images image (subst (λ (s : Seen D). disk.left_since s.disk (disk.moment s.disk) image) run
          (left (disk.moment new.disk) (omega arith)));
      acknowledged = tt;
      one = λ k lt. absurd (omega (arith, lt));
      history = λ h has. same_history old.state old.state h refl has;
    }
    image_of_run old [] (b ∷ answers) new image run h still stands left = absurd run
    image_of_run old (e ∷ events) [] new image run h still stands left = absurd run
    image_of_run old (e ∷ events) (a ∷ answers) new image run h still stands left =
        let mid = run.0 in
        ⊎_elim
        (λ fault. subst (λ (r : Result Answer ArchiveError).
        Answers (disk.honest old.disk) old.closed old.state e r mid.state
        → IsStep disk old mid (Takes true old.state e) r
        → IsImageOf old.state (e ∷ events) (r ∷ answers) image) (sym fault)
        (λ told step. at_fault old mid new e events answers image told step run.3 h still stands left) run.1 run.2)
        (λ other. let goes = goes_on old mid e a run.2 h still other in
        let h1 = subst IsTrue (sym run.2.honest_too) h in
        one_more_event old mid e a events answers image run.1 goes.1 other stands
        (image_of_run mid events answers new image run.3 h1 goes.0
        (record { images = run.2.stands h1 goes.0; some = some mid.disk h1 }) left))
        (fault_or a)
