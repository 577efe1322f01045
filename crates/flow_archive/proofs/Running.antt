-- Runs of events.
use Rattle.std.proofs.Common.{◌≡◌, ◌⊎◌, inl, inr, ⊎_elim, ℕ, zero, suc, true, false, IsTrue, List, []}
use Rattle.std.proofs.Common.{◌∷◌, ◌++◌, ◌≤◌, take, drop, Result, Ok, Err, refl, sym, ◌∙◌, ap, subst, arith}
use Rattle.flow_disk.specs.declared.disk.Disk.{Ghosts}
use Rattle.flow_disk.specs.Cause.{HasCause, HasRisen}
use Rattle.flow_disk.specs.Calls.{LeavesOnly}
use Rattle.flow_disk.proofs.Moments.{by, one_run, started}
use Rattle.flow_model.specs.State.{State, reopened}
use Rattle.flow_model.specs.Standing.{StandsFor}
use Rattle.flow_archive.specs.declared.event.Answer.{Answer}
use Rattle.flow_archive.specs.declared.event.Event.{Event}
use Rattle.flow_archive.specs.declared.refusal.ArchiveError.{ArchiveError}
use Rattle.flow_archive.specs.declared.refusal.ArchiveError.TheVariants.{Message, OutOfMemory, NumbersSpent, NotEmpty}
use Rattle.flow_archive.specs.declared.refusal.ArchiveError.TheVariants.{Fault, NoRoom, ManifestFull, NothingToSeal}
use Rattle.flow_archive.specs.declared.refusal.ArchiveError.TheVariants.{Closed}
use Rattle.flow_archive.specs.declared.refusal.ArchiveError.TheVariants.{Damaged, SourceFault, RollBusy, NoRoll}
use Rattle.flow_archive.specs.declared.refusal.ArchiveError.TheVariants.{RollCount, RollNotDone, Pinned, NothingToRetire}
use Rattle.flow_archive.specs.Answers.{Answers, Takes}
use Rattle.flow_archive.specs.Runs.{AreCaused, HasRefusal, IsAfter, IsRun, IsSince, Leads, StandsForSome}
use Rattle.flow_archive.specs.Seen.{Seen, IsStep, StandsBeforeOrAfter}

module _ {D S X : Type 0} (g : Ghosts D S X) where
  -- one event more
  pub run_more : (old : Seen D) (events : List Event) (answers : List (Result Answer ArchiveError)) (mid new : Seen D)
      (e : Event) (a : Result Answer ArchiveError) → IsRun g old events answers mid
      → Answers (g.honest mid.disk) mid.closed mid.state e a new.state
      → IsStep g mid new (Takes true mid.state e) a
      → IsRun g old (events ++ e ∷ []) (answers ++ a ∷ []) new
  run_more old [] [] mid new e a run answers step = (
    new,
    subst (λ (s : Seen D). Answers (g.honest s.disk) s.closed s.state e a new.state) run answers,
    subst (λ (s : Seen D). IsStep g s new (Takes true s.state e) a) run step,
    refl,
  )
  run_more old [] (b ∷ answers) mid new e a run told step = absurd run
  run_more old (f ∷ events) [] mid new e a run told step = absurd run
  run_more old (f ∷ events) (b ∷ answers) mid new e a run told step =
      (run.0, run.1, run.2, run_more run.0 events answers mid new e a run.3 told step)

  -- in a closed archive nothing happens
  closed_step : (old new : Seen D) (After : State → Type 0) (a : Result Answer ArchiveError)
      → IsStep g old new After a → old.closed ≡ true → new ≡ old
  closed_step old new After (Ok done) step closed = let was = step.done.2 in absurd (cc)
  closed_step old new After (Err Fault) step closed = let was = (step.fault refl).2 in absurd (cc)
  closed_step old new After (Err (Message fault)) step closed = step.refused (λ is. cc)
  closed_step old new After (Err OutOfMemory) step closed = step.refused (λ is. cc)
  closed_step old new After (Err NumbersSpent) step closed = step.refused (λ is. cc)
  closed_step old new After (Err NotEmpty) step closed = step.refused (λ is. cc)
  closed_step old new After (Err (Damaged file at)) step closed = step.refused (λ is. cc)
  closed_step old new After (Err SourceFault) step closed = step.refused (λ is. cc)
  closed_step old new After (Err RollBusy) step closed = step.refused (λ is. cc)
  closed_step old new After (Err NoRoll) step closed = step.refused (λ is. cc)
  closed_step old new After (Err RollCount) step closed = step.refused (λ is. cc)
  closed_step old new After (Err RollNotDone) step closed = step.refused (λ is. cc)
  closed_step old new After (Err Pinned) step closed = step.refused (λ is. cc)
  closed_step old new After (Err NothingToRetire) step closed = step.refused (λ is. cc)
  closed_step old new After (Err NoRoom) step closed = step.refused (λ is. cc)
  closed_step old new After (Err ManifestFull) step closed = step.refused (λ is. cc)
  closed_step old new After (Err NothingToSeal) step closed = step.refused (λ is. cc)
  closed_step old new After (Err Closed) step closed = step.refused (λ is. cc)

  pub closed_run : (old : Seen D) (events : List Event) (answers : List (Result Answer ArchiveError)) (new : Seen D)
      → IsRun g old events answers new → old.closed ≡ true → new ≡ old
  closed_run old [] [] new run closed = run
  closed_run old [] (b ∷ answers) new run closed = absurd run
  closed_run old (f ∷ events) [] new run closed = absurd run
  closed_run old (f ∷ events) (b ∷ answers) new run closed =
      let same = closed_step old run.0 (Takes true old.state f) b run.2 closed in
      closed_run run.0 events answers new run.3 (ap (λ (s : Seen D). s.closed) same ∙ closed) ∙ same

  -- from a moment at which each image represents the state
  pub record IsStanding (s : Seen D) : Type 0 where
    pub images : (image : ℕ → List ℕ) → g.left_since s.disk (g.moment s.disk) image → StandsFor image (reopened s.state)

  further : (old mid new : Seen D) (e : Event) (a : Result Answer ArchiveError) (events : List Event)
      (answers : List (Result Answer ArchiveError)) → Leads old.state e a mid.state
      → LeavesOnly g mid.disk new.disk (StandsForSome mid.state events answers)
      → LeavesOnly g mid.disk new.disk (StandsForSome old.state (e ∷ events) (a ∷ answers))
  further old mid new e a events answers leads run =
      by g mid.disk new.disk (StandsForSome mid.state events answers)
      (StandsForSome old.state (e ∷ events) (a ∷ answers)) run
      (λ image some. (suc some.0, omega (arith, some.1), some.2, (mid.state, leads, some.3), some.4))

  -- after the step with this answer, if the archive is still open
  open_step : (old mid : Seen D) (e : Event) (a : Result Answer ArchiveError)
      → IsStep g old mid (Takes true old.state e) a → IsTrue (g.honest old.disk)
      → old.closed ≡ false → (mid.closed ≡ true) ⊎ ((mid.closed ≡ false) × Leads old.state e a mid.state)
  open_step old mid e (Ok done) step h still = inr (step.done.1, step.done.0 h)
  open_step old mid e (Err Fault) step h still = inl (step.fault refl).1
  open_step old mid e (Err (Message fault)) step h still =
      let same = step.refused (λ is. cc) in
      inr (ap (λ (s : Seen D). s.closed) same ∙ still, ap (λ (s : Seen D). s.state) same)
  open_step old mid e (Err OutOfMemory) step h still =
      let same = step.refused (λ is. cc) in
      inr (ap (λ (s : Seen D). s.closed) same ∙ still, ap (λ (s : Seen D). s.state) same)
  open_step old mid e (Err NumbersSpent) step h still =
      let same = step.refused (λ is. cc) in
      inr (ap (λ (s : Seen D). s.closed) same ∙ still, ap (λ (s : Seen D). s.state) same)
  open_step old mid e (Err NotEmpty) step h still =
      let same = step.refused (λ is. cc) in
      inr (ap (λ (s : Seen D). s.closed) same ∙ still, ap (λ (s : Seen D). s.state) same)
  open_step old mid e (Err (Damaged file at)) step h still =
      let same = step.refused (λ is. cc) in
      inr (ap (λ (s : Seen D). s.closed) same ∙ still, ap (λ (s : Seen D). s.state) same)
  open_step old mid e (Err SourceFault) step h still =
      let same = step.refused (λ is. cc) in
      inr (ap (λ (s : Seen D). s.closed) same ∙ still, ap (λ (s : Seen D). s.state) same)
  open_step old mid e (Err RollBusy) step h still =
      let same = step.refused (λ is. cc) in
      inr (ap (λ (s : Seen D). s.closed) same ∙ still, ap (λ (s : Seen D). s.state) same)
  open_step old mid e (Err NoRoll) step h still =
      let same = step.refused (λ is. cc) in
      inr (ap (λ (s : Seen D). s.closed) same ∙ still, ap (λ (s : Seen D). s.state) same)
  open_step old mid e (Err RollCount) step h still =
      let same = step.refused (λ is. cc) in
      inr (ap (λ (s : Seen D). s.closed) same ∙ still, ap (λ (s : Seen D). s.state) same)
  open_step old mid e (Err RollNotDone) step h still =
      let same = step.refused (λ is. cc) in
      inr (ap (λ (s : Seen D). s.closed) same ∙ still, ap (λ (s : Seen D). s.state) same)
  open_step old mid e (Err Pinned) step h still =
      let same = step.refused (λ is. cc) in
      inr (ap (λ (s : Seen D). s.closed) same ∙ still, ap (λ (s : Seen D). s.state) same)
  open_step old mid e (Err NothingToRetire) step h still =
      let same = step.refused (λ is. cc) in
      inr (ap (λ (s : Seen D). s.closed) same ∙ still, ap (λ (s : Seen D). s.state) same)
  open_step old mid e (Err NoRoom) step h still =
      let same = step.refused (λ is. cc) in
      inr (ap (λ (s : Seen D). s.closed) same ∙ still, ap (λ (s : Seen D). s.state) same)
  open_step old mid e (Err ManifestFull) step h still =
      let same = step.refused (λ is. cc) in
      inr (ap (λ (s : Seen D). s.closed) same ∙ still, ap (λ (s : Seen D). s.state) same)
  open_step old mid e (Err NothingToSeal) step h still =
      let same = step.refused (λ is. cc) in
      inr (ap (λ (s : Seen D). s.closed) same ∙ still, ap (λ (s : Seen D). s.state) same)
  open_step old mid e (Err Closed) step h still =
      let same = step.refused (λ is. cc) in
      inr (ap (λ (s : Seen D). s.closed) same ∙ still, ap (λ (s : Seen D). s.state) same)

  -- a refusal that changed nothing
  nothing : (old mid : Seen D) (e : Event) (a : Result Answer ArchiveError) (events : List Event)
      (answers : List (Result Answer ArchiveError)) → mid ≡ old → IsStanding old
      → LeavesOnly g old.disk mid.disk (StandsForSome old.state (e ∷ events) (a ∷ answers))
  nothing old mid e a events answers same stands =
      subst (λ (s : Seen D). LeavesOnly g old.disk s.disk
      (StandsForSome old.state (e ∷ events) (a ∷ answers))) (sym same)
      (started g old.disk (StandsForSome old.state (e ∷ events) (a ∷ answers))
      (λ image left. (0, omega arith, old.state, refl, stands.images image left)))

  -- what a stop in the first step leaves
  first : (old mid : Seen D) (e : Event) (a : Result Answer ArchiveError) (events : List Event)
      (answers : List (Result Answer ArchiveError))
      → IsStep g old mid (Takes true old.state e) a → IsTrue (g.honest old.disk)
      → old.closed ≡ false → IsStanding old
      → LeavesOnly g old.disk mid.disk (StandsForSome old.state (e ∷ events) (a ∷ answers))
  first old mid e (Ok done) events answers step h still stands =
      by g old.disk mid.disk (StandsBeforeOrAfter old.state (Takes true old.state e))
      (StandsForSome old.state (e ∷ events) (Ok done ∷ answers)) (step.any_moment h still)
      (λ image either. ⊎_elim (λ before. (0, omega arith, old.state, refl, before))
      (λ done_too. (1, omega arith, done_too.0, (done_too.0, done_too.1, refl), done_too.2)) either)
  first old mid e (Err Fault) events answers step h still stands =
      by g old.disk mid.disk (StandsBeforeOrAfter old.state (Takes true old.state e))
      (StandsForSome old.state (e ∷ events) (Err Fault ∷ answers)) (step.any_moment h still)
      (λ image either. ⊎_elim (λ before. (0, omega arith, old.state, refl, before))
      (λ done_too. (1, omega arith, done_too.0, (done_too.0, done_too.1, refl), done_too.2)) either)
  first old mid e (Err (Message fault)) events answers step h still stands =
      nothing old mid e (Err (Message fault)) events answers (step.refused (λ is. cc)) stands
  first old mid e (Err OutOfMemory) events answers step h still stands =
      nothing old mid e (Err OutOfMemory) events answers (step.refused (λ is. cc)) stands
  first old mid e (Err NumbersSpent) events answers step h still stands =
      nothing old mid e (Err NumbersSpent) events answers (step.refused (λ is. cc)) stands
  first old mid e (Err NotEmpty) events answers step h still stands =
      nothing old mid e (Err NotEmpty) events answers (step.refused (λ is. cc)) stands
  first old mid e (Err (Damaged file at)) events answers step h still stands =
      nothing old mid e (Err (Damaged file at)) events answers (step.refused (λ is. cc)) stands
  first old mid e (Err SourceFault) events answers step h still stands =
      nothing old mid e (Err SourceFault) events answers (step.refused (λ is. cc)) stands
  first old mid e (Err RollBusy) events answers step h still stands =
      nothing old mid e (Err RollBusy) events answers (step.refused (λ is. cc)) stands
  first old mid e (Err NoRoll) events answers step h still stands =
      nothing old mid e (Err NoRoll) events answers (step.refused (λ is. cc)) stands
  first old mid e (Err RollCount) events answers step h still stands =
      nothing old mid e (Err RollCount) events answers (step.refused (λ is. cc)) stands
  first old mid e (Err RollNotDone) events answers step h still stands =
      nothing old mid e (Err RollNotDone) events answers (step.refused (λ is. cc)) stands
  first old mid e (Err Pinned) events answers step h still stands =
      nothing old mid e (Err Pinned) events answers (step.refused (λ is. cc)) stands
  first old mid e (Err NothingToRetire) events answers step h still stands =
      nothing old mid e (Err NothingToRetire) events answers (step.refused (λ is. cc)) stands
  first old mid e (Err NoRoom) events answers step h still stands =
      nothing old mid e (Err NoRoom) events answers (step.refused (λ is. cc)) stands
  first old mid e (Err ManifestFull) events answers step h still stands =
      nothing old mid e (Err ManifestFull) events answers (step.refused (λ is. cc)) stands
  first old mid e (Err NothingToSeal) events answers step h still stands =
      nothing old mid e (Err NothingToSeal) events answers (step.refused (λ is. cc)) stands
  first old mid e (Err Closed) events answers step h still stands =
      nothing old mid e (Err Closed) events answers (step.refused (λ is. cc)) stands

  -- each image of a moment since the first event began represents the state after some of the events
  pub all_moments : (old : Seen D) (events : List Event) (answers : List (Result Answer ArchiveError)) (new : Seen D)
      → IsRun g old events answers new → IsTrue (g.honest old.disk) → old.closed ≡ false
      → IsStanding old → LeavesOnly g old.disk new.disk (StandsForSome old.state events answers)
  all_moments old [] [] new run h still stands =
      subst (λ (s : Seen D). LeavesOnly g old.disk s.disk (StandsForSome old.state [] [])) (sym run)
      (started g old.disk (StandsForSome old.state [] [])
      (λ image left. (0, omega arith, old.state, refl, stands.images image left)))
  all_moments old [] (b ∷ answers) new run h still stands = absurd run
  all_moments old (e ∷ events) [] new run h still stands = absurd run
  all_moments old (e ∷ events) (a ∷ answers) new run h still stands =
      let mid = run.0 in
      let early = first old mid e a events answers run.2 h still stands in
      ⊎_elim
      (λ closed. subst (λ (s : Seen D). LeavesOnly g old.disk s.disk
      (StandsForSome old.state (e ∷ events) (a ∷ answers)))
      (sym (closed_run mid events answers new run.3 closed)) early)
      (λ goes. let h1 = subst IsTrue (sym run.2.honest_too) h in
      one_run g old.disk mid.disk new.disk (StandsForSome old.state (e ∷ events) (a ∷ answers)) early
      (further old mid new e a events answers goes.1
      (all_moments mid events answers new run.3 h1 goes.0 (record { images = run.2.stands h1 goes.0 }))))
      (open_step old mid e a run.2 h still)

  split : (i : ℕ) (old : Seen D) (events : List Event) (answers : List (Result Answer ArchiveError)) (new : Seen D)
      → IsRun g old events answers new
      → (mid : Seen D) × IsRun g old (take i events) (take i answers) mid
      × IsRun g mid (drop i events) (drop i answers) new
  split zero old events answers new run = (old, refl, run)
  split (suc i) old [] [] new run = (old, refl, run)
  split (suc i) old [] (a ∷ answers) new run = absurd run
  split (suc i) old (e ∷ events) [] new run = absurd run
  split (suc i) old (e ∷ events) (a ∷ answers) new run =
      let rest = split i run.0 events answers new run.3 in (rest.0, (run.0, run.1, run.2, rest.1), rest.2)

  -- an archive that is still open was open all along
  stood : (old : Seen D) (events : List Event) (answers : List (Result Answer ArchiveError)) (new : Seen D)
      → IsRun g old events answers new → IsTrue (g.honest old.disk) → old.closed ≡ false
      → IsStanding old → new.closed ≡ false
      → IsStanding new × IsAfter old.state events answers new.state × IsTrue (g.honest new.disk)
  stood old [] [] new run h still stands now =
      subst (λ (s : Seen D). IsStanding s × (s.state ≡ old.state) × IsTrue (g.honest s.disk)) (sym run)
      (stands, refl, h)
  stood old [] (b ∷ answers) new run h still stands now = absurd run
  stood old (e ∷ events) [] new run h still stands now = absurd run
  stood old (e ∷ events) (a ∷ answers) new run h still stands now =
      let mid = run.0 in
      ⊎_elim
      (λ closed. let same = ap (λ (s : Seen D). s.closed) (closed_run mid events answers new run.3 closed) in
      absurd (cc))
      (λ goes. let h1 = subst IsTrue (sym run.2.honest_too) h in
      let rest = stood mid events answers new run.3 h1 goes.0 (record { images = run.2.stands h1 goes.0 }) now in
      (rest.0, (mid.state, goes.1, rest.1), rest.2))
      (open_step old mid e a run.2 h still)

  pub since : (i : ℕ) (old : Seen D) (events : List Event) (answers : List (Result Answer ArchiveError)) (new : Seen D)
      → IsRun g old events answers new → IsTrue (g.honest old.disk) → old.closed ≡ false
      → IsStanding old → IsSince g old new events answers i
  since i old events answers new run h still stands =
      let parts = split i old events answers new run in
      let there = λ (now : parts.0.closed ≡ false).
      stood old (take i events) (take i answers) parts.0 parts.1 h still stands now in
      record {
        mid = parts.0;
        run_before = parts.1;
        run_after = parts.2;
        closed_too = closed_run parts.0 (drop i events) (drop i answers) new parts.2;
        reached = λ now. (there now).1;
        any_moment = λ now. all_moments parts.0 (drop i events) (drop i answers) new parts.2 (there now).2 now
            (there now).0;
      }

-- ---- failures

risen_still : (before mid now : ℕ) → HasRisen before mid → mid ≤ now → HasRisen before now
risen_still before mid now (inl less) le = inl (omega (arith, less, le))
risen_still before mid now (inr most) le = inr (omega (arith, most, le))

risen_since : (before mid now : ℕ) → before ≤ mid → HasRisen mid now → HasRisen before now
risen_since before mid now le (inl less) = inl (omega (arith, less, le))
risen_since before mid now le (inr most) = inr most

module _ {T : Type 0} (fault : ArchiveError) where
  in_front : (answers : List (Result T ArchiveError)) (a : Result T ArchiveError) → HasRefusal fault answers
      → HasRefusal fault (answers ++ a ∷ [])
  in_front [] a has = absurd has
  in_front (b ∷ answers) a (inl is) = inl is
  in_front (b ∷ answers) a (inr has) = inr (in_front answers a has)

  at_the_end : (answers : List (Result T ArchiveError)) (a : Result T ArchiveError) → a ≡ Err fault
      → HasRefusal fault (answers ++ a ∷ [])
  at_the_end [] a is = inl is
  at_the_end (b ∷ answers) a is = inr (at_the_end answers a is)

  either : (answers : List (Result T ArchiveError)) (a : Result T ArchiveError)
      → HasRefusal fault (answers ++ a ∷ []) → HasRefusal fault answers ⊎ (a ≡ Err fault)
  either [] a (inl is) = inr is
  either [] a (inr has) = absurd has
  either (b ∷ answers) a (inl is) = inl (inl is)
  either (b ∷ answers) a (inr has) =
      ⊎_elim (λ front. inl (inr front)) (λ last. inr last) (either answers a has)

  unless : (mid now : ℕ) (a : Result T ArchiveError) → HasCause fault mid now a → (a ≡ Err fault → ⊥) → now ≡ mid
  unless mid now (Ok done) cause never = cause.done
  unless mid now (Err e) cause never = cause.other (λ same. never (ap (λ (x : ArchiveError). Err x) same))

  -- one answer more
  pub caused_more : (before mid now : ℕ) (answers : List (Result T ArchiveError)) (a : Result T ArchiveError)
      → AreCaused fault before mid answers → HasCause fault mid now a → AreCaused fault before now (answers ++ a ∷ [])
  caused_more before mid now answers a was cause = record {
    later = omega (arith, was.later, cause.later);
    none = λ never. unless mid now a cause (λ is. never (at_the_end answers a is))
        ∙ was.none (λ has. never (in_front answers a has));
    risen = λ has. ⊎_elim (λ front. risen_still before mid now (was.risen front) cause.later)
        (λ last. risen_since before mid now was.later (cause.risen last)) (either answers a has);
  }

pub none_caused : {T : Type 0} (error : ArchiveError) (count : ℕ) → AreCaused {T = T} error count count []
none_caused error count = record { later = omega arith; none = λ never. refl; risen = λ has. absurd has }
