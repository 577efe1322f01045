-- What a stop leaves within one event of a run represents one of two states.
use Rattle.std.proofs.Common.{◌≡◌, ◌≢◌, ◌⊎◌, inl, inr, ⊎_elim, ℕ, zero, suc, ◌<◌, ◌≤◌, ◌^◌, Bool, true, false}
use Rattle.std.proofs.Common.{IsTrue, List, [], ◌∷◌, ◌++◌, length, take, drop, Option, Some, None, Result, Ok, Err}
use Rattle.std.proofs.Common.{refl, sym, ◌∙◌, ap, subst, arith}
use Rattle.std.specs.Prelude.{IsErr}
use Rattle.std.specs.List.{AllByRecursion}
use Rattle.std.proofs.lemmas.Option.{none-some}
use Rattle.flow_disk.specs.declared.disk.Disk.{Ghosts}
use Rattle.flow_gate.specs.Scan.{texts}
use Rattle.flow_manifest.specs.declared.following.JobKind.TheVariants.{Roll, Merge}
use Rattle.flow_measure.specs.History.{History}
use Rattle.flow_segment.specs.Carry.{prefix_of}
use Rattle.flow_model.specs.State.{Job, StagedFile, State, appended, after_seal, reopened}
use Rattle.flow_model.specs.Shelved.{HasHistory}
use Rattle.flow_model.specs.Standing.{StandsFor}
use Rattle.flow_archive.specs.declared.event.Answer.{Answer}
use Rattle.flow_archive.specs.declared.event.Event.{Event}
use Rattle.flow_archive.specs.declared.event.Event.TheVariants.{Append, AppendBatch, Seal, RollBegin, MergeBegin}
use Rattle.flow_archive.specs.declared.event.Event.TheVariants.{RollStep, RollWrite, RollInstall, RollDrop, Retire}
use Rattle.flow_archive.specs.declared.refusal.ArchiveError.{ArchiveError}
use Rattle.flow_archive.specs.declared.refusal.ArchiveError.TheVariants.{Message, OutOfMemory, NumbersSpent, NotEmpty}
use Rattle.flow_archive.specs.declared.refusal.ArchiveError.TheVariants.{Fault, NoRoom, ManifestFull, NothingToSeal}
use Rattle.flow_archive.specs.declared.refusal.ArchiveError.TheVariants.{Closed}
use Rattle.flow_archive.specs.declared.refusal.ArchiveError.TheVariants.{Damaged, SourceFault, RollBusy, NoRoll}
use Rattle.flow_archive.specs.declared.refusal.ArchiveError.TheVariants.{RollCount, RollNotDone, Pinned, NothingToRetire}
use Rattle.flow_archive.specs.Answers.{Answers, Takes}
use Rattle.flow_archive.specs.JobAnswers.{IsStagedIn, begun, dropped}
use Rattle.flow_archive.specs.Runs.{IsAfter, IsRun, Leads}
use Rattle.flow_archive.specs.Seen.{IsStep, Seen}
use Rattle.flow_archive.proofs.Running.{closed_run}
use Rattle.flow_headline.specs.Front.{IsPrefix, all_added}
use Rattle.flow_headline.proofs.Between.{take_fewer}
use Rattle.flow_headline.proofs.Closing.{all_refused, closed_answers}
use Rattle.flow_headline.proofs.Fronts.{IsNoFault, IsStanding, fault_or, goes_on, one_first, one_more}
use Rattle.flow_headline.proofs.Growing.{IsGrown, IsSound, event_adds, has_more, more_then, same_history, sound_of}
use Rattle.flow_headline.proofs.JobFiles.{HasMade, made_after}
use Rattle.flow_headline.proofs.OneState.{installed, some_once, taken_once}

-- ---- the state after an event under way

-- A state, and whatever an event makes of the archive, what is left of it on a disk is as of that state.
record IsOneAfter (s : State) (e : Event) : Type 0 where
  pub next : State
  pub leads : (next ≡ s) ⊎ Takes true s e next
  pub only : (after : State) → Takes true s e after → reopened after ≡ reopened next

-- an event that leads to this state
leads_there : (s next : State) (e : Event) → s.manifest.width < 2 ^ 32 → Takes true s e next → IsOneAfter s e
leads_there s next e small takes = record {
  next = next;
  leads = inr takes;
  only = λ after also. ap reopened (taken_once s after next e small also takes);
}

-- an event that leaves the files as they are
leaves_files : (s : State) (e : Event) → ((after : State) → Takes true s e after → reopened after ≡ reopened s)
    → IsOneAfter s e
leaves_files s e same = record { next = s; leads = inl refl; only = same }

written_left : (s after : State) (job : Job) (staged : Option StagedFile) → IsStagedIn true s job staged after
    → reopened after ≡ reopened s
written_left s after job (Some file) is = ap reopened is
written_left s after job None (numbers, (octets, made, is)) = ap reopened is

install_staged : (s : State) (job : Job) (staged : Option StagedFile) → s.manifest.width < 2 ^ 32 → HasMade s
    → s.job ≡ Some job → job.staged ≡ staged → IsOneAfter s RollInstall
install_staged s job None small has there none =
    leaves_files s RollInstall (λ after takes.
    let same : takes.0 ≡ job = some_once s.job takes.0 job takes.1 there in
    let staged = takes.2 in
    absurd (none-some staged.0 (sym none ∙ ap (λ (j : Job). j.staged) (sym same) ∙ staged.2)))
install_staged s job (Some file) small has there staged =
    let made = has job there in
    leads_there s (installed s job file file.octets) RollInstall small
    (job, there, (file, file.octets, staged, made.sources, (λ h. (made.file file staged, refl)), refl))

install_job : (s : State) (job : Option Job) → s.manifest.width < 2 ^ 32 → HasMade s → s.job ≡ job
    → IsOneAfter s RollInstall
install_job s None small has none =
    leaves_files s RollInstall (λ after takes. absurd (none-some takes.0 (sym none ∙ takes.1)))
install_job s (Some job) small has there = install_staged s job job.staged small has there refl

one_after : (s : State) (e : Event) → IsSound s → HasMade s → IsOneAfter s e
one_after s (Append message) sound has =
    leads_there s (appended s (message.items ∷ [])) (Append message) (sound.valid).fits.width refl
one_after s (AppendBatch messages) sound has =
    leads_there s (appended s (texts messages.items)) (AppendBatch messages) (sound.valid).fits.width refl
one_after s Seal sound has =
    let active = (sound.hands).active in
    leads_there s (record (after_seal s (prefix_of active.0)) { parts = s.parts ++ s.active ∷ [] }) Seal
    (sound.valid).fits.width (active.0, s.active, active.2, (λ h. refl), refl)
one_after s (RollBegin count) sound has =
    leads_there s (begun s Roll count) (RollBegin count) (sound.valid).fits.width refl
one_after s (MergeBegin count) sound has =
    leads_there s (begun s Merge count) (MergeBegin count) (sound.valid).fits.width refl
one_after s RollStep sound has = leaves_files s RollStep (λ after takes. ap reopened takes.2)
one_after s RollWrite sound has =
    leaves_files s RollWrite (λ after takes. written_left s after takes.0 (takes.0).staged (takes.2).1)
one_after s RollInstall sound has = install_job s s.job (sound.valid).fits.width has refl
one_after s RollDrop sound has = leads_there s (dropped s) RollDrop (sound.valid).fits.width refl
one_after s Retire sound has = leaves_files s Retire (λ after takes. ap reopened (takes.1).2)

-- ---- a prefix of the events

-- the state after a prefix of the events
pub record IsBegun (begun : ℕ) (s : State) (events : List Event) (answers : List (Result Answer ArchiveError))
    (after : State) : Type 0 where
  pub taken : ℕ
  pub within : taken ≤ length events
  pub prefix : IsAfter s (take taken events) (take taken answers) after
  pub acknowledged : AllByRecursion (λ (a : Result Answer ArchiveError). IsErr a) (drop taken (take begun answers))
  pub one : (k : ℕ) → k < taken → AllByRecursion IsNoFault (take k answers)
  pub history : (h : History) → HasHistory s h
      → IsGrown h (all_added (take taken events) (take taken answers)) after

pub prefix_from : (begun : ℕ) (s : State) (events : List Event) (answers : List (Result Answer ArchiveError))
    (after : State) → IsSound after → IsBegun begun s events answers after
    → IsPrefix s events answers begun (reopened after)
prefix_from begun s events answers after sound found = record {
  taken = found.taken;
  within = found.within;
  after = after;
  prefix = found.prefix;
  left_is = refl;
  acknowledged = found.acknowledged;
  one = found.one;
  history = λ h has. has_more h (all_added (take found.taken events) (take found.taken answers)) after
      sound.valid (found.history h has);
}

-- none of the events is in it
none_of : (begun : ℕ) (s : State) (events : List Event) (answers : List (Result Answer ArchiveError))
    → AllByRecursion (λ (a : Result Answer ArchiveError). IsErr a) (take begun answers)
    → IsBegun begun s events answers s
none_of begun s events answers refused = record {
  taken = 0;
  within = omega arith;
  prefix = refl;
  acknowledged = refused;
  one = λ k lt. absurd (omega (arith, lt));
  history = λ h has. same_history s s h refl has;
}

-- the first event alone is
first_of : (begun : ℕ) (honest closed : Bool) (s mid next : State) (e : Event) (a : Result Answer ArchiveError)
    (events : List Event) (answers : List (Result Answer ArchiveError)) → IsSound s → Answers honest closed s e a mid
    → Leads s e a next
    → AllByRecursion (λ (r : Result Answer ArchiveError). IsErr r) (drop 1 (take begun (a ∷ answers)))
    → IsBegun begun s (e ∷ events) (a ∷ answers) next
first_of begun honest closed s mid next e a events answers sound told leads refused = record {
  taken = 1;
  within = omega arith;
  prefix = (next, leads, refl);
  acknowledged = refused;
  one = one_first a answers;
  history = λ g has. more_then g _ [] next next (event_adds honest closed s next mid e a g sound told leads has)
      (λ f given. same_history next next f refl given);
}

-- one event more is
more_of : (begun : ℕ) (honest closed : Bool) (s mid after : State) (e : Event) (a : Result Answer ArchiveError)
    (events : List Event) (answers : List (Result Answer ArchiveError)) → IsSound s → Answers honest closed s e a mid
    → Leads s e a mid → a ≢ Err Fault → IsBegun begun mid events answers after
    → IsBegun (suc begun) s (e ∷ events) (a ∷ answers) after
more_of begun honest closed s mid after e a events answers sound told leads other rest = record {
  taken = suc rest.taken;
  within = omega (arith, rest.within);
  prefix = (mid, leads, rest.prefix);
  acknowledged = rest.acknowledged;
  one = one_more a answers rest.taken other rest.one;
  history = λ h has. more_then h _ (all_added (take rest.taken events) (take rest.taken answers)) mid after
      (event_adds honest closed s mid mid e a h sound told leads has) rest.history;
}

no_answers : (n : ℕ) → AllByRecursion (λ (r : Result Answer ArchiveError). IsErr r) (take n [])
no_answers zero = tt
no_answers (suc n) = tt

-- ---- two states

-- Each of these images represents one of two states, and each state that one of them represents is after a prefix of
-- the events.
pub record AreTwo (begun : ℕ) (s : State) (events : List Event) (answers : List (Result Answer ArchiveError))
    (Left : (ℕ → List ℕ) → Type 0) : Type 0 where
  pub one : State
  pub two : State
  pub first : IsBegun begun s events answers one
  pub second : IsBegun begun s events answers two
  pub either : (image : ℕ → List ℕ) → Left image → StandsFor image (reopened one) ⊎ StandsFor image (reopened two)

made_next : (honest closed : Bool) (s next : State) (e : Event) (a : Result Answer ArchiveError) → IsSound s
    → Answers honest closed s e a next → Leads s e a next → a ≢ Err Fault → HasMade s → HasMade next
made_next honest closed s next e (Ok answer) sound told leads other has =
    made_after honest closed s next e answer sound told leads has
made_next honest closed s next e (Err Fault) sound told leads other has = absurd (other refl)
made_next honest closed s next e (Err (Message fault)) sound told leads other has = subst HasMade (sym leads) has
made_next honest closed s next e (Err OutOfMemory) sound told leads other has = subst HasMade (sym leads) has
made_next honest closed s next e (Err NumbersSpent) sound told leads other has = subst HasMade (sym leads) has
made_next honest closed s next e (Err NotEmpty) sound told leads other has = subst HasMade (sym leads) has
made_next honest closed s next e (Err (Damaged file at)) sound told leads other has = subst HasMade (sym leads) has
made_next honest closed s next e (Err SourceFault) sound told leads other has = subst HasMade (sym leads) has
made_next honest closed s next e (Err RollBusy) sound told leads other has = subst HasMade (sym leads) has
made_next honest closed s next e (Err NoRoll) sound told leads other has = subst HasMade (sym leads) has
made_next honest closed s next e (Err RollCount) sound told leads other has = subst HasMade (sym leads) has
made_next honest closed s next e (Err RollNotDone) sound told leads other has = subst HasMade (sym leads) has
made_next honest closed s next e (Err Pinned) sound told leads other has = subst HasMade (sym leads) has
made_next honest closed s next e (Err NothingToRetire) sound told leads other has = subst HasMade (sym leads) has
made_next honest closed s next e (Err NoRoom) sound told leads other has = subst HasMade (sym leads) has
made_next honest closed s next e (Err ManifestFull) sound told leads other has = subst HasMade (sym leads) has
made_next honest closed s next e (Err NothingToSeal) sound told leads other has = subst HasMade (sym leads) has
made_next honest closed s next e (Err Closed) sound told leads other has = subst HasMade (sym leads) has

module _ {D S X : Type 0} (g : Ghosts D S X) where
  abbrev Since : Seen D → Seen D → (ℕ → List ℕ) → Type 0
  Since early late image = g.left_since late.disk (g.moment early.disk) image

  sound_here : (s : Seen D) → IsStanding g s → IsSound s.state
  sound_here s here = sound_of here.some.0 s.state (here.images here.some.0 here.some.1)

  -- the archive is before this event, or after it
  record IsInEvent (old mid : Seen D) (e : Event) (a : Result Answer ArchiveError) : Type 0 where
    pub next : State
    pub leads : (next ≡ old.state) ⊎ Leads old.state e a next
    pub either : (image : ℕ → List ℕ) → Since old mid image
        → StandsFor image (reopened old.state) ⊎ StandsFor image (reopened next)

  -- what a stop in the event leaves, where this is all that it leads to
  after_or_before : (old mid : Seen D) (e : Event) (a : Result Answer ArchiveError) (next : State)
      → IsStep g old mid (Takes true old.state e) a → IsTrue (g.honest old.disk) → old.closed ≡ false
      → (next ≡ old.state) ⊎ Leads old.state e a next
      → ((after : State) → Takes true old.state e after → reopened after ≡ reopened next) → IsInEvent old mid e a
  after_or_before old mid e a next step h still leads only = record {
    next = next;
    leads = leads;
    either = λ image left. ⊎_elim (λ before. inl before)
        (λ under. inr (subst (λ (t : State). StandsFor image t) (only under.0 under.1) under.2))
        ((step.any_moment h still).each image left);
  }

  -- a refusal that changed nothing
  unchanged : (old mid : Seen D) (e : Event) (a : Result Answer ArchiveError) → mid ≡ old → IsStanding g old
      → IsInEvent old mid e a
  unchanged old mid e a same here = record {
    next = old.state;
    leads = inl refl;
    either = λ image left. inl (here.images image (subst (λ (s : Seen D). Since old s image) same left));
  }

  in_event : (old mid : Seen D) (e : Event) (a : Result Answer ArchiveError)
      → IsStep g old mid (Takes true old.state e) a → IsTrue (g.honest old.disk) → old.closed ≡ false
      → IsStanding g old → HasMade old.state → IsInEvent old mid e a
  in_event old mid e (Ok answer) step h still here has =
      after_or_before old mid e (Ok answer) mid.state step h still (inr (step.done.0 h))
      (λ after takes. ap reopened (taken_once old.state after mid.state e
      ((sound_here old here).valid).fits.width takes (step.done.0 h)))
  in_event old mid e (Err Fault) step h still here has =
      let after = one_after old.state e (sound_here old here) has in
      after_or_before old mid e (Err Fault) after.next step h still after.leads after.only
  in_event old mid e (Err (Message fault)) step h still here has =
      unchanged old mid e (Err (Message fault)) (step.refused (λ is. cc)) here
  in_event old mid e (Err OutOfMemory) step h still here has =
      unchanged old mid e (Err OutOfMemory) (step.refused (λ is. cc)) here
  in_event old mid e (Err NumbersSpent) step h still here has =
      unchanged old mid e (Err NumbersSpent) (step.refused (λ is. cc)) here
  in_event old mid e (Err NotEmpty) step h still here has =
      unchanged old mid e (Err NotEmpty) (step.refused (λ is. cc)) here
  in_event old mid e (Err (Damaged file at)) step h still here has =
      unchanged old mid e (Err (Damaged file at)) (step.refused (λ is. cc)) here
  in_event old mid e (Err SourceFault) step h still here has =
      unchanged old mid e (Err SourceFault) (step.refused (λ is. cc)) here
  in_event old mid e (Err RollBusy) step h still here has =
      unchanged old mid e (Err RollBusy) (step.refused (λ is. cc)) here
  in_event old mid e (Err NoRoll) step h still here has =
      unchanged old mid e (Err NoRoll) (step.refused (λ is. cc)) here
  in_event old mid e (Err RollCount) step h still here has =
      unchanged old mid e (Err RollCount) (step.refused (λ is. cc)) here
  in_event old mid e (Err RollNotDone) step h still here has =
      unchanged old mid e (Err RollNotDone) (step.refused (λ is. cc)) here
  in_event old mid e (Err Pinned) step h still here has =
      unchanged old mid e (Err Pinned) (step.refused (λ is. cc)) here
  in_event old mid e (Err NothingToRetire) step h still here has =
      unchanged old mid e (Err NothingToRetire) (step.refused (λ is. cc)) here
  in_event old mid e (Err NoRoom) step h still here has =
      unchanged old mid e (Err NoRoom) (step.refused (λ is. cc)) here
  in_event old mid e (Err ManifestFull) step h still here has =
      unchanged old mid e (Err ManifestFull) (step.refused (λ is. cc)) here
  in_event old mid e (Err NothingToSeal) step h still here has =
      unchanged old mid e (Err NothingToSeal) (step.refused (λ is. cc)) here
  in_event old mid e (Err Closed) step h still here has =
      unchanged old mid e (Err Closed) (step.refused (λ is. cc)) here

  -- two states of that event, where all that were answered after it were refused
  two_of : (begun : ℕ) (old mid : Seen D) (e : Event) (a : Result Answer ArchiveError) (events : List Event)
      (answers : List (Result Answer ArchiveError)) (Left : (ℕ → List ℕ) → Type 0) → IsSound old.state
      → Answers (g.honest old.disk) old.closed old.state e a mid.state → (inside : IsInEvent old mid e a)
      → AllByRecursion (λ (r : Result Answer ArchiveError). IsErr r) (take begun (a ∷ answers))
      → AllByRecursion (λ (r : Result Answer ArchiveError). IsErr r) (drop 1 (take begun (a ∷ answers)))
      → ((image : ℕ → List ℕ) → Left image → Since old mid image)
      → AreTwo begun old.state (e ∷ events) (a ∷ answers) Left
  two_of begun old mid e a events answers Left sound told inside refused later each = record {
    one = old.state;
    two = inside.next;
    first = none_of begun old.state (e ∷ events) (a ∷ answers) refused;
    second = ⊎_elim
        (λ same. subst (IsBegun begun old.state (e ∷ events) (a ∷ answers)) (sym same)
        (none_of begun old.state (e ∷ events) (a ∷ answers) refused))
        (λ leads. first_of begun (g.honest old.disk) old.closed old.state mid.state inside.next e a events answers sound
        told leads later)
        inside.leads;
    either = λ image left. inside.either image (each image left);
  }

  -- no event is under way
  none_under_way : (begun : ℕ) (old late : Seen D) → late ≡ old → IsStanding g old
      → AreTwo begun old.state [] [] (Since old late)
  none_under_way begun old late same here = record {
    one = old.state;
    two = old.state;
    first = none_of begun old.state [] [] (no_answers begun);
    second = none_of begun old.state [] [] (no_answers begun);
    either = λ image left. inl (here.images image (subst (λ (s : Seen D). Since old s image) same left));
  }

  -- the event under way is the first one
  two_now : (old late : Seen D) (events : List Event) (answers : List (Result Answer ArchiveError))
      → IsRun g old (take 1 events) (take 1 answers) late → IsTrue (g.honest old.disk) → old.closed ≡ false
      → IsStanding g old → HasMade old.state
      → AreTwo 0 old.state (take 1 events) (take 1 answers) (Since old late)
  two_now old late [] [] run h still here has = none_under_way 0 old late run here
  two_now old late [] (b ∷ answers) run h still here has = absurd run
  two_now old late (e ∷ events) [] run h still here has = absurd run
  two_now old late (e ∷ events) (a ∷ answers) run h still here has =
      two_of 0 old run.0 e a [] [] (Since old late) (sound_here old here) run.1
      (in_event old run.0 e a run.2 h still here has) tt tt
      (λ image left. subst (λ (s : Seen D). Since old s image) run.3 left)

  module _ (some : (d : D) → IsTrue (g.honest d) → (image : ℕ → List ℕ) × g.left_since d (g.moment d) image)
      (earlier : (d : D) (t : ℕ) (image : ℕ → List ℕ) → IsTrue (g.honest d) → t ≤ g.moment d
      → g.left_since d (g.moment d) image → g.left_since d t image) where
    -- a fault of the device closed the archive under the first event
    two_at_fault : (n : ℕ) (old mid early late : Seen D) (e : Event) (events : List Event)
        (answers : List (Result Answer ArchiveError))
        → Answers (g.honest old.disk) old.closed old.state e (Err Fault) mid.state
        → IsStep {T = Answer} g old mid (Takes true old.state e) (Err Fault)
        → IsRun g mid (take n events) (take n answers) early
        → IsRun g early (take 1 (drop n events)) (take 1 (drop n answers)) late
        → IsTrue (g.honest old.disk) → old.closed ≡ false → IsStanding g old → HasMade old.state
        → AreTwo (suc n) old.state (e ∷ take (suc n) events) (Err Fault ∷ take (suc n) answers) (Since early late)
    two_at_fault n old mid early late e events answers told step before under h still here has =
        let closed = (step.fault refl).1 in
        let first : early ≡ mid = closed_run g mid (take n events) (take n answers) early before closed in
        let second : late ≡ early =
        closed_run g early (take 1 (drop n events)) (take 1 (drop n answers)) late under
        (ap (λ (s : Seen D). s.closed) first ∙ closed) in
        let refused = subst (λ (rs : List (Result Answer ArchiveError)).
        AllByRecursion (λ (r : Result Answer ArchiveError). IsErr r) rs)
        (sym (take_fewer n (suc n) answers (omega arith)))
        (all_refused (take n answers) (closed_answers g mid (take n events) (take n answers) early before closed)) in
        two_of (suc n) old mid e (Err Fault) (take (suc n) events) (take (suc n) answers) (Since early late)
        (sound_here old here) told (in_event old mid e (Err Fault) step h still here has) (refl, refused) refused
        (λ image left. earlier mid.disk (g.moment old.disk) image (subst IsTrue (sym step.honest_too) h)
        (step.any_moment h still).later
        (subst (λ (s : Seen D). Since s s image) first
        (subst (λ (s : Seen D). Since early s image) second left)))

    pub two_left : (n : ℕ) (old early late : Seen D) (events : List Event)
        (answers : List (Result Answer ArchiveError)) → IsRun g old (take n events) (take n answers) early
        → IsRun g early (take 1 (drop n events)) (take 1 (drop n answers)) late
        → IsTrue (g.honest old.disk) → old.closed ≡ false → IsStanding g old → HasMade old.state
        → AreTwo n old.state (take (suc n) events) (take (suc n) answers) (Since early late)
    two_left zero old early late events answers before under h still here has =
        subst (λ (s : Seen D). AreTwo 0 old.state (take 1 events) (take 1 answers) (Since s late)) (sym before)
        (two_now old late events answers
        (subst (λ (s : Seen D). IsRun g s (take 1 events) (take 1 answers) late) before under) h still here has)
    two_left (suc n) old early late [] [] before under h still here has =
        subst (λ (s : Seen D). AreTwo (suc n) old.state [] [] (Since s late)) (sym before)
        (none_under_way (suc n) old late (under ∙ before) here)
    two_left (suc n) old early late [] (b ∷ answers) before under h still here has = absurd before
    two_left (suc n) old early late (e ∷ events) [] before under h still here has = absurd before
    two_left (suc n) old early late (e ∷ events) (a ∷ answers) before under h still here has =
        let mid = before.0 in
        ⊎_elim
        (λ fault. subst (λ (r : Result Answer ArchiveError).
        Answers (g.honest old.disk) old.closed old.state e r mid.state
        → IsStep g old mid (Takes true old.state e) r
        → AreTwo (suc n) old.state (e ∷ take (suc n) events) (r ∷ take (suc n) answers) (Since early late)) (sym fault)
        (λ told step. two_at_fault n old mid early late e events answers told step before.3 under h still here has)
        before.1 before.2)
        (λ other. let goes = goes_on g old mid e a before.2 h still other in
        let h1 = subst IsTrue (sym before.2.honest_too) h in
        let sound = sound_here old here in
        let rest = two_left n mid early late events answers before.3 under h1 goes.0
        (record { images = before.2.stands h1 goes.0; some = some mid.disk h1 })
        (made_next (g.honest old.disk) old.closed old.state mid.state e a sound before.1 goes.1 other has) in
        let more = λ (after : State) (is : IsBegun n mid.state (take (suc n) events) (take (suc n) answers) after).
        more_of n (g.honest old.disk) old.closed old.state mid.state after e a (take (suc n) events)
        (take (suc n) answers) sound before.1 goes.1 other is in
        record {
          one = rest.one;
          two = rest.two;
          first = more rest.one rest.first;
          second = more rest.two rest.second;
          either = rest.either;
        })
        (fault_or a)
