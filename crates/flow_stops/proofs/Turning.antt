-- What one turn of rolling or merging makes of an archive, and what a stop leaves of it.
use Rattle.std.proofs.Common.{◌≡◌, ◌≢◌, inl, inr, ⊎_elim, ℕ, zero, suc, ◌≤◌, Bool, true, IsTrue, List, []}
use Rattle.std.proofs.Common.{◌∷◌, Option, Some, None, Result, Ok, Err, refl, sym, ◌∙◌, ap, subst}
use mathlib.Core.List.{append_cancel_left}
use Rattle.flow_disk.specs.declared.disk.Disk.{Ghosts}
use Rattle.flow_manifest.specs.declared.following.JobKind.{JobKind}
use Rattle.flow_manifest.specs.declared.following.JobKind.TheVariants.{Merge, Roll}
use Rattle.flow_measure.specs.History.{History}
use Rattle.flow_model.specs.Changes.{installed, merged, Change}
use Rattle.flow_model.specs.Shelf.{Rollup, Shelf}
use Rattle.flow_model.specs.Shelved.{shelf_of, HasHistory}
use Rattle.flow_model.specs.State.{Job, StagedFile, State}
use Rattle.flow_archive.specs.declared.event.Answer.{Answer}
use Rattle.flow_archive.specs.declared.event.Answer.TheVariants as told
use Rattle.flow_archive.specs.declared.event.Event.{Event}
use Rattle.flow_archive.specs.declared.event.Event.TheVariants.{Append, AppendBatch, Seal, RollBegin, MergeBegin}
use Rattle.flow_archive.specs.declared.event.Event.TheVariants.{RollStep, RollWrite, RollInstall, RollDrop, Retire}
use Rattle.flow_archive.specs.declared.refusal.ArchiveError.{ArchiveError}
use Rattle.flow_archive.specs.declared.refusal.ArchiveError.TheVariants as refusal
use Rattle.flow_archive.specs.declared.job.JobStatus.{JobStatus}
use Rattle.flow_archive.specs.Answers.{told_as, Answers, Takes}
use Rattle.flow_archive.specs.JobAnswers.{cut_moved, AnswersInstall, IsStagedIn}
use Rattle.flow_archive.specs.Marks.{made_change}
use Rattle.flow_archive.specs.Seen.{IsStep, Seen}
use Rattle.flow_archive.specs.UnderWay.{status_of}
use Rattle.flow_turns.specs.declared.turn.Turn.{Turn}
use Rattle.flow_turns.specs.Turns.{begun_or_removal, due, due_with, files_over, is_rolling, made_or_installed, step_by}
use Rattle.flow_turns.specs.Turns.{turn_done, turn_told}
use Rattle.flow_shared.specs.Calls.{IsTurnedBy}
use Rattle.flow_shared.specs.Meaning.{history_behind}
use Rattle.flow_shared.specs.Told.{after}
use Rattle.flow_shared.proofs.Turned.{err_kept}
use Rattle.flow_stops.specs.Stops.{IsInstallOf}
use Rattle.flow_stops.proofs.Making.{goes_nowhere, goes_same, same_made, Goes, IsHere, IsMade}
use Rattle.flow_stops.proofs.Stepped.{fault_made, goes_installed, install_change, install_of, made_rollup, ok_made}
use Rattle.flow_stops.proofs.Stepped.{same_install, sound_here}

-- ---- which events are due

made_rolls : (staged : Option ℕ) → is_rolling (made_or_installed staged) ≡ true
made_rolls None = refl
made_rolls (Some file) = refl

step_rolls : (left : ℕ) (staged : Option ℕ) → is_rolling (step_by left staged) ≡ true
step_rolls zero staged = made_rolls staged
step_rolls (suc left) staged = refl

abbrev pub IsRolling : Option Event → Type 0
IsRolling None = Unit {0}
IsRolling (Some event) = is_rolling event ≡ true

begun_rolls : (kind : JobKind) (count : ℕ) → IsRolling (begun_or_removal kind count)
begun_rolls Roll zero = refl
begun_rolls Merge zero = tt
begun_rolls Roll (suc n) = refl
begun_rolls Merge (suc n) = refl

due_with_rolls : (kind : JobKind) (count : ℕ) (job : Option JobStatus) → IsRolling (due_with kind count job)
due_with_rolls kind count (Some job) = step_rolls job.left job.staged
due_with_rolls kind count None = begun_rolls kind count

pub due_rolls : (kind : JobKind) (keep : ℕ) (s : State) → IsRolling (due kind keep s)
due_rolls kind keep s = due_with_rolls kind (files_over kind keep s) (status_of s.job)

-- ---- turns without a step

-- a refusal has none
pub err_steps : (event : Event) (e : ArchiveError) (steps : List Change)
    → IsTurnedBy (turn_told event (Err e)) steps → steps ≡ []
err_steps event (refusal.Message fault) steps is = is
err_steps event refusal.OutOfMemory steps is = is
err_steps event (refusal.Damaged file at) steps is = is
err_steps event refusal.NumbersSpent steps is = is
err_steps event refusal.NotEmpty steps is = is
err_steps event refusal.Fault steps is = is
err_steps event refusal.SourceFault steps is = is
err_steps event refusal.NoRoom steps is = is
err_steps event refusal.ManifestFull steps is = is
err_steps event refusal.NothingToSeal steps is = is
err_steps event refusal.RollBusy steps is = is
err_steps event refusal.NoRoll steps is = is
err_steps event refusal.RollCount steps is = is
err_steps event refusal.RollNotDone steps is = is
err_steps event refusal.Pinned steps is = is
err_steps event refusal.NothingToRetire steps is = is
err_steps event refusal.Closed steps is = is

number_told : {Y : Type 0} (f : Y → Answer) (event : Event) (number : Result Y ArchiveError)
    (answer : Result Answer ArchiveError) (steps : List Change) → answer ≡ told_as f number
    → ((y : Y) → IsTurnedBy (Ok (turn_done event (f y))) steps → steps ≡ [])
    → IsTurnedBy (turn_told event answer) steps → steps ≡ []
number_told {Y} f event (Ok y) answer steps is quiet turned =
    quiet y (subst (λ (a : Result Answer ArchiveError). IsTurnedBy (turn_told event a) steps) is turned)
number_told {Y} f event (Err e) answer steps is quiet turned =
    err_steps event e steps
    (subst (λ (a : Result Answer ArchiveError). IsTurnedBy (turn_told event a) steps) is turned)

-- an install aside, no event of rolling has one
abbrev IsQuiet : Event → Type 0
IsQuiet event = (is_rolling event ≡ true) × (event ≢ RollInstall)

quiet_steps : (honest closed : Bool) (s next : State) (event : Event) (answer : Result Answer ArchiveError)
    (steps : List Change) → IsQuiet event → Answers honest closed s event answer next
    → IsTurnedBy (turn_told event answer) steps → steps ≡ []
quiet_steps honest closed s next (Append message) answer steps quiet answers turned =
    let no = quiet.0 in absurd (cc)
quiet_steps honest closed s next (AppendBatch messages) answer steps quiet answers turned =
    let no = quiet.0 in absurd (cc)
quiet_steps honest closed s next Seal answer steps quiet answers turned = let no = quiet.0 in absurd (cc)
quiet_steps honest closed s next (RollBegin count) answer steps quiet (done, is, more) turned =
    number_told (λ (x : Unit {0}). told.Began) (RollBegin count) done answer steps is (λ y none. none) turned
quiet_steps honest closed s next (MergeBegin count) answer steps quiet (done, is, more) turned =
    number_told (λ (x : Unit {0}). told.Began) (MergeBegin count) done answer steps is (λ y none. none) turned
quiet_steps honest closed s next RollStep answer steps quiet (left, is, more) turned =
    number_told told.Left RollStep left answer steps is (λ y none. none) turned
quiet_steps honest closed s next RollWrite answer steps quiet (done, is, more) turned =
    number_told (λ (x : Unit {0}). told.Written) RollWrite done answer steps is (λ y none. none) turned
quiet_steps honest closed s next RollInstall answer steps quiet answers turned = absurd (quiet.1 refl)
quiet_steps honest closed s next RollDrop answer steps quiet (done, is, more) turned =
    number_told (λ (x : Unit {0}). told.Dropped) RollDrop done answer steps is (λ y none. none) turned
quiet_steps honest closed s next Retire answer steps quiet (file, is, more) turned =
    number_told told.Retired Retire file answer steps is (λ y none. none) turned

staged_files : (s next : State) (job : Job) (o : Option StagedFile) → IsStagedIn true s job o next
    → shelf_of next ≡ shelf_of s
staged_files s next job (Some file) is = ap shelf_of is
staged_files s next job None (numbers, (octets, made, is)) = ap shelf_of is

quiet_files : (s next : State) (event : Event) → IsQuiet event → Takes true s event next → shelf_of next ≡ shelf_of s
quiet_files s next (Append message) quiet takes = let no = quiet.0 in absurd (cc)
quiet_files s next (AppendBatch messages) quiet takes = let no = quiet.0 in absurd (cc)
quiet_files s next Seal quiet takes = let no = quiet.0 in absurd (cc)
quiet_files s next (RollBegin count) quiet is = ap shelf_of is
quiet_files s next (MergeBegin count) quiet is = ap shelf_of is
quiet_files s next RollStep quiet (job, there, is) = ap shelf_of is
quiet_files s next RollWrite quiet (job, there, (none, is)) = staged_files s next job job.staged is
quiet_files s next RollInstall quiet takes = absurd (quiet.1 refl)
quiet_files s next RollDrop quiet is = ap shelf_of is
quiet_files s next Retire quiet (file, (others, there, is)) = ap shelf_of is

-- ---- the step of an install

-- It is the one that the job makes, but for a count of sources that gives the same files.
install_history : (next : State) (s : Shelf) (kind : JobKind) (r : Rollup) (count : ℕ) (steps : List Change)
    → IsTurnedBy (Ok (turn_done RollInstall (cut_moved kind next))) steps
    → after s (made_change kind r count ∷ []) ≡ after s steps → (h : History)
    → history_behind h (made_change kind r count ∷ []) ≡ history_behind h steps
install_history next s Roll r count steps (file, k, is) same h =
    let files : after s (installed r count ∷ []) ≡ after s (installed file k ∷ []) = same ∙ ap (after s) is in
    let tails : r ∷ [] ≡ file ∷ [] =
    append_cancel_left s.rolled (r ∷ []) (file ∷ []) (ap (λ (x : Shelf). x.rolled) files) in
    let one : r ≡ file = cc in
    ap (λ (x : Rollup). history_behind h (installed x k ∷ [])) one ∙ ap (history_behind h) (sym is)
install_history next s Merge r count steps (file, k, is) same h =
    let files : after s (merged r count ∷ []) ≡ after s (merged file k ∷ []) = same ∙ ap (after s) is in
    let tails : r ∷ [] ≡ file ∷ [] =
    append_cancel_left s.merged (r ∷ []) (file ∷ []) (ap (λ (x : Shelf). x.merged) files) in
    let one : r ≡ file = cc in
    ap (λ (x : Rollup). history_behind h (merged x k ∷ [])) one ∙ ap (history_behind h) (sym is)

goes_as : (s next : State) (xs ys : List Change) → after (shelf_of s) xs ≡ after (shelf_of s) ys
    → ((h : History) → history_behind h xs ≡ history_behind h ys) → Goes s next xs → Goes s next ys
goes_as s next xs ys files history goes = record {
  files = goes.files ∙ files;
  history = λ h has. subst (HasHistory next) (history h) (goes.history h has);
}

-- what may be there after a fault
abbrev pub FailedInstall : State → State → Result Turn ArchiveError → Event → Change → Type 0
FailedInstall s after result event step =
    (result ≡ Err refusal.Fault) × (after ≡ s) × (event ≡ RollInstall) × IsInstallOf after step

module _ {D S X : Type 0} (g : Ghosts D S X)
    (some : (d : D) → IsTrue (g.honest d) → (image : ℕ → List ℕ) × g.left_since d (g.moment d) image)
    (earlier : (d : D) (t : ℕ) (image : ℕ → List ℕ) → IsTrue (g.honest d) → t ≤ g.moment d
    → g.left_since d (g.moment d) image → g.left_since d t image) where
  abbrev Here : Seen D → Type 0
  Here now = IsHere g now

  abbrev Made : Seen D → Seen D → List Change → (Change → Type 0) → Type 0
  Made old new steps M = IsMade g old new steps M

  -- ---- events without a step

  quiet_made : (old new : Seen D) (event : Event) (answer : Result Answer ArchiveError) (M : Change → Type 0)
      → Here old → IsQuiet event → IsStep g old new (Takes true old.state event) answer → Made old new [] M
  quiet_made old new event (Ok answer) M here quiet step =
      ok_made g some earlier Answer old new (Takes true old.state event) (Ok answer) [] M here step step.done.1
      (goes_same old.state new.state (quiet_files old.state new.state event quiet (step.done.0 here.honest)))
      (λ next takes. goes_same old.state next (quiet_files old.state next event quiet takes))
  quiet_made old new event (Err e) M here quiet step = err_kept e
      (λ other. same_made g old new [] M (step.refused other) refl here)
      (λ fault. let closed = step.fault (ap (λ (x : ArchiveError). Err x) fault) in
      fault_made g some earlier Answer old new (Takes true old.state event) (Err e) M here step closed.1
      (goes_same old.state new.state (⊎_elim (λ same. ap shelf_of same)
      (λ takes. quiet_files old.state new.state event quiet takes) closed.0))
      (λ next takes. inl (goes_same old.state next (quiet_files old.state next event quiet takes))))

  -- ---- an install

  install_ok : (old new : Seen D) (answer : Answer) (steps : List Change) (M : Change → Type 0) → Here old
      → AnswersInstall (g.honest old.disk) old.closed old.state (Ok answer) new.state
      → IsStep {T = Answer} g old new (Takes true old.state RollInstall) (Ok answer)
      → IsTurnedBy (turn_told RollInstall (Ok answer)) steps
      → shelf_of new.state ≡ after (shelf_of old.state) steps → Made old new steps M
  install_ok old new answer steps M here (still, made, (other, there, is)) step turned files =
      let s = old.state in
      let sound = sound_here g some earlier old here in
      let by = goes_installed s new.state sound (step.done.0 here.honest) in
      let jobs : Some other ≡ Some by.job = sym there ∙ by.there in
      let job : other ≡ by.job = cc in
      let answer_is : answer ≡ cut_moved by.job.kind new.state =
      is ∙ ap (λ (j : Job). cut_moved j.kind new.state) job in
      let turned_by : IsTurnedBy (Ok (turn_done RollInstall (cut_moved by.job.kind new.state))) steps =
      subst (λ (a : Answer). IsTurnedBy (Ok (turn_done RollInstall a)) steps) answer_is turned in
      let change = install_change s by.job by.staged in
      let same : after (shelf_of s) (change ∷ []) ≡ after (shelf_of s) steps = sym by.goes.files ∙ files in
      let history = install_history new.state (shelf_of s) by.job.kind (made_rollup s by.job by.staged)
      by.job.sources steps turned_by same in
      ok_made g some earlier Answer old new (Takes true s RollInstall) (Ok answer) steps M here step step.done.1
      (goes_as s new.state (change ∷ []) steps same history by.goes)
      (λ next takes. goes_as s next (change ∷ []) steps same history
      (same_install s new.state next by (goes_installed s next sound takes)))

  install_failed : (old new : Seen D) (e : ArchiveError) (result : Result Turn ArchiveError) → Here old
      → AnswersInstall (g.honest old.disk) old.closed old.state (Err e) new.state
      → IsStep {T = Answer} g old new (Takes true old.state RollInstall) (Err e)
      → result ≡ turn_told RollInstall (Err e) → e ≡ refusal.Fault
      → Made old new [] (FailedInstall old.state new.state result RollInstall)
  install_failed old new e result here answers step is fault =
      let told_is = subst (λ (x : ArchiveError). AnswersInstall (g.honest old.disk) old.closed old.state (Err x)
      new.state) fault answers in
      let same : new.state ≡ old.state = told_is.2 in
      let result_is : result ≡ Err refusal.Fault =
      is ∙ ap (λ (x : ArchiveError). turn_told RollInstall (Err x)) fault in
      let sound = sound_here g some earlier old here in
      fault_made g some earlier Answer old new (Takes true old.state RollInstall) (Err e)
      (FailedInstall old.state new.state result RollInstall) here step
      (step.fault (ap (λ (x : ArchiveError). Err x) fault)).1
      (goes_nowhere old.state new.state same)
      (λ next takes. let by = goes_installed old.state next sound takes in
      inr (
        install_change old.state by.job by.staged,
        (
          result_is,
          same,
          refl,
          subst (λ (s : State). IsInstallOf s (install_change old.state by.job by.staged)) (sym same)
              (install_of old.state next by),
        ),
        by.goes,
      ))

  install_made : (old new : Seen D) (answer : Result Answer ArchiveError) (result : Result Turn ArchiveError)
      (steps : List Change) → Here old
      → AnswersInstall (g.honest old.disk) old.closed old.state answer new.state
      → IsStep {T = Answer} g old new (Takes true old.state RollInstall) answer → result ≡ turn_told RollInstall answer
      → IsTurnedBy (turn_told RollInstall answer) steps → shelf_of new.state ≡ after (shelf_of old.state) steps
      → Made old new steps (FailedInstall old.state new.state result RollInstall)
  install_made old new (Ok answer) result steps here answers step is turned files =
      install_ok old new answer steps (FailedInstall old.state new.state result RollInstall) here answers step turned
      files
  install_made old new (Err e) result steps here answers step is turned files =
      let none = err_steps RollInstall e steps turned in
      err_kept e
      (λ other. same_made g old new steps (FailedInstall old.state new.state result RollInstall)
      (step.refused other) none here)
      (λ fault. subst (λ (xs : List Change). Made old new xs
      (FailedInstall old.state new.state result RollInstall)) (sym none)
      (install_failed old new e result here answers step is fault))

  -- ---- any event that is due

  quiet : (old new : Seen D) (event : Event) (answer : Result Answer ArchiveError) (result : Result Turn ArchiveError)
      (steps : List Change) → Here old → IsQuiet event
      → Answers (g.honest old.disk) old.closed old.state event answer new.state
      → IsStep g old new (Takes true old.state event) answer → IsTurnedBy (turn_told event answer) steps
      → Made old new steps (FailedInstall old.state new.state result event)
  quiet old new event answer result steps here is answers step turned =
      let none = quiet_steps (g.honest old.disk) old.closed old.state new.state event answer steps is answers turned in
      subst (λ (xs : List Change). Made old new xs (FailedInstall old.state new.state result event)) (sym none)
      (quiet_made old new event answer (FailedInstall old.state new.state result event) here is step)

  pub event_made : (old new : Seen D) (event : Event) (answer : Result Answer ArchiveError)
      (result : Result Turn ArchiveError) (steps : List Change) → Here old → is_rolling event ≡ true
      → Answers (g.honest old.disk) old.closed old.state event answer new.state
      → IsStep g old new (Takes true old.state event) answer → result ≡ turn_told event answer
      → IsTurnedBy (turn_told event answer) steps → shelf_of new.state ≡ after (shelf_of old.state) steps
      → Made old new steps (FailedInstall old.state new.state result event)
  event_made old new RollInstall answer result steps here rolls answers step is turned files =
      install_made old new answer result steps here answers step is turned files
  event_made old new (Append message) answer result steps here rolls answers step is turned files = absurd (cc)
  event_made old new (AppendBatch messages) answer result steps here rolls answers step is turned files = absurd (cc)
  event_made old new Seal answer result steps here rolls answers step is turned files = absurd (cc)
  event_made old new (RollBegin count) answer result steps here rolls answers step is turned files =
      quiet old new (RollBegin count) answer result steps here (rolls, λ no. cc) answers step turned
  event_made old new (MergeBegin count) answer result steps here rolls answers step is turned files =
      quiet old new (MergeBegin count) answer result steps here (rolls, λ no. cc) answers step turned
  event_made old new RollStep answer result steps here rolls answers step is turned files =
      quiet old new RollStep answer result steps here (rolls, λ no. cc) answers step turned
  event_made old new RollWrite answer result steps here rolls answers step is turned files =
      quiet old new RollWrite answer result steps here (rolls, λ no. cc) answers step turned
  event_made old new RollDrop answer result steps here rolls answers step is turned files =
      quiet old new RollDrop answer result steps here (rolls, λ no. cc) answers step turned
  event_made old new Retire answer result steps here rolls answers step is turned files =
      quiet old new Retire answer result steps here (rolls, λ no. cc) answers step turned
