-- What one event makes of an archive, and what a stop leaves of it.
use Rattle.std.proofs.Common.{◌≡◌, ◌⊎◌, inl, inr, ⊎_elim, ℕ, ◌≤◌, true, false, IsTrue, List, [], ◌∷◌}
use Rattle.std.proofs.Common.{length, Some, Result, Ok, Err, refl, sym, ◌∙◌, ap, subst, append-nil, arith}
use Rattle.flow_disk.specs.declared.disk.Disk.{Ghosts}
use Rattle.flow_disk.proofs.Moments.{by}
use Rattle.flow_manifest.specs.declared.following.JobKind.{JobKind}
use Rattle.flow_manifest.specs.declared.following.JobKind.TheVariants.{Merge, Roll}
use Rattle.flow_manifest.specs.declared.manifest.Entry.{Entry}
use Rattle.flow_manifest.specs.Following.{active_of, front_of, messages_of, sources_of}
use Rattle.flow_measure.specs.History.{History}
use Rattle.flow_segment.specs.Carry.{prefix_of, Carry}
use Rattle.flow_model.specs.Changes.{applied, Change}
use Rattle.flow_model.specs.Changes.Change.{added, sealed}
use Rattle.flow_model.specs.Jobs.{history_made}
use Rattle.flow_model.specs.Shelf.{Rollup, Segment}
use Rattle.flow_model.specs.Shelved.{shelf_of, HasHistory}
use Rattle.flow_model.specs.State.{appended, reopened, Job, Part, StagedFile, State}
use Rattle.flow_model.specs.Standing.{PartsStand, StandsFor}
use Rattle.flow_model.proofs.History.{appended_shelf}
use Rattle.flow_recover.proofs.Behind.{one_carry}
use Rattle.flow_archive.specs.declared.refusal.ArchiveError.{ArchiveError}
use Rattle.flow_archive.specs.declared.refusal.ArchiveError.TheVariants.{Fault}
use Rattle.flow_archive.specs.Answers.{AnswersAppend, AnswersSeal, IsSealed, MayAppend, MaySeal}
use Rattle.flow_archive.specs.JobAnswers.{cut_moved, IsInstalled}
use Rattle.flow_archive.specs.Marks.{made_change}
use Rattle.flow_archive.specs.Seen.{IsStep, Seen, StandsBeforeOrAfter}
use Rattle.flow_archive.proofs.Shelves.{installed_law, moved_shelf, sealed_segment}
use Rattle.flow_shared.specs.Calls.{added_by, IsAppend, IsClosedBy, IsSeal}
use Rattle.flow_shared.specs.Meaning.{history_behind}
use Rattle.flow_shared.proofs.Meaning.{append_means, install_means, seal_means, sound_of, IsSound}
use Rattle.flow_shared.proofs.Turned.{err_kept}
use Rattle.flow_stops.specs.Stops.{IsInstallOf, IsSealOf}
use Rattle.flow_stops.proofs.Making.{goes_nowhere, never, prefix_none, same_made, Goes, IsHere, IsMade, IsOne}
use Rattle.flow_stops.proofs.Making.{MayBeClosed}

-- ---- a state that an image represents

parts_long : (image : ℕ → List ℕ) (entries : List Entry) (parts : List Part) → PartsStand image entries parts
    → length parts ≡ length entries
parts_long image [] [] stand = refl
parts_long image [] (p ∷ parts) stand = absurd stand
parts_long image (e ∷ entries) [] stand = absurd stand
parts_long image (e ∷ entries) (p ∷ parts) stand = omega (arith, parts_long image entries parts stand.1)

long_of : (s : State) → IsSound s → length s.parts ≡ length (front_of s.manifest)
long_of s sound = parts_long sound.image (front_of s.manifest) s.parts sound.stand

-- ---- what events make of its files and histories

goes_added : (s next : State) (messages : List (List ℕ)) → IsSound s → MayAppend s messages
    → next ≡ appended s messages → Goes s next (added messages ∷ [])
goes_added s next messages sound may is = record {
  files = ap shelf_of is ∙ appended_shelf s messages;
  history = λ h has. append_means s next messages h sound may.accepted is has;
}

abbrev pub seal_change : State → Carry → Change
seal_change s carry = sealed (sealed_segment s s.active) (prefix_of carry)

goes_sealed : (s next : State) (carry : Carry) → IsSound s → MaySeal s → (is : IsSealed true s next) → carry ≡ is.0
    → Goes s next (seal_change s carry ∷ [])
goes_sealed s next carry sound may is same = record {
  files = ap shelf_of is.4 ∙ moved_shelf s (prefix_of is.0) is.1 sound.valid (long_of s sound)
      ∙ ap (λ (p : Part). applied (shelf_of s) (sealed (sealed_segment s p) (prefix_of is.0))) (is.3 refl)
      ∙ ap (λ (c : Carry). applied (shelf_of s) (seal_change s c)) (sym same);
  history = λ h has. seal_means s next h sound may is has;
}

abbrev pub made_rollup : State → Job → StagedFile → Rollup
made_rollup s job staged = record {
  file = staged.file;
  messages = messages_of (sources_of job.kind job.sources s.manifest.entries);
  octets = staged.octets;
}

made_history : (kind : JobKind) (r : Rollup) (count : ℕ) (h : History)
    → history_made kind r.messages h ≡ history_behind h (made_change kind r count ∷ [])
made_history Roll r count h = refl
made_history Merge r count h = refl

abbrev pub install_change : State → Job → StagedFile → Change
install_change s job staged = made_change job.kind (made_rollup s job staged) job.sources

-- of an install: the job, the file, and the step
pub record IsInstallBy (s next : State) : Type 0 where
  pub job : Job
  pub there : s.job ≡ Some job
  pub staged : StagedFile
  pub made : job.staged ≡ Some staged
  pub goes : Goes s next (install_change s job staged ∷ [])

pub goes_installed : (s next : State) → IsSound s → IsInstalled true s next → IsInstallBy s next
goes_installed s next sound (job, there, (staged, octets, made, sources, honest, is)) =
    let law = installed_law true false s next job staged (cut_moved job.kind next) sound.valid (long_of s sound)
    there made (refl, (job, there, (staged, octets, made, sources, honest, is)), (job, there, refl)) in
    let r : Rollup = law.0 in
    let file = law.1 in
    let own = law.2 refl in
    let many = law.3 in
    let rollup : r ≡ made_rollup s job staged =
    λ i. record { file = file i; messages = many i; octets = own i } in
    record {
      job = job;
      there = there;
      staged = staged;
      made = made;
      goes = record {
        files = law.4 ∙ ap (λ (x : Rollup). applied (shelf_of s) (made_change job.kind x job.sources)) rollup;
        history = λ h has. subst (HasHistory next) (made_history job.kind (made_rollup s job staged) job.sources h)
            (install_means s next job staged octets h sound sources.1 (honest refl).0 (honest refl).1 is has);
      };
    }

pub install_of : (s next : State) (is : IsInstallBy s next) → IsInstallOf s (install_change s is.job is.staged)
install_of s next is = (is.job, is.there, (is.staged, is.made, refl))

-- two of them are of the same job and file
pub same_install : (s one two : State) (a : IsInstallBy s one) → IsInstallBy s two
    → Goes s two (install_change s a.job a.staged ∷ [])
same_install s one two a b =
    let jobs : Some b.job ≡ Some a.job = sym b.there ∙ a.there in
    let job : b.job ≡ a.job = cc in
    let files : Some b.staged ≡ Some a.staged = sym b.made ∙ ap (λ (j : Job). j.staged) job ∙ a.made in
    let staged : b.staged ≡ a.staged = cc in
    subst (λ (j : Job). Goes s two (install_change s j a.staged ∷ [])) job
    (subst (λ (f : StagedFile). Goes s two (install_change s b.job f ∷ [])) staged b.goes)

-- ---- what may be there after a fault

abbrev pub FailedAppend : State → List (List ℕ) → Result ℕ ArchiveError → Change → Type 0
FailedAppend s messages result step = (result ≡ Err Fault) × MayAppend s messages × (step ≡ added messages)

abbrev pub FailedSeal : State → State → Result ℕ ArchiveError → Change → Type 0
FailedSeal s after result step = (result ≡ Err Fault) × (after ≡ s) × IsSealOf after step

module _ {D S X : Type 0} (g : Ghosts D S X)
    (some : (d : D) → IsTrue (g.honest d) → (image : ℕ → List ℕ) × g.left_since d (g.moment d) image)
    (earlier : (d : D) (t : ℕ) (image : ℕ → List ℕ) → IsTrue (g.honest d) → t ≤ g.moment d
    → g.left_since d (g.moment d) image → g.left_since d t image) where
  abbrev Here : Seen D → Type 0
  Here now = IsHere g now

  abbrev Made : Seen D → Seen D → List Change → (Change → Type 0) → Type 0
  Made old new steps M = IsMade g old new steps M

  pub sound_here : (now : Seen D) → Here now → IsSound now.state
  sound_here now here = let image = some now.disk here.honest in
      sound_of image.0 now.state (here.images image.0 image.1)

  before_it : (old : Seen D) (steps : List Change) (M : Change → Type 0) (image : ℕ → List ℕ)
      → StandsFor image (reopened old.state) → IsOne old.state [] steps M image
  before_it old steps M image represents = record {
    next = old.state;
    represents = represents;
    xs = [];
    goes = goes_nowhere old.state old.state refl;
    begins = prefix_none [];
    ends = inl (prefix_none steps);
  }

  by_steps : (s next : State) (steps : List Change) (M : Change → Type 0) (image : ℕ → List ℕ)
      → StandsFor image (reopened next) → Goes s next steps → IsOne s [] steps M image
  by_steps s next steps M image represents goes = record {
    next = next;
    represents = represents;
    xs = steps;
    goes = goes;
    begins = prefix_none steps;
    ends = inl ([], append-nil steps);
  }

  by_one_more : (s next : State) (step : Change) (M : Change → Type 0) (image : ℕ → List ℕ)
      → StandsFor image (reopened next) → M step → Goes s next (step ∷ []) → IsOne s [] [] M image
  by_one_more s next step M image represents may goes = record {
    next = next;
    represents = represents;
    xs = step ∷ [];
    goes = goes;
    begins = prefix_none (step ∷ []);
    ends = inr (step, may, refl);
  }

  -- a call that is Ok
  pub ok_made : (T : Type 0) (old new : Seen D) (After : State → Type 0) (result : Result T ArchiveError)
      (steps : List Change) (M : Change → Type 0) → Here old → IsStep g old new After result → new.closed ≡ false
      → Goes old.state new.state steps
      → ((next : State) → After next → Goes old.state next steps) → Made old new steps M
  ok_made T old new After result steps M here step still goes each = record {
    goes = goes;
    honest_too = step.honest_too;
    leaves = by g old.disk new.disk (StandsBeforeOrAfter old.state After)
        (IsOne old.state [] steps (MayBeClosed g new M)) (step.any_moment here.honest here.still_open)
        (λ image either. ⊎_elim (λ before. before_it old steps (MayBeClosed g new M) image before)
        (λ one. by_steps old.state one.0 steps (MayBeClosed g new M) image one.2 (each one.0 one.1)) either);
    here = λ still. step.stands (subst IsTrue (sym step.honest_too) here.honest) still;
    gone = λ closed. never new.closed closed still;
  }

  -- an event under which the device failed
  abbrev Failed : Seen D → (State → Type 0) → (Change → Type 0) → Type 0
  Failed old After M = (next : State) → After next → Goes old.state next []
      ⊎ ((change : Change) × M change × Goes old.state next (change ∷ []))

  fault_one : (old : Seen D) (After : State → Type 0) (M N : Change → Type 0) (image : ℕ → List ℕ)
      → Failed old After M → ((change : Change) → M change → N change) → StandsBeforeOrAfter old.state After image
      → IsOne old.state [] [] N image
  fault_one old After M N image each weaker (inl before) = before_it old [] N image before
  fault_one old After M N image each weaker (inr (next, after, represents)) =
      ⊎_elim (λ same. by_steps old.state next [] N image represents same)
      (λ more. by_one_more old.state next more.0 N image represents (weaker more.0 more.1) more.2) (each next after)

  pub fault_made : (T : Type 0) (old new : Seen D) (After : State → Type 0) (result : Result T ArchiveError)
      (M : Change → Type 0) → Here old → IsStep g old new After result → new.closed ≡ true
      → Goes old.state new.state [] → Failed old After M → Made old new [] M
  fault_made T old new After result M here step closed goes each =
      let run = step.any_moment here.honest here.still_open in
      record {
        goes = goes;
        honest_too = step.honest_too;
        leaves = by g old.disk new.disk (StandsBeforeOrAfter old.state After)
            (IsOne old.state [] [] (MayBeClosed g new M)) run
            (λ image either. fault_one old After M (MayBeClosed g new M) image each
            (λ change may. (closed, may)) either);
        here = λ still. never new.closed closed still;
        gone = λ is image left. fault_one old After M M image each (λ change may. may)
            (run.each image (earlier new.disk (g.moment old.disk) image
            (subst IsTrue (sym step.honest_too) here.honest) run.later left));
      }

  -- ---- an append

  append_failed : (old new : Seen D) (messages : List (List ℕ)) (e : ArchiveError) → Here old
      → IsAppend g old new messages (Err e) → e ≡ Fault
      → Made old new [] (FailedAppend new.state messages (Err e))
  append_failed old new messages e here is fault =
      let told : AnswersAppend old.closed old.state messages (Err Fault) new.state =
      subst (λ (x : ArchiveError). AnswersAppend old.closed old.state messages (Err x) new.state) fault is.answers in
      let same : new.state ≡ old.state = told.2 in
      let may : MayAppend new.state messages = subst (λ (s : State). MayAppend s messages) (sym same) told.1 in
      fault_made ℕ old new (λ next. next ≡ appended old.state messages) (Err e)
      (FailedAppend new.state messages (Err e)) here is.step (is.step.fault (ap (λ (x : ArchiveError). Err x) fault)).1
      (goes_nowhere old.state new.state same)
      (λ next made. inr (
        added messages,
        (ap (λ (x : ArchiveError). Err x) fault, may, refl),
        goes_added old.state next messages (sound_here old here) told.1 made,
      ))

  pub append_made : (old new : Seen D) (messages : List (List ℕ)) (result : Result ℕ ArchiveError) → Here old
      → IsAppend g old new messages result
      → Made old new (added_by messages result) (FailedAppend new.state messages result)
  append_made old new messages (Ok position) here is =
      let sound = sound_here old here in
      ok_made ℕ old new (λ next. next ≡ appended old.state messages) (Ok position) (added messages ∷ [])
      (FailedAppend new.state messages (Ok position)) here is.step is.step.done.1
      (goes_added old.state new.state messages sound is.answers.1 is.answers.2)
      (λ next made. goes_added old.state next messages sound is.answers.1 made)
  append_made old new messages (Err e) here is = err_kept e
      (λ other. same_made g old new [] (FailedAppend new.state messages (Err e)) (is.step.refused other) refl here)
      (λ fault. append_failed old new messages e here is fault)

  -- ---- a seal

  seal_failed : (old new : Seen D) (e : ArchiveError) → Here old → IsSeal g old new (Err e) → e ≡ Fault
      → Made old new [] (FailedSeal old.state new.state (Err e))
  seal_failed old new e here is fault =
      let told : AnswersSeal (g.honest old.disk) old.closed old.state (Err Fault) new.state =
      subst (λ (x : ArchiveError). AnswersSeal (g.honest old.disk) old.closed old.state (Err x) new.state) fault
      is.answers in
      let same : new.state ≡ old.state = told.2 in
      fault_made ℕ old new (λ next. IsSealed true old.state next) (Err e)
      (FailedSeal old.state new.state (Err e)) here is.step (is.step.fault (ap (λ (x : ArchiveError). Err x) fault)).1
      (goes_nowhere old.state new.state same)
      (λ next made. inr (
        seal_change old.state made.0,
        (
          ap (λ (x : ArchiveError). Err x) fault,
          same,
          subst (λ (s : State). IsSealOf s (seal_change old.state made.0)) (sym same) (made.0, made.2, refl),
        ),
        goes_sealed old.state next made.0 (sound_here old here) told.1 made refl,
      ))

  seal_ok : (old new : Seen D) (file : ℕ) (steps : List Change) → Here old → IsSeal g old new (Ok file)
      → IsClosedBy (g.honest old.disk) old.state new.state (Ok file) steps
      → Made old new steps (FailedSeal old.state new.state (Ok file))
  seal_ok old new file steps here is (change, closing, steps_are) =
      let s = old.state in
      let sound = sound_here old here in
      let may : MaySeal s = is.answers.1 in
      let made : IsSealed true s new.state = is.step.done.0 here.honest in
      let front : new.state.active.front ≡ prefix_of made.0 = ap (λ (x : State). x.active.front) made.4 in
      let own = closing.own here.honest in
      let named : closing.segment.file ≡ (active_of s.manifest).file = closing.file_is ∙ is.answers.3 in
      let first = own.0 in
      let messages = own.1 in
      let segment : closing.segment ≡ sealed_segment s s.active =
      λ i. record { file = named i; prefix = first i; messages = messages i } in
      let step : change ≡ seal_change s made.0 = closing.is
      ∙ ap (λ (x : Segment). sealed x new.state.active.front) segment
      ∙ ap (λ (x : List ℕ). sealed (sealed_segment s s.active) x) front in
      let all : steps ≡ seal_change s made.0 ∷ [] = steps_are ∙ ap (λ (c : Change). c ∷ []) step in
      subst (λ (xs : List Change). Made old new xs (FailedSeal s new.state (Ok file))) (sym all)
      (ok_made ℕ old new (λ next. IsSealed true s next) (Ok file) (seal_change s made.0 ∷ [])
      (FailedSeal s new.state (Ok file)) here is.step is.step.done.1
      (goes_sealed s new.state made.0 sound may made refl)
      (λ next other. subst (λ (x : List ℕ). Goes s next (sealed (sealed_segment s s.active) x ∷ []))
      (one_carry s.active other.0 made.0 other.2 made.2)
      (goes_sealed s next other.0 sound may other refl)))

  pub seal_made : (old new : Seen D) (result : Result ℕ ArchiveError) (steps : List Change) → Here old
      → IsSeal g old new result → IsClosedBy (g.honest old.disk) old.state new.state result steps
      → Made old new steps (FailedSeal old.state new.state result)
  seal_made old new (Ok file) steps here is closed = seal_ok old new file steps here is closed
  seal_made old new (Err e) steps here is none = err_kept e
      (λ other. same_made g old new steps (FailedSeal old.state new.state (Err e)) (is.step.refused other) none here)
      (λ fault. subst (λ (xs : List Change). Made old new xs (FailedSeal old.state new.state (Err e))) (sym none)
      (seal_failed old new e here is fault))
