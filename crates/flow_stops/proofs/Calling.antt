-- What each call under the lock makes of the archive, and what a stop leaves of it.
use Rattle.std.proofs.Common.{◌≡◌, ◌⊎◌, inl, inr, ℕ, ◌≤◌, Bool, true, false, IsTrue, List, [], ◌++◌}
use Rattle.std.proofs.Common.{Option, Some, None, Result, Ok, Err, refl, sym, ◌∙◌, ap, subst}
use Rattle.flow_disk.specs.declared.disk.Disk.{Ghosts}
use Rattle.flow_gate.specs.Gate.{octet_sum}
use Rattle.flow_manifest.specs.declared.following.JobKind.{JobKind}
use Rattle.flow_model.specs.Changes.{Change}
use Rattle.flow_model.specs.Shelf.{Shelf}
use Rattle.flow_model.specs.Shelved.{shelf_of}
use Rattle.flow_model.specs.State.{appended, State}
use Rattle.flow_archive.specs.declared.event.Answer.{Answer}
use Rattle.flow_archive.specs.declared.event.Event.{Event}
use Rattle.flow_archive.specs.declared.refusal.ArchiveError.{ArchiveError}
use Rattle.flow_archive.specs.declared.refusal.ArchiveError.TheVariants.{Closed, OutOfMemory}
use Rattle.flow_archive.specs.Answers.{HasRoom, IsSealed, Takes}
use Rattle.flow_archive.specs.Seen.{IsStep, Seen}
use Rattle.flow_turns.specs.declared.turn.Turn.{Turn}
use Rattle.flow_turns.specs.Turns.{due, idle_told, turn_told, IsTurn}
use Rattle.flow_shared.specs.Calls.{added_by, Appends, AppendsOnce, AppendsThen, IsClosedBy}
use Rattle.flow_shared.specs.Calls.{IsRefusedBefore, IsTurnedBy, SealsOnce, TurnsOnce}
use Rattle.flow_shared.specs.Known.{GoesOn}
use Rattle.flow_shared.specs.Told.{after}
use Rattle.flow_shared.specs.UnderLock.{all_of, LockState}
use Rattle.flow_shared.proofs.Stepping.{after_more}
use Rattle.flow_shared.proofs.Turned.{err_kept}
use Rattle.flow_stops.specs.Stops.{append, refresh, seal, turn, Call, FailedAt, Makes}
use Rattle.flow_stops.proofs.Making.{here_then, made_then, made_weaker, never, same_made, IsHere, IsMade}
use Rattle.flow_stops.proofs.Stepped.{append_made, seal_made, FailedAppend, FailedSeal}
use Rattle.flow_stops.proofs.Turning.{due_rolls, err_steps, event_made, FailedInstall, IsRolling}

-- ---- an archive that wasn't called

why : {Y : Type 0} (closed : Bool) (result : Result Y ArchiveError)
    → ((closed ≡ true) × (result ≡ Err Closed)) ⊎ ((closed ≡ false) × (result ≡ Err OutOfMemory))
    → (e : ArchiveError) × (result ≡ Err e)
why {Y} closed result (inl is) = (Closed, is.1)
why {Y} closed result (inr is) = (OutOfMemory, is.1)

refusal_of : {D Y : Type 0} (old new : Seen D) (result : Result Y ArchiveError) → IsRefusedBefore old new result
    → (e : ArchiveError) × (result ≡ Err e)
refusal_of {D} {Y} old new result is = why old.closed result is.told

refused_adds : {D : Type 0} (old new : Seen D) (messages : List (List ℕ)) (result : Result ℕ ArchiveError)
    → IsRefusedBefore old new result → added_by messages result ≡ []
refused_adds {D} old new messages result is = ap (added_by messages) (refusal_of old new result is).1

refused_closes : {D : Type 0} (honest : Bool) (s next : State) (old new : Seen D) (result : Result ℕ ArchiveError)
    (steps : List Change) → IsRefusedBefore old new result → IsClosedBy honest s next result steps → steps ≡ []
refused_closes {D} honest s next old new result steps is closed =
    subst (λ (r : Result ℕ ArchiveError). IsClosedBy honest s next r steps) (refusal_of old new result is).1 closed

refused_turn : {D : Type 0} (old new : Seen D) (result : Result Turn ArchiveError) (steps : List Change)
    → IsRefusedBefore old new result → IsTurnedBy result steps → steps ≡ []
refused_turn {D} old new result steps is turned =
    subst (λ (r : Result Turn ArchiveError). IsTurnedBy r steps) (refusal_of old new result is).1 turned

idle_steps : (closed : Bool) (steps : List Change) → IsTurnedBy (idle_told closed) steps → steps ≡ []
idle_steps true steps is = is
idle_steps false steps is = is

-- ---- a closed archive

module _ {D S X : Type 0} (g : Ghosts D S X) where
  step_closed : (Y : Type 0) (old new : Seen D) (After : State → Type 0) (result : Result Y ArchiveError)
      → IsStep g old new After result → old.closed ≡ true
      → (new ≡ old) × ((e : ArchiveError) × (result ≡ Err e))
  step_closed Y old new After (Ok x) step closed = never old.closed closed step.done.2
  step_closed Y old new After (Err e) step closed = (
    err_kept e (λ other. step.refused other)
        (λ fault. never old.closed closed (step.fault (ap (λ (x : ArchiveError). Err x) fault)).2),
    (e, refl),
  )

  abbrev IsSame : Seen D → Seen D → List Change → Type 0
  IsSame old new steps = (new ≡ old) × (steps ≡ [])

  once_closed : (old new : Seen D) (messages : List (List ℕ)) (result : Result ℕ ArchiveError) (steps : List Change)
      → AppendsOnce g old new messages result steps → old.closed ≡ true → IsSame old new steps
  once_closed old new messages result steps (inl is, are) closed =
      let same = step_closed ℕ old new (λ next. next ≡ appended old.state messages) result is.step closed in
      (same.0, are ∙ ap (added_by messages) same.1.1)
  once_closed old new messages result steps (inr is, are) closed =
      (is.same, are ∙ refused_adds old new messages result is)

  append_closed : (old new : Seen D) (messages : List (List ℕ)) (result : Result ℕ ArchiveError) (steps : List Change)
      → Appends g old new messages result steps → old.closed ≡ true → IsSame old new steps
  append_closed old new messages result steps (inl once) closed =
      once_closed old new messages result steps once closed
  append_closed old new messages result steps (inr (none, other, both)) closed =
      never old.closed closed none.answers.0

  seal_closed : (old new : Seen D) (result : Result ℕ ArchiveError) (steps : List Change)
      → SealsOnce g old new result steps → old.closed ≡ true → IsSame old new steps
  seal_closed old new result steps (inl is, are) closed =
      let same = step_closed ℕ old new (λ next. IsSealed true old.state next) result is.step closed in (
        same.0,
        subst (λ (r : Result ℕ ArchiveError). IsClosedBy (g.honest old.disk) old.state new.state r steps) same.1.1 are,
      )
  seal_closed old new result steps (inr is, are) closed =
      (is.same, refused_closes (g.honest old.disk) old.state new.state old new result steps is are)

  event_closed : (old new : Seen D) (event : Option Event) (result : Result Turn ArchiveError) (steps : List Change)
      → IsTurn g old new event result → IsTurnedBy result steps → old.closed ≡ true → IsSame old new steps
  event_closed old new None result steps (same, is) turned closed =
      (same, idle_steps old.closed steps (subst (λ (r : Result Turn ArchiveError). IsTurnedBy r steps) is turned))
  event_closed old new (Some event) result steps (answer, answers, step, is) turned closed =
      let same = step_closed Answer old new (Takes true old.state event) answer step closed in (
        same.0,
        err_steps event same.1.0 steps (subst (λ (r : Result Turn ArchiveError). IsTurnedBy r steps)
            (is ∙ ap (turn_told event) same.1.1) turned),
      )

  turn_closed : (old new : Seen D) (kind : JobKind) (keep : ℕ) (result : Result Turn ArchiveError)
      (steps : List Change) → TurnsOnce g kind keep old new result steps → old.closed ≡ true → IsSame old new steps
  turn_closed old new kind keep result steps (inl is, turned) closed =
      event_closed old new (due kind keep old.state) result steps is turned closed
  turn_closed old new kind keep result steps (inr is, turned) closed =
      (is.same, refused_turn old new result steps is turned)

  pub call_closed : (old new : LockState D) (steps : List Change) (call : Call) → Makes g call old new steps
      → old.core.closed ≡ true → (new.core ≡ old.core) × (steps ≡ [])
  call_closed old new steps (append messages result) made closed =
      append_closed old.core new.core messages result steps made.0 closed
  call_closed old new steps (seal result) made closed = seal_closed old.core new.core result steps made.0 closed
  call_closed old new steps (turn kind keep result) made closed =
      turn_closed old.core new.core kind keep result steps made.0 closed
  call_closed old new steps (refresh shown) made closed = (made.0, made.1)

-- ---- an open one

module _ {D S X : Type 0} (g : Ghosts D S X)
    (some : (d : D) → IsTrue (g.honest d) → (image : ℕ → List ℕ) × g.left_since d (g.moment d) image)
    (earlier : (d : D) (t : ℕ) (image : ℕ → List ℕ) → IsTrue (g.honest d) → t ≤ g.moment d
    → g.left_since d (g.moment d) image → g.left_since d t image) where
  abbrev Here : Seen D → Type 0
  Here now = IsHere g now

  abbrev Made : Seen D → Seen D → List Change → (Change → Type 0) → Type 0
  Made old new steps M = IsMade g old new steps M

  once_made : (old new : Seen D) (messages : List (List ℕ)) (result : Result ℕ ArchiveError) (steps : List Change)
      → Here old → AppendsOnce g old new messages result steps
      → Made old new steps (FailedAppend new.state messages result)
  once_made old new messages result steps here (inl is, are) =
      subst (λ (xs : List Change). Made old new xs (FailedAppend new.state messages result)) (sym are)
      (append_made g some earlier old new messages result here is)
  once_made old new messages result steps here (inr is, are) =
      same_made g old new steps (FailedAppend new.state messages result) is.same
      (are ∙ refused_adds old new messages result is) here

  closing_made : (old new : Seen D) (result : Result ℕ ArchiveError) (steps : List Change) → Here old
      → SealsOnce g old new result steps → Made old new steps (FailedSeal old.state new.state result)
  closing_made old new result steps here (inl is, are) =
      seal_made g some earlier old new result steps here is are
  closing_made old new result steps here (inr is, are) =
      same_made g old new steps (FailedSeal old.state new.state result) is.same
      (refused_closes (g.honest old.disk) old.state new.state old new result steps is are) here

  closing_open : (old new : Seen D) (file : ℕ) (steps : List Change) → SealsOnce g old new (Ok file) steps
      → new.closed ≡ false
  closing_open old new file steps (inl is, are) = is.step.done.1
  closing_open old new file steps (inr is, are) = let no = refusal_of old new (Ok file) is in
      let err : Ok file ≡ Err no.0 = no.1 in absurd (cc)

  sealed_then : (old mid new : Seen D) (messages : List (List ℕ)) (result sealed : Result ℕ ArchiveError)
      (before steps : List Change) → Here old → (HasRoom old.state (octet_sum messages) → ⊥)
      → SealsOnce g old mid sealed before → AppendsThen g mid new messages sealed result before steps
      → Made old new steps (FailedAt (append messages result) new.state)
  sealed_then old mid new messages result (Ok file) before steps here none seals (more, once, are) =
      let still = closing_open old mid file before seals in
      let first = closing_made old mid (Ok file) before here seals in
      let mid_here = here_then g old mid before (FailedSeal old.state mid.state (Ok file)) here first still in
      let second = once_made mid new messages result more mid_here once in
      subst (λ (xs : List Change). Made old new xs (FailedAt (append messages result) new.state)) (sym are)
      (made_weaker g old new (before ++ more) (FailedAppend new.state messages result)
      (FailedAt (append messages result) new.state) (λ step is. (is.0, inl (is.1, is.2)))
      (made_then g old mid new before more (FailedSeal old.state mid.state (Ok file))
      (FailedAppend new.state messages result) still first second))
  sealed_then old mid new messages result (Err error) before steps here none seals (same, is, are) =
      let first = made_weaker g old mid before (FailedSeal old.state mid.state (Err error))
      (FailedAt (append messages result) mid.state)
      (λ step failed. (
        is ∙ failed.0,
        inr (
          subst (λ (s : State). HasRoom s (octet_sum messages) → ⊥) (sym failed.1) none,
          failed.2,
        ),
      ))
      (closing_made old mid (Err error) before here seals) in
      subst (λ (xs : List Change). Made old new xs (FailedAt (append messages result) new.state)) (sym are)
      (subst (λ (n : Seen D). Made old n before (FailedAt (append messages result) n.state)) (sym same) first)

  appends_made : (old new : Seen D) (messages : List (List ℕ)) (result : Result ℕ ArchiveError)
      (steps : List Change) → Here old → Appends g old new messages result steps
      → Made old new steps (FailedAt (append messages result) new.state)
  appends_made old new messages result steps here (inl once) =
      made_weaker g old new steps (FailedAppend new.state messages result)
      (FailedAt (append messages result) new.state) (λ step is. (is.0, inl (is.1, is.2)))
      (once_made old new messages result steps here once)
  appends_made old new messages result steps here (inr (none, other, both)) =
      sealed_then old both.mid new messages result both.sealed both.before steps here none.answers.2 both.seals
      both.then

  -- ---- a turn

  due_made : (old new : Seen D) (event : Option Event) (result : Result Turn ArchiveError) (steps : List Change)
      (M : Change → Type 0)
      → ((one : Event) → event ≡ Some one → (step : Change)
      → FailedInstall old.state new.state result one step → M step)
      → Here old → IsRolling event → IsTurn g old new event result → IsTurnedBy result steps
      → shelf_of new.state ≡ after (shelf_of old.state) steps → Made old new steps M
  due_made old new None result steps M weaker here rolls (same, is) turned files =
      same_made g old new steps M same
      (idle_steps old.closed steps (subst (λ (r : Result Turn ArchiveError). IsTurnedBy r steps) is turned)) here
  due_made old new (Some event) result steps M weaker here rolls (answer, answers, step, is) turned files =
      made_weaker g old new steps (FailedInstall old.state new.state result event) M
      (weaker event refl)
      (event_made g some earlier old new event answer result steps here rolls answers step is
      (subst (λ (r : Result Turn ArchiveError). IsTurnedBy r steps) is turned) files)

  turn_made : (old new : Seen D) (kind : JobKind) (keep : ℕ) (result : Result Turn ArchiveError)
      (steps : List Change) → Here old → TurnsOnce g kind keep old new result steps
      → shelf_of new.state ≡ after (shelf_of old.state) steps
      → Made old new steps (FailedAt (turn kind keep result) new.state)
  turn_made old new kind keep result steps here (inl is, turned) files =
      due_made old new (due kind keep old.state) result steps (FailedAt (turn kind keep result) new.state)
      (λ one due_is step failed. (
        failed.0,
        ap (due kind keep) failed.1 ∙ due_is ∙ ap (λ (e : Event). Some e) failed.2,
        failed.3,
      ))
      here (due_rolls kind keep old.state) is turned files
  turn_made old new kind keep result steps here (inr is, turned) files =
      same_made g old new steps (FailedAt (turn kind keep result) new.state) is.same
      (refused_turn old new result steps is turned) here

  -- ---- any call

  seals_made : (old new : Seen D) (result : Result ℕ ArchiveError) (steps : List Change) → Here old
      → SealsOnce g old new result steps → Made old new steps (FailedAt (seal result) new.state)
  seals_made old new result steps here made =
      made_weaker g old new steps (FailedSeal old.state new.state result) (FailedAt (seal result) new.state)
      (λ step failed. (failed.0, failed.2)) (closing_made old new result steps here made)

  files_of : (opening : Shelf) (old new : LockState D) (steps : List Change) → GoesOn g opening old new steps
      → shelf_of new.core.state ≡ after (shelf_of old.core.state) steps
  files_of opening old new steps goes =
      sym goes.now.files ∙ ap (after opening) goes.steps_are ∙ after_more opening (all_of old) steps
      ∙ ap (λ (x : Shelf). after x steps) goes.before.files

  pub call_made : (opening : Shelf) (old new : LockState D) (steps : List Change) (call : Call) → Here old.core
      → GoesOn g opening old new steps → Makes g call old new steps
      → Made old.core new.core steps (FailedAt call new.core.state)
  call_made opening old new steps (append messages result) here goes made =
      appends_made old.core new.core messages result steps here made.0
  call_made opening old new steps (seal result) here goes made =
      seals_made old.core new.core result steps here made.0
  call_made opening old new steps (turn kind keep result) here goes made =
      turn_made old.core new.core kind keep result steps here made.0 (files_of opening old new steps goes)
  call_made opening old new steps (refresh shown) here goes made =
      same_made g old.core new.core steps (FailedAt (refresh shown) new.core.state) made.0 made.1 here
