-- Calls of any threads, one after the other.
use Rattle.std.proofs.Common.{◌≡◌, inl, inr, ⊎_elim, ℕ, ◌≤◌, Bool, true, false, IsTrue, List, [], ◌∷◌, ◌++◌}
use Rattle.std.proofs.Common.{Option, Result, Ok, Err, refl, sym, ◌∙◌, ap, subst, arith, append-nil, append_assoc}
use mathlib.Core.List.{IsPrefix}
use Rattle.flow_disk.specs.declared.disk.Disk.{Ghosts}
use Rattle.flow_disk.specs.Disk.{IsDiskImage}
use Rattle.flow_disk.specs.Calls.{LeavesOnly}
use Rattle.flow_disk.proofs.Moments.{by, started}
use Rattle.flow_model.specs.Changes.{Change}
use Rattle.flow_model.specs.Changes.Change.{added}
use Rattle.flow_model.specs.Shelf.{position_of, Shelf}
use Rattle.flow_model.specs.Shelved.{shelf_of, HasHistory}
use Rattle.flow_model.specs.State.{reopened, State}
use Rattle.flow_recover.proofs.Recovering.{one_state}
use Rattle.flow_archive.specs.declared.refusal.ArchiveError.{ArchiveError}
use Rattle.flow_archive.specs.declared.refusal.ArchiveError.TheVariants.{Closed, OutOfMemory}
use Rattle.flow_archive.specs.Seen.{Seen}
use Rattle.flow_shared.specs.Calls.{Appends, AppendsOnce, AppendsThen}
use Rattle.flow_shared.specs.Meaning.{history_behind, HasView}
use Rattle.flow_shared.specs.Told.{after}
use Rattle.flow_shared.specs.UnderLock.{all_of, IsUnderLock, LockState}
use Rattle.flow_shared.proofs.Fronts.{prefix_trans}
use Rattle.flow_feed.specs.declared.batch.Fed.{Fed}
use Rattle.flow_feed.specs.Shared.{AreAdded, IsInSteps}
use Rattle.flow_stops.specs.Laws.{Acknowledged, AnyCalls, AppendIsCall, CallIsOne, CallsJoin, FedStays, OneCall}
use Rattle.flow_stops.specs.Laws.{OpeningFinds, ReportedIsFound, SeenIsRepresented, StartIsRepresented}
use Rattle.flow_stops.specs.Laws.{StaysRepresented}
use Rattle.flow_stops.specs.Stops.{AreCalls, Call, FailedAt, IsLeft, IsRepresented, MayBeThere}
use Rattle.flow_stops.specs.Stops.{OneFailedAt}
use Rattle.flow_stops.proofs.Making.{here_then, left_of, made_then, made_weaker, same_made, IsHere, IsMade}
use Rattle.flow_stops.proofs.Making.{IsOne, MayBeClosed}
use Rattle.flow_stops.proofs.Calling.{call_closed, call_made}

-- ---- which call failed

failed_later : (before between : List Call) (s : State) (step : Change) → OneFailedAt between s step
    → OneFailedAt (before ++ between) s step
failed_later [] between s step failed = failed
failed_later (call ∷ before) between s step failed = inr (failed_later before between s step failed)

failed_early : (before between : List Call) (s : State) (step : Change) → OneFailedAt before s step
    → OneFailedAt (before ++ between) s step
failed_early [] between s step failed = absurd failed
failed_early (call ∷ before) between s step (inl here) = inl here
failed_early (call ∷ before) between s step (inr later) = inr (failed_early before between s step later)

-- ---- images

left_weaker : (opening : Shelf) (first last : List Change) (M N : Change → Type 0) (image : ℕ → List ℕ)
    → ((step : Change) → M step → N step) → IsLeft opening first last M image → IsLeft opening first last N image
left_weaker opening first last M N image weaker is = record {
  left = is.left;
  represents = is.represents;
  steps = is.steps;
  files = is.files;
  history = is.history;
  begins = is.begins;
  ends = ⊎_elim (λ front. inl front) (λ more. inr (more.0, weaker more.0 more.1, more.2)) is.ends;
}

left_from : (opening : Shelf) (fewer first last : List Change) (M : Change → Type 0) (image : ℕ → List ℕ)
    → IsPrefix fewer first → IsLeft opening first last M image → IsLeft opening fewer last M image
left_from opening fewer first last M image front is = record {
  left = is.left;
  represents = is.represents;
  steps = is.steps;
  files = is.files;
  history = is.history;
  begins = prefix_trans fewer first is.steps front is.begins;
  ends = is.ends;
}

-- ---- a File's batches

still_added : (batches : List (List (List ℕ))) (steps more : List Change) → AreAdded batches steps
    → AreAdded batches (steps ++ more)
still_added [] steps more are = tt
still_added (batch ∷ batches) steps more (others, rest, is, are) = (
  others,
  rest ++ more,
  ap (λ (xs : List Change). xs ++ more) is ∙ append_assoc others (added batch ∷ rest) more,
  still_added batches rest more are,
)

still_fed : (passed : ℕ) (old knows steps : List Change) (octets : Option (List ℕ)) (fed : Fed) → IsPrefix knows steps
    → IsInSteps passed old knows octets fed → IsInSteps passed old steps octets fed
still_fed passed old knows steps octets fed front is = record {
  passed = is.passed;
  most_passed = is.most_passed;
  messages = is.messages;
  count = is.count;
  rest = is.rest;
  read = is.read;
  steps = record {
    since = is.steps.since ++ front.0;
    since_is = sym front.1 ∙ ap (λ (xs : List Change). xs ++ front.0) is.steps.since_is
        ∙ append_assoc old is.steps.since front.0;
    batches = is.steps.batches;
    batches_are = is.steps.batches_are;
    added = still_added is.steps.batches is.steps.since front.0 is.steps.added;
  };
}

not_ok : (position : ℕ) (e : ArchiveError) → ◌≡◌ {A = Result ℕ ArchiveError} (Ok position) (Err e) → ⊥
not_ok position e is = cc

module _ {D S X : Type 0} (g : Ghosts D S X) where
  -- ---- a closed archive

  pub calls_closed : (opening : Shelf) (old new : LockState D) (calls : List Call) → AreCalls g opening old calls new
      → old.core.closed ≡ true → (new.core ≡ old.core) × (all_of new ≡ all_of old)
  calls_closed opening old new [] is closed =
      (ap (λ (l : LockState D). l.core) is, ap (λ (l : LockState D). all_of l) is)
  calls_closed opening old new (call ∷ calls) (mid, steps, goes, made, rest) closed =
      let one = call_closed g old mid steps call made closed in
      let all : all_of mid ≡ all_of old =
      goes.steps_are ∙ ap (λ (xs : List Change). all_of old ++ xs) one.1 ∙ append-nil (all_of old) in
      let more = calls_closed opening mid new calls rest (ap (λ (s : Seen D). s.closed) one.0 ∙ closed) in
      (more.0 ∙ one.0, more.1 ∙ all)

  pub under_lock : (opening : Shelf) (old new : LockState D) (calls : List Call) → AreCalls g opening old calls new
      → IsUnderLock g opening old → IsUnderLock g opening new
  under_lock opening old new [] is was = subst (IsUnderLock g opening) (sym is) was
  under_lock opening old new (call ∷ calls) (mid, steps, goes, made, rest) was =
      under_lock opening mid new calls rest goes.now

  pub joined : CallsJoin g
  joined opening first early late [] between is rest =
      subst (λ (l : LockState D). AreCalls g opening l between late) is rest
  joined opening first early late (call ∷ before) between (mid, steps, goes, made, more) rest =
      (mid, steps, goes, made, joined opening mid early late before between more rest)

  pub append_is_call : AppendIsCall g
  append_is_call opening knew knows messages result new is =
      (is.old, (new, is.steps, is.goes_on, is.adds, refl), is.known_before, is.known_after)

  pub call_is_one : CallIsOne g
  call_is_one opening call was = (was.old, was.new, (was.new, was.steps, was.goes_on, was.call, refl))

  pub start_represented : StartIsRepresented g
  start_represented core honest still images = record {
    honest = honest;
    still_open = still;
    under_lock = record { all_are = refl; files = refl; means = λ _ h has. has; images = λ _ _. images };
  }

  pub seen_is_represented : SeenIsRepresented g
  seen_is_represented opening now is honest still = (
    record { honest = honest; still_open = still; under_lock = is },
    λ image there. record {
      left = reopened now.core.state;
      represents = is.images honest still image there;
      steps = all_of now;
      files = sym is.files;
      history = λ h has.
          let view =
          subst (λ (x : Shelf). HasView x (history_behind h (all_of now))) is.files (is.means honest h has) in
          record { history = view.0; view = view.1 };
      begins = ([], append-nil (all_of now));
      ends = inl ([], append-nil (all_of now));
    },
  )

  -- an append that was answered Ok leaves the archive open
  open_once : (old new : Seen D) (messages : List (List ℕ)) (position : ℕ) (steps : List Change)
      → AppendsOnce g old new messages (Ok position) steps → new.closed ≡ false
  open_once old new messages position steps (inl is, are) = is.step.done.1
  open_once old new messages position steps (inr is, are) =
      ⊎_elim (λ one. absurd (not_ok position Closed one.1)) (λ one. absurd (not_ok position OutOfMemory one.1)) is.told

  open_then : (old mid new : Seen D) (messages : List (List ℕ)) (position : ℕ) (sealed : Result ℕ ArchiveError)
      (before steps : List Change) → AppendsThen g mid new messages sealed (Ok position) before steps
      → new.closed ≡ false
  open_then old mid new messages position (Ok file) before steps (more, once, is) =
      open_once mid new messages position more once
  open_then old mid new messages position (Err e) before steps (same, is, are) = absurd (not_ok position e is)

  open_after : (old new : Seen D) (messages : List (List ℕ)) (position : ℕ) (steps : List Change)
      → Appends g old new messages (Ok position) steps → new.closed ≡ false
  open_after old new messages position steps (inl once) = open_once old new messages position steps once
  open_after old new messages position steps (inr (none, other, sealed)) =
      open_then old sealed.mid new messages position sealed.sealed sealed.before steps sealed.then

  -- an image represents one state
  pub opening_finds : OpeningFinds g
  opening_finds opening first late calls image found is represents =
      one_state image found is.left represents is.represents

module _ {D S X : Type 0} (g : Ghosts D S X)
    (some : (d : D) → IsTrue (g.honest d) → (image : ℕ → List ℕ) × g.left_since d (g.moment d) image)
    (earlier : (d : D) (t : ℕ) (image : ℕ → List ℕ) → IsTrue (g.honest d) → t ≤ g.moment d
    → g.left_since d (g.moment d) image → g.left_since d t image) where
  -- ---- a run of calls

  record IsRun (first now : LockState D) (calls : List Call) : Type 0 where
    pub steps : List Change
    pub all_are : all_of now ≡ all_of first ++ steps
    pub made : IsMade g first.core now.core steps (OneFailedAt calls now.core.state)

  none_run : (first now : LockState D) → now ≡ first → IsHere g first.core → IsRun first now []
  none_run first now is here = record {
    steps = [];
    all_are = ap (λ (l : LockState D). all_of l) is ∙ sym (append-nil (all_of first));
    made = same_made g first.core now.core [] (OneFailedAt [] now.core.state) (ap (λ (l : LockState D). l.core) is) refl
        here;
  }

  -- one call, and those after it
  closed_run : (first mid now : LockState D) (call : Call) (calls : List Call) (steps : List Change)
      → all_of mid ≡ all_of first ++ steps → IsMade g first.core mid.core steps (FailedAt call mid.core.state)
      → (now.core ≡ mid.core) × (all_of now ≡ all_of mid) → IsRun first now (call ∷ calls)
  closed_run first mid now call calls steps all made same = record {
    steps = steps;
    all_are = same.1 ∙ all;
    made = subst (λ (s : Seen D). IsMade g first.core s steps (OneFailedAt (call ∷ calls) s.state)) (sym same.0)
        (made_weaker g first.core mid.core steps (FailedAt call mid.core.state)
        (OneFailedAt (call ∷ calls) mid.core.state) (λ step failed. inl failed) made);
  }

  open_run : (first mid now : LockState D) (call : Call) (calls : List Call) (steps : List Change)
      → all_of mid ≡ all_of first ++ steps → IsMade g first.core mid.core steps (FailedAt call mid.core.state)
      → mid.core.closed ≡ false → IsRun mid now calls → IsRun first now (call ∷ calls)
  open_run first mid now call calls steps all made still rest = record {
    steps = steps ++ rest.steps;
    all_are = rest.all_are ∙ ap (λ (xs : List Change). xs ++ rest.steps) all
        ∙ append_assoc (all_of first) steps rest.steps;
    made = made_weaker g first.core now.core (steps ++ rest.steps) (OneFailedAt calls now.core.state)
        (OneFailedAt (call ∷ calls) now.core.state) (λ step failed. inr failed)
        (made_then g first.core mid.core now.core steps rest.steps (FailedAt call mid.core.state)
        (OneFailedAt calls now.core.state) still made rest.made);
  }

  call_run : (opening : Shelf) (first mid now : LockState D) (call : Call) (calls : List Call) (steps : List Change)
      (b : Bool) → mid.core.closed ≡ b → all_of mid ≡ all_of first ++ steps
      → IsMade g first.core mid.core steps (FailedAt call mid.core.state) → AreCalls g opening mid calls now
      → (mid.core.closed ≡ false → IsRun mid now calls) → IsRun first now (call ∷ calls)
  call_run opening first mid now call calls steps true closed all made rest more =
      closed_run first mid now call calls steps all made (calls_closed g opening mid now calls rest closed)
  call_run opening first mid now call calls steps false still all made rest more =
      open_run first mid now call calls steps all made still (more still)

  run : (opening : Shelf) (first now : LockState D) (calls : List Call) → IsHere g first.core
      → AreCalls g opening first calls now → IsRun first now calls
  run opening first now [] here is = none_run first now is here
  run opening first now (call ∷ calls) here (mid, steps, goes, makes, rest) =
      let made = call_made g some earlier opening first mid steps call here goes makes in
      call_run opening first mid now call calls steps mid.core.closed refl goes.steps_are made rest
      (λ still. run opening mid now calls
      (here_then g first.core mid.core steps (FailedAt call mid.core.state) here made still) rest)

  -- ---- what a stop leaves

  module _ (only : (d : D) (image : ℕ → List ℕ) → IsTrue (g.honest d) → g.left_since d (g.moment d) image
      → IsDiskImage (g.held d) image) where
    here_of : (opening : Shelf) (now : LockState D) → IsRepresented g opening now → IsHere g now.core
    here_of opening now is = record {
      honest = is.honest;
      still_open = is.still_open;
      images = λ image left.
          is.under_lock.images is.honest is.still_open image (only now.core.disk image is.honest left);
    }

    pub represented : StaysRepresented g
    represented opening first now calls is are still =
        let done = run opening first now calls (here_of opening first is) are in
        let here = here_then g first.core now.core done.steps (OneFailedAt calls now.core.state)
        (here_of opening first is) done.made still in
        record {
          honest = here.honest;
          still_open = still;
          under_lock = under_lock g opening first now calls are is.under_lock;
        }

    abbrev Leaves : Shelf → LockState D → LockState D → List Call → Type 0
    Leaves opening early late calls = LeavesOnly g early.core.disk late.core.disk
        (IsLeft opening (all_of early) (all_of late) (MayBeThere calls late))

    -- of an open archive
    open_between : (opening : Shelf) (early late : LockState D) (before between : List Call)
        → IsRepresented g opening early → AreCalls g opening early between late
        → Leaves opening early late (before ++ between)
    open_between opening early late before between is are =
        let done = run opening early late between (here_of opening early is) are in
        let M : Change → Type 0 = MayBeClosed g late.core (OneFailedAt between late.core.state) in
        by g early.core.disk late.core.disk (IsOne early.core.state [] done.steps M)
        (IsLeft opening (all_of early) (all_of late) (MayBeThere (before ++ between) late)) done.made.leaves
        (λ image one. left_weaker opening (all_of early) (all_of late) M (MayBeThere (before ++ between) late) image
        (λ step may. (may.0, failed_later before between late.core.state step may.1))
        (subst (λ (xs : List Change). IsLeft opening xs (all_of late) M image) (append-nil (all_of early))
        (subst (λ (xs : List Change). IsLeft opening (all_of early ++ []) xs M image) (sym done.all_are)
        (left_of opening early.core.state (all_of early) [] done.steps M image is.under_lock.files
        (is.under_lock.means is.honest) one))))

    -- of a closed one
    closed_here : (opening : Shelf) (first early : LockState D) (before between : List Call)
        → IsRepresented g opening first → AreCalls g opening first before early → early.core.closed ≡ true
        → Leaves opening early early (before ++ between)
    closed_here opening first early before between is are closed =
        let done = run opening first early before (here_of opening first is) are in
        let M : Change → Type 0 = OneFailedAt before early.core.state in
        started g early.core.disk (IsLeft opening (all_of early) (all_of early) (MayBeThere (before ++ between) early))
        (λ image left. left_weaker opening (all_of early) (all_of early) M (MayBeThere (before ++ between) early) image
        (λ step failed. (closed, failed_early before between early.core.state step failed))
        (subst (λ (xs : List Change). IsLeft opening xs xs M image) (sym done.all_are)
        (left_of opening first.core.state (all_of first) done.steps done.steps M image is.under_lock.files
        (is.under_lock.means is.honest)
        (done.made.gone closed image left))))

    same_late : (opening : Shelf) (early late : LockState D) (calls : List Call)
        → (late.core ≡ early.core) × (all_of late ≡ all_of early) → Leaves opening early early calls
        → Leaves opening early late calls
    same_late opening early late calls same leaves =
        subst (λ (xs : List Change). LeavesOnly g early.core.disk late.core.disk
        (IsLeft opening (all_of early) xs (MayBeThere calls late))) (sym same.1)
        (subst (λ (s : Seen D). LeavesOnly g early.core.disk s.disk
        (IsLeft opening (all_of early) (all_of early) (λ step. (s.closed ≡ true) × OneFailedAt calls s.state step)))
        (sym same.0) leaves)

    pub between_calls : AnyCalls g
    between_calls opening first early late before between is are more = go early.core.closed refl
      where
        go : (b : Bool) → early.core.closed ≡ b → Leaves opening early late (before ++ between)
        go false still = open_between opening early late before between
            (represented opening first early before is are still) more
        go true closed = same_late opening early late (before ++ between)
            (calls_closed g opening early late between more closed)
            (closed_here opening first early before between is are closed)

    pub one_call : OneCall g
    one_call opening old new steps call is goes makes =
        let are : AreCalls g opening old (call ∷ []) new = (new, steps, goes, makes, refl) in (
          between_calls opening old old new [] (call ∷ []) is refl are,
          λ still. represented opening old new (call ∷ []) is are still,
        )

    pub acknowledged : Acknowledged g
    acknowledged opening first early late before between knows is are more front =
        let lock = under_lock g opening first early before are is.under_lock in
        let all : IsPrefix early.made (all_of early) = (early.backlog, sym lock.all_are) in
        let N : Change → Type 0 = MayBeThere (before ++ between) late in
        by g early.core.disk late.core.disk (IsLeft opening (all_of early) (all_of late) N)
        (IsLeft opening knows (all_of late) N)
        (between_calls opening first early late before between is are more)
        (λ image left. left_from opening knows (all_of early) (all_of late) N image
        (prefix_trans knows early.made (all_of early) front all) left)

    pub fed_stays : FedStays g
    fed_stays opening first early late before between old knows passed octets fed is are more front reported =
        let N : Change → Type 0 = MayBeThere (before ++ between) late in
        by g early.core.disk late.core.disk (IsLeft opening knows (all_of late) N)
        (λ image. (left : IsLeft opening knows (all_of late) N image) × IsInSteps passed old left.steps octets fed)
        (acknowledged opening first early late before between knows is are more front)
        (λ image left. (left, still_fed passed old knows left.steps octets fed left.begins reported))

    pub reported_is_found : ReportedIsFound g
    reported_is_found opening now late between knew knows messages position image found honest more told has since
        represents =
        let still = open_after g told.old.core now.core messages position told.steps told.adds.0 in
        let is = (seen_is_represented g opening now told.goes_on.now honest still).0 in
        let front : IsPrefix knows now.made = ([], append-nil knows ∙ told.known_after) in
        let left = (acknowledged opening now now late [] between knows is refl more front).each image since in
        let same : found ≡ left.left = opening_finds g opening knows late between image found left represents in
        let rest = left.begins in
        let steps : left.steps ≡ (knew ++ has.others) ++ added messages ∷ rest.0 =
        sym rest.1 ∙ ap (λ (xs : List Change). xs ++ rest.0) has.new_is
        ∙ append_assoc (knew ++ has.others) (added messages ∷ []) rest.0 in
        record {
          before = knew ++ has.others;
          later = rest.0;
          files = ap shelf_of same ∙ left.files ∙ ap (after opening) steps;
          position_is = has.position_is ∙ ap (λ (xs : List Change). position_of (after opening xs)) has.new_is;
          history = λ h view. subst (λ (xs : List Change). HasHistory found (history_behind h xs)) steps
              (subst (λ (s : State). HasHistory s (history_behind h left.steps)) (sym same) (left.history h view));
        }
