-- Steps of an archive.
use Rattle.std.proofs.Common.{◌≡◌, ◌⊎◌, inl, inr, ⊎_elim, ℕ, true, false, IsTrue, List, Result, Ok, Err, refl}
use Rattle.std.proofs.Common.{sym, ap, subst}
use Rattle.std.specs.Prelude.{IsErrAnd}
use Rattle.flow_disk.specs.declared.disk.Disk.{Ghosts}
use Rattle.flow_disk.specs.Disk.{IsDiskImage, AllImages}
use Rattle.flow_disk.specs.Calls.{LeavesOnly}
use Rattle.flow_disk.proofs.Moments.{by, started}
use Rattle.flow_model.specs.State.{State, reopened}
use Rattle.flow_model.specs.Standing.{StandsFor}
use Rattle.flow_archive.specs.declared.refusal.ArchiveError.{ArchiveError}
use Rattle.flow_archive.specs.declared.refusal.ArchiveError.TheVariants as refusal
use Rattle.flow_archive.specs.Seen.{Seen, IsStep, StandsBeforeOrAfter}
use Rattle.flow_archive.proofs.Answering.{err_is}

-- a refusal before the first call of the disk
pub refused : {D T S X : Type 0} (g : Ghosts D S X) (old new : Seen D) (After : State → Type 0) (e : ArchiveError)
    → new ≡ old
    → (e ≡ refusal.Fault → ⊥)
    → (IsTrue (g.honest old.disk) → (image : ℕ → List ℕ) → g.left_since old.disk (g.moment old.disk) image
    → IsDiskImage (g.held old.disk) image)
    → (IsTrue (g.honest old.disk) → old.closed ≡ false
    → AllImages (g.held old.disk) (λ image. StandsFor image (reopened old.state)))
    → IsStep {D = D} {T = T} g old new After (Err e)
refused {D} {T} g old new After e same other only stands =
    subst (λ (s : Seen D). IsStep {D = D} {T = T} g old s After (Err e)) (sym same) (record {
      honest_too = refl;
      any_moment = λ h still. started g old.disk (StandsBeforeOrAfter old.state After)
          (λ image left. inl (stands h still image (only h image left)));
      done = tt;
      fault = λ is. absurd (other (cc));
      stands = λ h still image left. stands h still image (only h image left);
      refused = λ differs. refl;
    })

-- the same, of a refusal that is passed on
pub refused_by : {D T S X : Type 0} (g : Ghosts D S X) (old new : Seen D) (After : State → Type 0) (e : ArchiveError)
    (r : Result T ArchiveError)
    → IsErrAnd r (λ x. x ≡ e) → new ≡ old → (e ≡ refusal.Fault → ⊥)
    → (IsTrue (g.honest old.disk) → (image : ℕ → List ℕ) → g.left_since old.disk (g.moment old.disk) image
    → IsDiskImage (g.held old.disk) image)
    → (IsTrue (g.honest old.disk) → old.closed ≡ false
    → AllImages (g.held old.disk) (λ image. StandsFor image (reopened old.state)))
    → IsStep {D = D} {T = T} g old new After r
refused_by {D} {T} g old new After e r is same other only stands =
    err_is r e (λ (x : Result T ArchiveError). IsStep {D = D} {T = T} g old new After x) is
    (refused {D = D} {T = T} g old new After e same other only stands)

pub acknowledged : {D T S X : Type 0} (g : Ghosts D S X)
    (old new : Seen D) (After : State → Type 0) (answer : T) → g.honest new.disk ≡ g.honest old.disk
    → (IsTrue (g.honest old.disk)
    → LeavesOnly g old.disk new.disk (StandsBeforeOrAfter old.state After))
    → (IsTrue (g.honest old.disk) → After new.state) → new.closed ≡ false → old.closed ≡ false
    → (IsTrue (g.honest new.disk) → (image : ℕ → List ℕ) → g.left_since new.disk (g.moment new.disk) image
    → StandsFor image (reopened new.state)) → IsStep {D = D} {T = T} g old new After (Ok answer)
acknowledged g old new After answer honest_too run state still was stands = record {
  honest_too = honest_too;
  any_moment = λ h _. run h;
  done = (state, still, was);
  fault = λ is. absurd (cc);
  stands = λ h _. stands h;
  refused = tt;
}

-- a fault of the device; the archive has the state before, or the one after
pub failed_either : {D T S X : Type 0} (g : Ghosts D S X)
    (old new : Seen D) (After : State → Type 0) → g.honest new.disk ≡ g.honest old.disk
    → (IsTrue (g.honest old.disk)
    → LeavesOnly g old.disk new.disk (StandsBeforeOrAfter old.state After))
    → (new.state ≡ old.state) ⊎ After new.state → new.closed ≡ true → old.closed ≡ false
    → IsStep {D = D} {T = T} g old new After (Err refusal.Fault)
failed_either g old new After honest_too run state still was = record {
  honest_too = honest_too;
  any_moment = λ h _. run h;
  done = tt;
  fault = λ is. (state, still, was);
  stands = λ h open_still. absurd (cc);
  refused = λ differs. absurd (differs refl);
}

pub failed : {D T S X : Type 0} (g : Ghosts D S X)
    (old new : Seen D) (After : State → Type 0) → g.honest new.disk ≡ g.honest old.disk
    → (IsTrue (g.honest old.disk)
    → LeavesOnly g old.disk new.disk (StandsBeforeOrAfter old.state After))
    → new.state ≡ old.state → new.closed ≡ true → old.closed ≡ false
    → IsStep {D = D} {T = T} g old new After (Err refusal.Fault)
failed {D} {T} g old new After honest_too run state still was =
    failed_either {D = D} {T = T} g old new After honest_too run (inl state) still was

-- an answer as that of an event
pub told : {D T U S X : Type 0} (g : Ghosts D S X)
    (old new : Seen D) (A B : State → Type 0) (x : T) (y : U) → ((s : State) → A s → B s)
    → IsStep {D = D} {T = T} g old new A (Ok x)
    → IsStep {D = D} {T = U} g old new B (Ok y)
told g old new A B x y so step = record {
  honest_too = step.honest_too;
  any_moment = λ h still.
      by g old.disk new.disk (StandsBeforeOrAfter old.state A) (StandsBeforeOrAfter old.state B)
      (step.any_moment h still)
      (λ image either. ⊎_elim (λ before. inl before) (λ after. inr (after.0, so after.0 after.1, after.2)) either);
  done = ((λ h. so new.state (step.done.0 h)), step.done.1, step.done.2);
  fault = λ is. absurd (cc);
  stands = step.stands;
  refused = tt;
}

pub told_refused : {D T U S X : Type 0} (g : Ghosts D S X)
    (old new : Seen D) (A B : State → Type 0) (e : ArchiveError) (r : Result U ArchiveError)
    → IsErrAnd r (λ x. x ≡ e) → ((s : State) → A s → B s)
    → IsStep {D = D} {T = T} g old new A (Err e)
    → IsStep {D = D} {T = U} g old new B r
told_refused {D} {T} {U} g old new A B e r is so step =
    err_is r e (λ (x : Result U ArchiveError). IsStep {D = D} {T = U} g old new B x) is (record {
      honest_too = step.honest_too;
      any_moment = λ h still.
          by g old.disk new.disk (StandsBeforeOrAfter old.state A) (StandsBeforeOrAfter old.state B)
          (step.any_moment h still)
          (λ image either. ⊎_elim (λ before. inl before) (λ after. inr (after.0, so after.0 after.1, after.2)) either);
      done = tt;
      fault = λ same.
          let fault : e ≡ refusal.Fault = cc in
          let was = step.fault (ap (λ (x : ArchiveError). Err x) fault) in
          (⊎_elim (λ before. inl before) (λ after. inr (so new.state after)) was.0, was.1, was.2);
      stands = step.stands;
      refused = step.refused;
    })

-- the same answer, with what follows from what the call has made of the state
pub told_as_it_is : {D T S X : Type 0} (g : Ghosts D S X) (old new : Seen D) (A B : State → Type 0)
    (r : Result T ArchiveError)
    → ((s : State) → A s → B s) → IsStep {D = D} {T = T} g old new A r
    → IsStep {D = D} {T = T} g old new B r
told_as_it_is g old new A B (Ok x) so step = told g old new A B x x so step
told_as_it_is {T = T} g old new A B (Err e) so step = told_refused {T = T} g old new A B e (Err e) refl so step
