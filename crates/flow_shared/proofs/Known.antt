-- Lists that go on.
use Rattle.std.proofs.Common.{◌≡◌, ℕ, List, [], ◌∷◌, ◌++◌, ap, sym, ◌∙◌, append_assoc, subst}
use Rattle.std.specs.Prelude.{◌↔◌, Bool, false, IfOk, IsTrue, Option, Result, Ok, Err}
use Rattle.std.proofs.lemmas.List.{append-nil}
use mathlib.Core.List.{IsPrefix}
use Rattle.flow_disk.specs.declared.disk.Disk.{Ghosts}
use Rattle.flow_disk.specs.Disk.{AllImages}
use Rattle.flow_model.specs.Changes.{added, Change}
use Rattle.flow_model.specs.Shelf.{position_of, Shelf}
use Rattle.flow_model.specs.Shelved.{shelf_of}
use Rattle.flow_model.specs.Standing.{StandsFor}
use Rattle.flow_model.specs.State.{reopened}
use Rattle.flow_archive.specs.Seen.{Seen}
use Rattle.flow_snapshot.specs.declared.step.Mark.{Mark}
use Rattle.flow_shared.specs.Known.{Says}
use Rattle.flow_shared.specs.Meaning.{Means}
use Rattle.flow_shared.specs.Told.{after, HasAdded}
use Rattle.flow_shared.specs.UnderLock.{all_of, lock_state, IsAllShown, IsInStep, IsUnderLock, LockState}

pub prefix_same : {A : Type 0} (xs ys : List A) → ys ≡ xs → IsPrefix xs ys
prefix_same xs ys same = ([], append-nil xs ∙ sym same)

-- what is added after a longer list is added after a beginning of it
pub added_later : (opening : Shelf) (a b c : List Change) (messages : List (List ℕ)) (position : ℕ)
    → IsPrefix a b → HasAdded opening b c messages position → HasAdded opening a c messages position
added_later opening a b c messages position pre added_there = record {
  others = pre.0 ++ added_there.others;
  new_is = added_there.new_is
      ∙ ap (λ (l : List Change). l ++ added messages ∷ [])
      (ap (λ (l : List Change). l ++ added_there.others) (sym pre.1) ∙ append_assoc a pre.0 added_there.others);
  position_is = added_there.position_is;
}

-- the last of all steps, where all are made
pub added_last : (opening : Shelf) (old backlog all0 new all1 : List Change) (messages : List (List ℕ)) (position : ℕ)
    → all0 ≡ old ++ backlog → all1 ≡ all0 ++ added messages ∷ [] → new ≡ all1
    → position ≡ position_of (after opening all1)
    → HasAdded opening old new messages position
added_last opening old backlog all0 new all1 messages position before grown same at = record {
  others = backlog;
  new_is = same ∙ grown ∙ ap (λ (l : List Change). l ++ added messages ∷ []) before;
  position_is = at ∙ ap (λ (l : List Change). position_of (after opening l)) (sym same);
}

pub added_later_if : {X E : Type 0} (opening : Shelf) (a b c : List Change) (messages : List (List ℕ)) (made : X → Bool)
    (position : X → ℕ) → IsPrefix a b → (result : Result X E)
    → IfOk result (λ r. IsTrue (made r) → HasAdded opening b c messages (position r))
    → IfOk result (λ r. IsTrue (made r) → HasAdded opening a c messages (position r))
added_later_if opening a b c messages made position pre (Ok r) there =
    λ is. added_later opening a b c messages (position r) pre (there is)
added_later_if opening a b c messages made position pre (Err e) there = tt

-- what is seen of a value under the lock holds of the value
pub sound_of : {D S X : Type 0} (g : Ghosts D S X) (opening : Shelf) (seen now : LockState D) → seen ≡ now
    → IsUnderLock g opening seen → IsUnderLock g opening now
sound_of g opening seen now same is = subst (IsUnderLock g opening) same is

-- what the lock keeps, and what the archive says of its images, is what each value under the lock has
pub under_lock_of : {D S X : Type 0} (g : Ghosts D S X) (opening : Shelf) (is_honest : Bool) (core : Seen D)
    (published told : List Change) (backlog : Option Mark) (now : LockState D)
    → lock_state core published told backlog ≡ now → IsInStep g.honest opening is_honest core told backlog
    → after opening (all_of now) ≡ shelf_of now.core.state → all_of now ≡ now.made ++ now.backlog
    → (IsTrue (g.honest core.disk) → core.closed ≡ false
    → AllImages (g.held core.disk) (λ image. StandsFor image (reopened core.state)))
    → IsUnderLock g opening now
under_lock_of {D} g opening is_honest core published told backlog now same in_step files all stands = record {
  all_are = all;
  files = files;
  means = λ honest. subst (Means opening) (ap (λ (l : LockState D). l.made ++ l.backlog) same ∙ sym all)
      (in_step.means (subst IsTrue in_step.honest_is
      (subst (λ (l : LockState D). IsTrue (g.honest l.core.disk)) (sym same) honest)));
  images = subst (λ (l : LockState D). IsTrue (g.honest l.core.disk) → l.core.closed ≡ false
      → AllImages (g.held l.core.disk) (λ image. StandsFor image (reopened l.core.state))) same stands;
}

-- what a receipt says, from its parts
pub says : {D X E : Type 0} (now : LockState D) (made shown : X → Bool) (told : X → List Change) (result : Result X E)
    → IfOk result (λ r. IsTrue (made r) ↔ (now.backlog ≡ [])) → IfOk result (λ r. IsTrue (shown r) ↔ IsAllShown now)
    → IfOk result (λ r. told r ≡ now.told) → IfOk result (λ r. Says now (made r) (shown r) (told r))
says now made shown told (Ok r) is_made is_shown is_told = (is_made, is_shown, is_told)
says now made shown told (Err e) is_made is_shown is_told = tt
