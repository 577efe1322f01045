-- An append, after a seal.
use Rattle.std.proofs.Common.{◌≡◌, ◌⊎◌, ⊎_elim, ℕ, List, [], ◌++◌, Result, Ok, Err, refl, sym, ap, ◌∙◌, subst}
use Rattle.std.proofs.Common.{append_assoc, ◌≢◌, ◌≤◌, ◌<◌, [], ◌∷◌, length, arith}
use Rattle.std.specs.Prelude.{IfErr}
use Rattle.flow_disk.specs.Cause.{HasCause}
use Rattle.flow_disk.specs.declared.disk.Disk.{Ghosts}
use Rattle.flow_gate.specs.Gate.{octet_sum}
use Rattle.flow_segment.specs.Carry.{prefix_of}
use Rattle.flow_model.specs.Changes.{Change}
use Rattle.flow_archive.specs.declared.refusal.ArchiveError.{ArchiveError}
use Rattle.flow_archive.specs.declared.refusal.ArchiveError.TheVariants.{NoRoom}
use Rattle.flow_model.specs.State.{after_seal, State}
use Rattle.flow_archive.specs.Answers.{AnswersAppend, AnswersSeal, HasRoom}
use Rattle.flow_archive.specs.Seen.{Seen}
use Rattle.flow_shared.specs.Calls.{added_by, by, AppendsOnce, AppendsSealed, IsAppend, IsClosedBy, IsRefusedBefore, IsSeal}

module _ {D S Y : Type 0} (g : Ghosts D S Y) where
  -- no room is a refusal that leaves all as it was
  pub no_room : (old mid : Seen D) (messages : List (List ℕ))
      → IsAppend g old mid messages (Err NoRoom) ⊎ IsRefusedBefore {X = ℕ} old mid (Err NoRoom)
      → (mid ≡ old) × IsAppend g old old messages (Err NoRoom)
  no_room old mid messages called = ⊎_elim
      (λ (a : IsAppend g old mid messages (Err NoRoom)).
      let same : mid ≡ old = a.step.refused (λ x. cc) in
      (same, subst (λ (x : Seen D). IsAppend g old x messages (Err NoRoom)) same a))
      (λ (r : IsRefusedBefore {X = ℕ} old mid (Err NoRoom)). absurd (⊎_elim (λ c. cc) (λ c. cc) r.told))
      called

  pub sealed_then : (old mid new : Seen D) (messages : List (List ℕ)) (file : ℕ) (result : Result ℕ ArchiveError)
      (all0 all1 all2 : List Change)
      → IsSeal g old mid (Ok file) ⊎ IsRefusedBefore {X = ℕ} old mid (Ok file)
      → (steps : List Change) × IsClosedBy (g.honest old.disk) old.state mid.state (Ok file) steps
      × (all1 ≡ all0 ++ steps)
      → AppendsOnce g mid new messages result (added_by messages result)
      → all2 ≡ all1 ++ added_by messages result
      → (steps : List Change) × AppendsSealed g old new messages result steps
      × (all2 ≡ all0 ++ steps)
  sealed_then old mid new messages file result all0 all1 all2 call steps once grown =
      let more = added_by messages result in (
        steps.0 ++ more,
        record {
          mid = mid;
          sealed = Ok file;
          before = steps.0;
          seals = (call, steps.1);
          then = (more, once, refl);
        },
        grown ∙ ap (λ (l : List Change). l ++ more) steps.2 ∙ append_assoc all0 steps.0 more,
      )

  pub seal_refused : (old new : Seen D) (messages : List (List ℕ)) (error : ArchiveError) (all0 all1 : List Change)
      → IsSeal g old new (Err error) ⊎ IsRefusedBefore {X = ℕ} old new (Err error)
      → (steps : List Change) × IsClosedBy (g.honest old.disk) old.state new.state (Err error) steps
      × (all1 ≡ all0 ++ steps)
      → (steps : List Change) × AppendsSealed g old new messages (Err error) steps
      × (all1 ≡ all0 ++ steps)
  seal_refused old new messages error all0 all1 call steps = (
    steps.0,
    record {
      mid = new;
      sealed = Err error;
      before = steps.0;
      seals = (call, steps.1);
      then = (refl, refl, refl);
    },
    steps.2,
  )

  -- ---- where there is no room

  -- a seal isn't refused because there is no room
  pub seal_has_room : (old new : Seen D) (error : ArchiveError)
      → IsSeal g old new (Err error) ⊎ IsRefusedBefore {X = ℕ} old new (Err error)
      → error ≢ NoRoom
  seal_has_room old new error call is = ⊎_elim
      (λ (a : IsSeal g old new (Err error)).
      subst (λ (e : ArchiveError). AnswersSeal (g.honest old.disk) old.closed old.state (Err e) new.state) is a.answers)
      (λ (r : IsRefusedBefore {X = ℕ} old new (Err error)). absurd (⊎_elim (λ c. cc) (λ c. cc) r.told))
      call

  -- after a seal there is room for what a segment has room for
  room_after : (old mid new : Seen D) (messages : List (List ℕ)) (file : ℕ) (error : ArchiveError)
      → IsSeal g old mid (Ok file)
      → IsAppend g mid new messages (Err error)
      → octet_sum messages ≤ old.state.manifest.limit → error ≢ NoRoom
  room_after old mid new messages file error seal append fit is =
      let moved = seal.answers.2 in
      let room : HasRoom (record (after_seal old.state (prefix_of moved.0)) { parts = old.state.parts ++ moved.1 ∷ [] })
      (octet_sum messages) = omega (arith, fit) in
      let refused = subst (λ (e : ArchiveError). AnswersAppend mid.closed mid.state messages (Err e) new.state) is
      append.answers in
      refused.2 (subst (λ (s : State). HasRoom s (octet_sum messages)) (sym moved.4) room)

  pub fits_after : {X : Type 0} (part : X → ℕ) (old mid new : Seen D) (messages : List (List ℕ)) (file : ℕ)
      (result : Result X ArchiveError) (steps : List Change)
      → IsSeal g old mid (Ok file) ⊎ IsRefusedBefore {X = ℕ} old mid (Ok file)
      → AppendsOnce g mid new messages (by part result) steps
      → octet_sum messages ≤ old.state.manifest.limit → IfErr result (λ error. error ≢ NoRoom)
  fits_after part old mid new messages file (Ok x) steps sealed once fit = tt
  fits_after part old mid new messages file (Err error) steps sealed once fit = ⊎_elim
      (λ (seal : IsSeal g old mid (Ok file)). ⊎_elim
      (λ (append : IsAppend g mid new messages (Err error)).
      room_after old mid new messages file error seal append fit)
      (λ (r : IsRefusedBefore {X = ℕ} mid new (Err error)) is. absurd (⊎_elim (λ c. cc) (λ c. cc) r.told))
      once.0)
      (λ (r : IsRefusedBefore {X = ℕ} old mid (Ok file)). absurd (⊎_elim (λ c. cc) (λ c. cc) r.told))
      sealed

  pub never_so : {X : Type 0} (Holds : Type 0) (result : Result X ArchiveError) → IfErr result (λ error. error ≢ NoRoom)
      → IfErr result (λ error. error ≡ NoRoom → Holds)
  never_so Holds (Ok x) other = tt
  never_so Holds (Err error) other = λ is. absurd (other is)

-- ---- answers by one part of them

-- there is no room is what a call answers where a part of it does
pub has_room_by : {X Y : Type 0} (part : X → Y) (result : Result X ArchiveError) → IfErr result (λ e. e ≢ NoRoom)
    → by part result ≢ Err NoRoom
has_room_by part (Ok x) has = λ (is : Ok (part x) ≡ Err NoRoom). cc is
has_room_by part (Err e) has = λ (is : Err e ≡ Err NoRoom). has (cc is)

pub cause_by : {X Y : Type 0} (part : X → Y) (failed : ArchiveError) (before now : ℕ) (result : Result X ArchiveError)
    → HasCause failed before now result → HasCause failed before now (by part result)
cause_by part failed before now (Ok x) is = record {
  later = is.later;
  done = is.done;
  risen = λ (never : Ok (part x) ≡ Err failed). absurd (cc never);
  other = is.other;
}
cause_by part failed before now (Err e) is = record {
  later = is.later;
  done = is.done;
  risen = λ (same : Err e ≡ Err failed).
      let error : e ≡ failed = cc same in
      is.risen (ap (λ (x : ArchiveError). Err x) error);
  other = is.other;
}

pub room_by : {X Y : Type 0} (part : X → Y) (Less Then : Type 0) → (Less → Then) → (result : Result X ArchiveError)
    → IfErr result (λ e. e ≡ NoRoom → Less) → IfErr (by part result) (λ e. e ≡ NoRoom → Then)
room_by part Less Then so (Ok x) is = is
room_by part Less Then so (Err e) is = λ (none : e ≡ NoRoom). so (is none)

pub one_message : (limit : ℕ) (message : List ℕ) → limit < length message → limit < octet_sum (message ∷ [])
one_message limit message less = omega arith
