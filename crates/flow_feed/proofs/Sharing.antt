-- The steps of the messages that a thread was acknowledged.
use Rattle.std.proofs.Common.{◌≡◌, ◌⊎◌, ⊎_elim, ◌∙◌, ℕ, Bool, true, false, List, [], ◌∷◌, ◌++◌, length, Option}
use Rattle.std.proofs.Common.{Some, None}
use Rattle.std.proofs.Common.{Result, Ok, Err, ◌↔◌, IsTrue, inl, inr, refl, sym, ap, subst, append-nil, append_assoc}
use Rattle.std.specs.Prelude.{⊤}
use mathlib.Core.Bool.{not}
use mathlib.Core.List.{IsPrefix}
use Rattle.std.specs.Io.KnownBytes.{Consumes, IsAtEnd}
use Rattle.flow_codec.specs.Message.{joined}
use Rattle.flow_disk.specs.declared.disk.Disk.{Ghosts}
use Rattle.flow_model.specs.Changes.{Change}
use Rattle.flow_model.specs.Changes.Change.{added}
use Rattle.flow_model.specs.Shelf.{Shelf}
use Rattle.flow_archive.specs.declared.refusal.ArchiveError.{ArchiveError}
use Rattle.flow_archive.specs.declared.refusal.ArchiveError.TheVariants.{OutOfMemory}
use Rattle.flow_shared.specs.Known.{IsAppendBy, Says}
use Rattle.flow_shared.specs.Told.{HasAdded}
use Rattle.flow_shared.specs.UnderLock.{LockState}
use Rattle.flow_feed.specs.declared.batch.Fed.{Fed}
use Rattle.flow_feed.specs.declared.batch.FeedStop.{FeedStop}
use Rattle.flow_feed.specs.declared.collecting.Collected.{Collected}
use Rattle.flow_feed.specs.Datagrams.{AreInSteps, AreReadFrom}
use Rattle.flow_feed.specs.Feed.{IsEnd, IsFed}
use Rattle.flow_feed.specs.Given.{acknowledged, acknowledged_in, AreGiven, Given}
use Rattle.flow_feed.specs.Shared.{AreAdded, HasSteps, IsGivenShared, IsInSteps, IsLate, IsRefusedShared, Known}
use Rattle.flow_feed.specs.Until.{AreReadUntil, AreStepsUntil, IsFedUntil}

-- ---- an append

pub holds_then : (b : Bool) → not b ≡ false → b ≡ true
holds_then true other = refl
holds_then false other = absurd (let never : true ≡ false = other in cc never)

fails_then : (b : Bool) → not b ≡ true → b ≡ false
fails_then true other = absurd (let never : false ≡ true = other in cc never)
fails_then false other = refl

late_of : {D S X : Type 0} (g : Ghosts D S X) (opening : Shelf) (knew knows : List Change) (messages : List (List ℕ))
    (position : ℕ) (made : Bool) (under : LockState D) → IsAppendBy g opening knew knows messages (Ok position) under
    → (IsTrue made ↔ (under.backlog ≡ [])) → not made ≡ true → IsLate g opening knew knows messages position
late_of g opening knew knows messages position made under append is other = record {
  under = under;
  append = append;
  late = λ (none : under.backlog ≡ []).
      let never : true ≡ false = sym (is.1 none) ∙ fails_then made other in cc never;
}

-- messages that are accepted, where a step isn't made
pub late_then : {D S X : Type 0} (g : Ghosts D S X) (opening : Shelf) (knew knows : List Change)
    (messages : List (List ℕ)) (position : ℕ) (error : ArchiveError) (made shown : Bool) (told : List Change)
    → ((knows ≡ knew) × (Ok position ≡ Err error)) ⊎ ((under : LockState D)
    × IsAppendBy g opening knew knows messages (Ok position) under × Says under made shown told)
    → not made ≡ true → IsLate g opening knew knows messages position
late_then g opening knew knows messages position error made shown told (inl x) other =
    absurd (let never : Ok position ≡ Err error = x.1 in cc never)
late_then g opening knew knows messages position error made shown told (inr x) other =
    late_of g opening knew knows messages position made x.0 x.1 (x.2).0 other

-- messages that aren't accepted
pub refused_then : {D S X : Type 0} (g : Ghosts D S X) (opening : Shelf) (knew knows : List Change)
    (messages : List (List ℕ)) (answer : Result ℕ ArchiveError) (error : ArchiveError) → answer ≡ Err error
    → ((knows ≡ knew) × (answer ≡ Err OutOfMemory)) ⊎ ((under : LockState D)
    × IsAppendBy g opening knew knows messages answer under × ⊤)
    → IsRefusedShared g opening knew knows messages error
refused_then g opening knew knows messages answer error is (inl x) =
    inr (let same : error ≡ OutOfMemory = cc (is, x.1) in same, x.0)
refused_then g opening knew knows messages answer error is (inr x) =
    inl (x.0, subst (λ (a : Result ℕ ArchiveError). IsAppendBy g opening knew knows messages a x.0) is x.1)

-- ---- a File

added_after : (batches : List (List (List ℕ))) (more steps : List Change) → AreAdded batches steps
    → AreAdded batches (more ++ steps)
added_after [] more steps are = tt
added_after (batch ∷ batches) more steps (others, rest, is, are) =
    let joined = sym (append_assoc more others (added batch ∷ rest)) in
    (more ++ others, rest, ap (λ (l : List Change). more ++ l) is ∙ joined, are)

one_more : (opening : Shelf) (old mid new : List Change) (messages : List (List ℕ)) (position : ℕ)
    (acked : List (List ℕ)) → HasAdded opening old mid messages position → HasSteps mid new acked → HasSteps old new (messages ++ acked)
one_more opening old mid new messages position acked one more = record {
  since = one.others ++ added messages ∷ more.since;
  since_is = more.since_is ∙ ap (λ (l : List Change). l ++ more.since) one.new_is
      ∙ append_assoc (old ++ one.others) (added messages ∷ []) more.since
      ∙ append_assoc old one.others (added messages ∷ more.since);
  batches = messages ∷ more.batches;
  batches_are = ap (λ (l : List (List ℕ)). messages ++ l) more.batches_are;
  added = (one.others, more.since, refl, more.added);
}

others_more : (old mid new : List Change) (acked : List (List ℕ)) → IsPrefix old mid → HasSteps mid new acked
    → HasSteps old new acked
others_more old mid new acked pre more = record {
  since = pre.0 ++ more.since;
  since_is = more.since_is ∙ ap (λ (l : List Change). l ++ more.since) (sym pre.1) ∙ append_assoc old pre.0 more.since;
  batches = more.batches;
  batches_are = more.batches_are;
  added = added_after more.batches pre.0 more.since more.added;
}

step_on : {D S X : Type 0} (g : Ghosts D S X) (opening : Shelf) (old mid : Known) (new : List Change)
    (messages : List (List ℕ)) (answer : Result ℕ ArchiveError) (acked : List (List ℕ))
    → IsGivenShared g opening old mid messages answer → mid.whole ≡ true → HasSteps mid.steps new acked
    → (old.whole ≡ true) × HasSteps old.steps new (acknowledged_in messages answer ++ acked)
step_on g opening old mid new messages (Ok position) acked given whole more = ⊎_elim
    (λ (x : (mid.whole ≡ old.whole) × HasAdded opening old.steps mid.steps messages position).
    (sym x.0 ∙ whole, one_more opening old.steps mid.steps new messages position acked x.1 more))
    (λ (x : (mid.whole ≡ false) × IsLate g opening old.steps mid.steps messages position).
    absurd (let never : true ≡ false = sym whole ∙ x.0 in cc never))
    given
step_on g opening old mid new messages (Err error) acked given whole more =
    (sym given.0 ∙ whole, others_more old.steps mid.steps new acked given.1 more)

given_steps : {D S X : Type 0} (g : Ghosts D S X) (opening : Shelf) (old new : Known) (given : List Given)
    → AreGiven (IsGivenShared g opening) old new given → new.whole ≡ true
    → (old.whole ≡ true) × HasSteps old.steps new.steps (acknowledged given)
given_steps g opening old new [] same whole = (
  ap (λ (k : Known). k.whole) (sym same) ∙ whole,
  record {
    since = [];
    since_is = ap (λ (k : Known). k.steps) same ∙ sym (append-nil old.steps);
    batches = [];
    batches_are = refl;
    added = tt;
  },
)
given_steps g opening old new (x ∷ xs) run whole =
    let more = given_steps g opening run.0 new xs run.2 whole in
    step_on g opening old run.0 new.steps x.messages x.answer (acknowledged xs) run.1 more.0 more.1

pub fed_steps : {D S X : Type 0} (g : Ghosts D S X) (opening : Shelf) (first : ℕ) (old new : Known)
    (octets : Option (List ℕ)) (fed : Fed) → IsFed (IsGivenShared g opening) first old new octets fed → new.whole ≡ true
    → IsInSteps first old.steps new.steps octets fed
fed_steps g opening first old new octets fed is whole = record {
  passed = is.passed;
  most_passed = is.most_passed;
  messages = is.messages;
  count = is.count;
  rest = is.rest;
  read = is.front;
  steps = subst (λ (l : List (List ℕ)). HasSteps old.steps new.steps l) is.taken.messages_are
      (given_steps g opening old new is.taken.given is.taken.run whole).1;
}

-- ---- datagrams

pub collected_steps : {D S X : Type 0} (g : Ghosts D S X) (opening : Shelf) (is_socket : Bool) (old new : Known)
    (octets : Option (List ℕ)) (collected : Collected)
    → AreReadFrom (IsGivenShared g opening) is_socket old new octets collected → new.whole ≡ true
    → AreInSteps g opening is_socket old new octets collected
collected_steps g opening is_socket old new octets collected read whole = record {
  read = read;
  steps = subst (λ (l : List (List ℕ)). HasSteps old.steps new.steps l) read.1.taken.messages_are
      (given_steps g opening old new read.1.taken.given read.1.taken.run whole).1;
}

-- ---- up to where feeding is asked to end

pub until_steps : {D S X : Type 0} (g : Ghosts D S X) (opening : Shelf) (asked : Type 0) (is_socket : Bool)
    (old new : Known) (octets left : Option (List ℕ)) (collected : Collected)
    → AreReadUntil (IsGivenShared g opening) asked is_socket old new octets left collected → new.whole ≡ true
    → AreStepsUntil g opening asked is_socket old new octets left collected
until_steps g opening asked is_socket old new octets left collected read whole = record {
  read = read;
  steps = subst (λ (l : List (List ℕ)). HasSteps old.steps new.steps l) read.collected_are.taken.messages_are
      (given_steps g opening old new read.collected_are.taken.given read.collected_are.taken.run whole).1;
}

-- the octets of a File that is read to its end
whole_given : (given octets : List ℕ) (rest : Option (List ℕ)) → Consumes (Some given) rest octets → IsAtEnd rest
    → given ≡ octets
whole_given given octets None read end = absurd read
whole_given given octets (Some more) read end =
    read ∙ ap (λ (l : List ℕ). octets ++ l) end ∙ append-nil octets

pub fed_until_steps : {D S X : Type 0} (g : Ghosts D S X) (opening : Shelf) (asked : Type 0) (first : ℕ)
    (old new : Known) (octets after : Option (List ℕ)) (fed : Fed)
    → IsFedUntil (IsGivenShared g opening) asked first old new octets after fed → new.whole ≡ true
    → IsInSteps first old.steps new.steps octets fed
fed_until_steps g opening asked first old new octets after fed (inl is) whole =
    fed_steps g opening first old new octets fed is whole
fed_until_steps g opening asked first old new octets after fed (inr (ends, so_far)) whole =
    let is = so_far.fed_given in
    let front = joined (is.passed ++ is.messages) in
    let end : IsAtEnd is.rest =
    subst (λ (o : Option FeedStop). IsEnd (length front) o is.rest) so_far.whole is.ended in
    record {
      passed = is.passed;
      most_passed = is.most_passed;
      messages = is.messages;
      count = is.count;
      rest = after;
      read = subst (λ (l : List ℕ). Consumes octets after l) (whole_given so_far.given front is.rest is.front end)
          so_far.read;
      steps = subst (λ (l : List (List ℕ)). HasSteps old.steps new.steps l) is.taken.messages_are
          (given_steps g opening old new is.taken.given is.taken.run whole).1;
    }
