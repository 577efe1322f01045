-- What a thread knows of the steps of an archive that threads share, and what feeding makes of that.
use Rattle.std.specs.Prelude.{◌≡◌, ◌≢◌, ◌⊎◌, ◌≤◌, ℕ, ◌+◌, Bool, false, List, [], ◌∷◌, ◌++◌, length, Option}
use Rattle.std.specs.Prelude.{Result, Ok, Err, ⊤}
use mathlib.Core.List.{IsPrefix}
use Rattle.std.specs.Io.KnownBytes.{Consumes}
use Rattle.flow_codec.specs.Message.{joined}
use Rattle.flow_disk.specs.declared.disk.Disk.{Ghosts}
use Rattle.flow_model.specs.Changes.{Change}
use Rattle.flow_model.specs.Changes.Change.{added}
use Rattle.flow_model.specs.Shelf.{Shelf}
use Rattle.flow_archive.specs.declared.refusal.ArchiveError.{ArchiveError}
use Rattle.flow_archive.specs.declared.refusal.ArchiveError.TheVariants.{OutOfMemory}
use Rattle.flow_shared.specs.Known.{IsAppendBy}
use Rattle.flow_shared.specs.Told.{HasAdded}
use Rattle.flow_shared.specs.UnderLock.{LockState}
use Rattle.flow_feed.specs.declared.batch.Fed.{Fed}
use Rattle.flow_feed.specs.Feed.{in_order}

-- the steps that a thread knows, and whether they have the step of each batch that it was acknowledged
pub record Known : Type 0 where
  pub steps : List Change
  pub whole : Bool

abbrev pub known : List Change → Bool → Known
known steps whole = record { steps = steps; whole = whole }

-- ---- an append

-- The messages are the archive's, and a step isn't made yet.
pub record IsLate {D S X : Type 0} (g : Ghosts D S X) (opening : Shelf) (knew knows : List Change)
    (messages : List (List ℕ)) (position : ℕ) : Type 0 where
  pub under : LockState D
  pub append : IsAppendBy g opening knew knows messages (Ok position) under
  pub late : under.backlog ≢ []

-- These messages were refused: by an append under the lock, which answered this; or by want of memory without one, and
-- then no step was learnt.
abbrev pub IsRefusedShared : {D S X : Type 0} → Ghosts D S X → Shelf → List Change → List Change → List (List ℕ)
    → ArchiveError → Type 0
IsRefusedShared {D} g opening knew knows messages error =
    ((under : LockState D) × IsAppendBy g opening knew knows messages (Err error) under)
    ⊎ ((error ≡ OutOfMemory) × (knows ≡ knew))

-- An append under the lock: steps of others and then the one that adds just these messages, unless for want of memory
-- that isn't made yet; where it is refused, steps of others alone, and the refusal is that of the append.
abbrev pub IsGivenShared : {D S X : Type 0} → Ghosts D S X → Shelf → Known → Known → List (List ℕ)
    → Result ℕ ArchiveError → Type 0
IsGivenShared g opening old new messages (Ok position) =
    ((new.whole ≡ old.whole) × HasAdded opening old.steps new.steps messages position)
    ⊎ ((new.whole ≡ false) × IsLate g opening old.steps new.steps messages position)
IsGivenShared g opening old new messages (Err error) =
    (new.whole ≡ old.whole) × IsPrefix old.steps new.steps
    × IsRefusedShared g opening old.steps new.steps messages error

-- ---- a File

-- These batches were added, each by a step of its own, in this order, with steps of others between them.
abbrev pub AreAdded : List (List (List ℕ)) → List Change → Type 0
AreAdded [] steps = ⊤
AreAdded (batch ∷ batches) steps =
    (others : List Change) × (rest : List Change) × (steps ≡ others ++ added batch ∷ rest) × AreAdded batches rest

-- The steps went on, and these messages are, in order, each once, those that some of the new steps add.
pub record HasSteps (old new : List Change) (messages : List (List ℕ)) : Type 0 where
  pub since : List Change
  pub since_is : new ≡ old ++ since
  pub batches : List (List (List ℕ))
  pub batches_are : in_order batches ≡ messages
  pub added : AreAdded batches since

-- A File's reported messages, but for those that are passed over, are in the steps.
pub record IsInSteps (first : ℕ) (old new : List Change) (octets : Option (List ℕ)) (fed : Fed) : Type 0 where
  pub passed : List (List ℕ)
  pub most_passed : length passed ≤ first
  pub messages : List (List ℕ)
  pub count : fed.messages ≡ length passed + length messages
  pub rest : Option (List ℕ)
  pub read : Consumes octets rest (joined (passed ++ messages))
  pub steps : HasSteps old new messages
