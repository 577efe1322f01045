-- Batches of messages that an appender was given, and what it took of them.
use Rattle.std.specs.Prelude.{◌≡◌, ℕ, ◌<◌, nat_lt, Bool, true, false, ◌&&◌, List, [], ◌∷◌, ◌++◌, length, Option, Some}
use Rattle.std.specs.Prelude.{None, Result, Ok, Err, IfErr}
use Rattle.flow_disk.specs.declared.disk.Disk.{Ghosts}
use Rattle.flow_disk.specs.Cause.{HasCause}
use Rattle.flow_gate.specs.Gate.{octet_sum}
use Rattle.flow_model.specs.Changes.{Change}
use Rattle.flow_archive.specs.declared.refusal.ArchiveError.{ArchiveError}
use Rattle.flow_archive.specs.declared.refusal.ArchiveError.TheVariants.{Fault, NoRoom}
use Rattle.flow_archive.specs.declared.refusal.ArchiveError.TheVariants as archive
use Rattle.flow_shared.specs.Calls.{Appends}
use Rattle.flow_shared.specs.UnderLock.{all_of, LockState}

-- a batch, and what was answered: the number of its last message, or why none of it is taken
pub record Given : Type 0 where
  pub messages : List (List ℕ)
  pub answer : Result ℕ ArchiveError

-- These batches were given, one after the other. `appends` says what each made of the appender.
abbrev pub AreGiven : {S : Type 0} → (S → S → List (List ℕ) → Result ℕ ArchiveError → Type 0) → S → S → List Given
    → Type 0
AreGiven appends old new [] = new ≡ old
AreGiven {S} appends old new (batch ∷ batches) =
    (mid : S) × appends old mid batch.messages batch.answer × AreGiven appends mid new batches

-- the messages that were acknowledged, in their order
abbrev pub acknowledged_in : List (List ℕ) → Result ℕ ArchiveError → List (List ℕ)
acknowledged_in messages (Ok position) = messages
acknowledged_in messages (Err error) = []

abbrev pub acknowledged : List Given → List (List ℕ)
acknowledged [] = []
acknowledged (batch ∷ batches) = acknowledged_in batch.messages batch.answer ++ acknowledged batches

-- ---- how messages are given

-- a refusal of a batch by what its messages are, so that some of them may be taken all the same
abbrev pub is_of_messages : ArchiveError → Bool
is_of_messages (archive.Message fault) = true
is_of_messages archive.NumbersSpent = true
is_of_messages archive.NoRoom = true
is_of_messages archive.ManifestFull = true
is_of_messages archive.OutOfMemory = false
is_of_messages (archive.Damaged number at) = false
is_of_messages archive.NotEmpty = false
is_of_messages archive.Fault = false
is_of_messages archive.SourceFault = false
is_of_messages archive.NothingToSeal = false
is_of_messages archive.RollBusy = false
is_of_messages archive.NoRoll = false
is_of_messages archive.RollCount = false
is_of_messages archive.RollNotDone = false
is_of_messages archive.Pinned = false
is_of_messages archive.NothingToRetire = false
is_of_messages archive.Closed = false

-- what is given after a message that was answered so: the others, or nothing
abbrev pub AfterOne : Result ℕ ArchiveError → Type 0 → List Given → Option ArchiveError → Type 0
AfterOne (Ok position) others given stop = others
AfterOne (Err error) others given stop = (given ≡ []) × (stop ≡ Some error)

-- Messages that are given one by one, up to the first that is refused, which is why no more are.
abbrev pub AreGivenSingly : List (List ℕ) → List Given → Option ArchiveError → Type 0
AreGivenSingly [] given stop = (given ≡ []) × (stop ≡ None)
AreGivenSingly (message ∷ messages) [] stop = ⊥
AreGivenSingly (message ∷ messages) (one ∷ given) stop =
    (one.messages ≡ message ∷ []) × AfterOne one.answer (AreGivenSingly messages given stop) given stop

-- what is given after a batch that was refused: its messages one by one, or nothing
abbrev pub AfterRefused : Bool → List (List ℕ) → ArchiveError → List Given → Option ArchiveError → Type 0
AfterRefused true messages error given stop = AreGivenSingly messages given stop
AfterRefused false messages error given stop = (given ≡ []) × (stop ≡ Some error)

-- what is given after a batch that was answered so: where it has several messages, and is refused by what they are,
-- these one by one; else nothing
abbrev pub AfterBatch : List (List ℕ) → Result ℕ ArchiveError → List Given → Option ArchiveError → Type 0
AfterBatch messages (Ok position) given stop = (given ≡ []) × (stop ≡ None)
AfterBatch messages (Err error) given stop =
    AfterRefused (nat_lt 1 (length messages) && is_of_messages error) messages error given stop

-- messages that are given together
abbrev pub IsGivenTogether : List (List ℕ) → List Given → Option ArchiveError → Type 0
IsGivenTogether messages [] stop = ⊥
IsGivenTogether messages (batch ∷ given) stop =
    (batch.messages ≡ messages) × AfterBatch messages batch.answer given stop

-- what is given after a batch that ended so: the others, or nothing
abbrev pub AfterEnd : Option ArchiveError → Type 0 → Type 0 → Option ArchiveError → Type 0
AfterEnd None others nothing stop = others
AfterEnd (Some error) others nothing stop = nothing × (stop ≡ Some error)

-- Batches that are given one after the other, up to the first of which a message isn't taken.
abbrev pub AreGivenInTurn : List (List (List ℕ)) → List Given → Option ArchiveError → Type 0
AreGivenInTurn [] given stop = (given ≡ []) × (stop ≡ None)
AreGivenInTurn (batch ∷ batches) given stop =
    (own : List Given) × (more : List Given) × (ended : Option ArchiveError) × (given ≡ own ++ more)
    × IsGivenTogether batch own ended
    × AfterEnd ended (AreGivenInTurn batches more stop) ((batches ≡ []) × (more ≡ [])) stop

-- From one to the other the appender was given messages by this plan, and acknowledged these, in this order, and no
-- other. `refused` is why no more were given, if anything is.
pub record HasTaken {S : Type 0} (appends : S → S → List (List ℕ) → Result ℕ ArchiveError → Type 0)
    (plan : List Given → Option ArchiveError → Type 0) (old new : S) (messages : List (List ℕ))
    (refused : Option ArchiveError) : Type 0 where
  pub given : List Given
  pub run : AreGiven appends old new given
  pub planned : plan given refused
  pub messages_are : acknowledged given ≡ messages

-- ---- the value under a lock

-- Messages that the value under the lock was given: what its append makes of the archive, and of the steps that readers
-- are shown. No room is reported only where no segment has room for all of them, and a fault exactly where the device
-- failed.
pub record IsGivenLocked {D S X : Type 0} (g : Ghosts D S X) (old new : LockState D) (messages : List (List ℕ))
    (result : Result ℕ ArchiveError) : Type 0 where
  pub steps : List Change
  pub appends : Appends g old.core new.core messages result steps
  pub steps_are : all_of new ≡ all_of old ++ steps
  pub room : IfErr result (λ e. e ≡ NoRoom → old.core.state.manifest.limit < octet_sum messages)
  pub cause : HasCause Fault (g.faults old.core.disk) (g.faults new.core.disk) result
