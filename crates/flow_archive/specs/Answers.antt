-- What an archive answers to each event.
use Rattle.std.specs.Prelude.{◌≡◌, ◌≢◌, ◌⊎◌, ℕ, ◌+◌, ◌<◌, ◌≤◌, ◌^◌, Bool, true, false, IsTrue, List, [], ◌∷◌, ◌++◌}
use Rattle.std.specs.Prelude.{length, Option, Some, None, Result, Ok, Err}
use Rattle.flow_manifest.specs.Limits.{most_entries, too_many_messages}
use Rattle.flow_codec.specs.declared.error.MessageError.{MessageError}
use Rattle.flow_gate.specs.Gate.{octet_sum}
use Rattle.flow_gate.specs.Scan.{texts}
use Rattle.flow_manifest.specs.declared.following.JobKind.TheVariants.{Roll, Merge}
use Rattle.flow_manifest.specs.declared.manifest.Manifest.{Manifest}
use Rattle.flow_manifest.specs.Following.{active_of, messages_of}
use Rattle.flow_segment.specs.Batch.{AreTaken, IsFirstFault}
use Rattle.flow_segment.specs.Carry.{Carry, prefix_of}
use Rattle.flow_model.specs.State.{Job, Part, StagedFile, State, appended, after_seal}
use Rattle.flow_model.specs.Chain.{IsSegment}
use Rattle.flow_archive.specs.declared.event.Answer.{Answer}
use Rattle.flow_archive.specs.declared.event.Answer.TheVariants.{Position, Sealed, Began, Left, Written, Dropped}
use Rattle.flow_archive.specs.declared.event.Answer.TheVariants.{Retired}
use Rattle.flow_archive.specs.declared.event.Event.{Event}
use Rattle.flow_archive.specs.declared.event.Event.TheVariants.{Append, AppendBatch, Seal, RollBegin, MergeBegin}
use Rattle.flow_archive.specs.declared.event.Event.TheVariants.{RollStep, RollWrite, RollInstall, RollDrop, Retire}
use Rattle.flow_archive.specs.declared.refusal.ArchiveError.{ArchiveError}
use Rattle.flow_archive.specs.declared.refusal.ArchiveError.TheVariants.{Message, OutOfMemory, NumbersSpent, Fault}
use Rattle.flow_archive.specs.declared.refusal.ArchiveError.TheVariants.{NoRoom, ManifestFull, NothingToSeal, Closed}
use Rattle.flow_archive.specs.JobAnswers.{begun, dropped, AnswersBegin, AnswersDrop, AnswersInstall, AnswersRetire}
use Rattle.flow_archive.specs.JobAnswers.{AnswersStep, AnswersWrite, IsInstalled, IsRetired, IsStepped, IsWritten}

-- ---- messages that are not admitted

-- Why these octets aren't admitted after a carry, with room for so many octets, and numbers for so many messages: the
-- first of the refusals 1 to 10, 40, 25 that holds, or 11.
abbrev pub IsNotAdmitted : List (List ℕ) → Carry → ℕ → ℕ → ArchiveError → Type 0
IsNotAdmitted octets carry room positions (Message fault) = IsFirstFault octets carry.templates fault
IsNotAdmitted octets carry room positions NoRoom =
    ((new : Carry) × AreTaken octets carry new) × (room < octet_sum octets)
IsNotAdmitted octets carry room positions NumbersSpent =
    ((new : Carry) × AreTaken octets carry new) × (octet_sum octets ≤ room) × (positions < length octets)
IsNotAdmitted octets carry room positions OutOfMemory = Unit {0}
IsNotAdmitted octets carry room positions e = ⊥

-- ---- numbers

-- how many messages an archive has, rolled and kept: the number of the last one
abbrev pub archive_position : State → ℕ
archive_position s = messages_of s.manifest.entries + length s.active.messages

-- so many octets more are within the limit of the active segment
abbrev pub HasRoom : State → ℕ → Type 0
HasRoom s octets = octet_sum s.active.messages + octets ≤ s.manifest.limit

-- and so many messages within that of all
abbrev pub HasPositions : State → ℕ → Type 0
HasPositions s count = archive_position s + count < too_many_messages

-- a file that is staged will take a generation
abbrev pub staged_generations : Option StagedFile → ℕ
staged_generations None = 0
staged_generations (Some staged) = 1

abbrev pub job_generations : Option Job → ℕ
job_generations None = 0
job_generations (Some job) = staged_generations job.staged

-- There is a number for the next file and one for the next manifest, and the one that a staged file will take.
abbrev pub HasNumbers : State → Type 0
HasNumbers s = (s.next + 1 < 2 ^ 64) × (s.manifest.generation + 1 + job_generations s.job < 2 ^ 64)

-- ---- an append

-- the messages are accepted after those of the active segment,
abbrev pub AreAccepted : State → List (List ℕ) → Type 0
AreAccepted s octets = (old : Carry) × (new : Carry) × IsSegment s.active old × AreTaken octets old new

-- or one of them is the first that isn't
abbrev pub IsRefused : State → List (List ℕ) → MessageError → Type 0
IsRefused s octets fault = (carry : Carry) × IsSegment s.active carry × IsFirstFault octets carry.templates fault

-- nothing speaks against an append
pub record MayAppend (s : State) (octets : List (List ℕ)) : Type 0 where
  pub accepted : AreAccepted s octets
  pub room : HasRoom s (octet_sum octets)
  pub positions : HasPositions s (length octets)

-- The position of the last message; or the first of the refusals 49, 1 to 10, 40, 25 that holds. In place of any but
-- 49 it may be 11, in place of an Ok 30.
abbrev pub AnswersAppend : Bool → State → List (List ℕ) → Result ℕ ArchiveError → State → Type 0
AnswersAppend closed s octets (Ok position) after =
    (closed ≡ false) × MayAppend s octets × (after ≡ appended s octets) × (position ≡ archive_position after)
AnswersAppend closed s octets (Err Closed) after = (closed ≡ true) × (after ≡ s)
AnswersAppend closed s octets (Err (Message fault)) after =
    (closed ≡ false) × IsRefused s octets fault × (after ≡ s)
AnswersAppend closed s octets (Err NoRoom) after =
    (closed ≡ false) × AreAccepted s octets × (HasRoom s (octet_sum octets) → ⊥) × (after ≡ s)
AnswersAppend closed s octets (Err NumbersSpent) after =
    (closed ≡ false) × AreAccepted s octets × HasRoom s (octet_sum octets) × (HasPositions s (length octets) → ⊥)
    × (after ≡ s)
AnswersAppend closed s octets (Err OutOfMemory) after = (closed ≡ false) × (after ≡ s)
AnswersAppend closed s octets (Err Fault) after = (closed ≡ false) × MayAppend s octets × (after ≡ s)
AnswersAppend closed s octets other after = ⊥

-- ---- a seal

-- The active segment is sealed, and a new one has the prefix that it determines. On a disk that isn't honest the sealed
-- file may hold anything.
abbrev pub IsSealed : Bool → State → State → Type 0
IsSealed honest s after =
    (carry : Carry) × (sealed : Part) × IsSegment s.active carry × (IsTrue honest → sealed ≡ s.active)
    × (after ≡ record (after_seal s (prefix_of carry)) { parts = s.parts ++ sealed ∷ [] })

-- Nothing speaks against a seal: of a manifest, the count of its active segment's messages, the next file's number, and
-- the generations that are kept for a staged file.
pub record MayBeSealed (m : Manifest) (count file kept : ℕ) : Type 0 where
  pub some : 1 ≤ count
  pub few : length m.entries < most_entries
  pub next : file + 1 < 2 ^ 64
  pub generation : m.generation + 1 + kept < 2 ^ 64

-- Why no manifest follows: the first of the refusals 42, 41, 25 that holds, or 11.
abbrev pub IsNotSealed : Manifest → ℕ → ℕ → ℕ → ArchiveError → Type 0
IsNotSealed m count file kept NothingToSeal = count ≡ 0
IsNotSealed m count file kept ManifestFull = (1 ≤ count) × (most_entries ≤ length m.entries)
IsNotSealed m count file kept NumbersSpent =
    (1 ≤ count) × (length m.entries < most_entries) × ((2 ^ 64 ≤ file + 1) ⊎ (2 ^ 64 ≤ m.generation + 1 + kept))
IsNotSealed m count file kept OutOfMemory = Unit {0}
IsNotSealed m count file kept e = ⊥

-- nothing speaks against a seal
pub record MaySeal (s : State) : Type 0 where
  pub some : s.active.messages ≢ []
  pub few : length s.manifest.entries < most_entries
  pub numbers : HasNumbers s

-- The sealed file's number; or the first of the refusals 49, 42, 41, 25 that holds. In place of any but 49 it may be
-- 11, in place of an Ok 30.
abbrev pub AnswersSeal : Bool → Bool → State → Result ℕ ArchiveError → State → Type 0
AnswersSeal honest closed s (Ok file) after =
    (closed ≡ false) × MaySeal s × IsSealed honest s after × (file ≡ (active_of s.manifest).file)
AnswersSeal honest closed s (Err Closed) after = (closed ≡ true) × (after ≡ s)
AnswersSeal honest closed s (Err NothingToSeal) after =
    (closed ≡ false) × (s.active.messages ≡ []) × (after ≡ s)
AnswersSeal honest closed s (Err ManifestFull) after =
    (closed ≡ false) × (s.active.messages ≢ []) × (most_entries ≤ length s.manifest.entries) × (after ≡ s)
AnswersSeal honest closed s (Err NumbersSpent) after =
    (closed ≡ false) × (s.active.messages ≢ []) × (length s.manifest.entries < most_entries) × (HasNumbers s → ⊥)
    × (after ≡ s)
AnswersSeal honest closed s (Err OutOfMemory) after = (closed ≡ false) × (after ≡ s)
AnswersSeal honest closed s (Err Fault) after = (closed ≡ false) × MaySeal s × (after ≡ s)
AnswersSeal honest closed s other after = ⊥

-- ---- events

-- what an accepted event makes of a state
abbrev pub Takes : Bool → State → Event → State → Type 0
Takes honest s (Append message) after = after ≡ appended s (message.items ∷ [])
Takes honest s (AppendBatch messages) after = after ≡ appended s (texts messages.items)
Takes honest s Seal after = IsSealed honest s after
Takes honest s (RollBegin count) after = after ≡ begun s Roll count
Takes honest s (MergeBegin count) after = after ≡ begun s Merge count
Takes honest s RollStep after = IsStepped s after
Takes honest s RollWrite after = IsWritten honest s after
Takes honest s RollInstall after = IsInstalled honest s after
Takes honest s RollDrop after = after ≡ dropped s
Takes honest s Retire after = (file : ℕ) × IsRetired s file after

-- what a call gave, as the answer of an event
abbrev pub told_as : {X : Type 0} → (X → Answer) → Result X ArchiveError → Result Answer ArchiveError
told_as answer (Ok x) = Ok (answer x)
told_as answer (Err e) = Err e

-- Of an archive on an honest disk or not, closed or not, and in this state: this event, its answer, and the state
-- after it.
abbrev pub Answers : Bool → Bool → State → Event → Result Answer ArchiveError → State → Type 0
Answers honest closed s (Append message) answer after =
    (position : Result ℕ ArchiveError) × (answer ≡ told_as Position position)
    × AnswersAppend closed s (message.items ∷ []) position after
Answers honest closed s (AppendBatch messages) answer after =
    (position : Result ℕ ArchiveError) × (answer ≡ told_as Position position)
    × AnswersAppend closed s (texts messages.items) position after
Answers honest closed s Seal answer after =
    (file : Result ℕ ArchiveError) × (answer ≡ told_as Sealed file) × AnswersSeal honest closed s file after
Answers honest closed s (RollBegin count) answer after =
    (done : Result (Unit {0}) ArchiveError) × (answer ≡ told_as (λ _. Began) done)
    × AnswersBegin closed s Roll count done after
Answers honest closed s (MergeBegin count) answer after =
    (done : Result (Unit {0}) ArchiveError) × (answer ≡ told_as (λ _. Began) done)
    × AnswersBegin closed s Merge count done after
Answers honest closed s RollStep answer after =
    (left : Result ℕ ArchiveError) × (answer ≡ told_as Left left) × AnswersStep honest closed s left after
Answers honest closed s RollWrite answer after =
    (done : Result (Unit {0}) ArchiveError) × (answer ≡ told_as (λ _. Written) done)
    × AnswersWrite honest closed s done after
Answers honest closed s RollInstall answer after = AnswersInstall honest closed s answer after
Answers honest closed s RollDrop answer after =
    (done : Result (Unit {0}) ArchiveError) × (answer ≡ told_as (λ _. Dropped) done) × AnswersDrop closed s done after
Answers honest closed s Retire answer after =
    (file : Result ℕ ArchiveError) × (answer ≡ told_as Retired file) × AnswersRetire closed s file after
