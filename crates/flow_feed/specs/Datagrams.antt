-- Datagrams into an archive: each is one message, or is passed over.
use Rattle.std.specs.Prelude.{◌≡◌, ◌≢◌, ℕ, ◌+◌, ◌-◌, ◌≤◌, ◌<◌, ◌^◌, Bool, true, false, min, List, [], ◌∷◌, ◌++◌}
use Rattle.std.specs.Prelude.{length, take, filter, get_or, nat_eq}
use Rattle.std.specs.Prelude.{Option, Some, None, Result, Ok, Err}
use Rattle.std.specs.Io.KnownBytes.{Consumes, IsAtEnd, Keeps}
use Rattle.flow_disk.specs.declared.disk.Disk.{Ghosts}
use Rattle.flow_refusals.specs.Table.{row_of}
use Rattle.flow_codec.specs.declared.error.MessageError.{MessageError}
use Rattle.flow_codec.specs.declared.error.MessageError.TheVariants as message
use Rattle.flow_codec.specs.declared.stream.StreamError.TheVariants as stream
use Rattle.flow_codec.specs.Printed.{message_code}
use Rattle.flow_model.specs.Shelf.{Shelf}
use Rattle.flow_archive.specs.declared.refusal.ArchiveError.{ArchiveError}
use Rattle.flow_archive.specs.declared.refusal.ArchiveError.TheVariants as archive
use Rattle.flow_feed.specs.declared.batch.FeedStop.{FeedStop}
use Rattle.flow_feed.specs.declared.batch.FeedStop.TheVariants.{File, Archive, OutOfMemory, Unopened, Unreceived}
use Rattle.flow_feed.specs.declared.collecting.Collected.{Collected}
use Rattle.flow_feed.specs.declared.collecting.Tally.{Tally}
use Rattle.flow_feed.specs.declared.datagrams.ReceiveFailed.{ReceiveFailed}
use Rattle.flow_feed.specs.Feed.{refusal_in}
use Rattle.flow_feed.specs.Given.{Given, HasTaken}
use Rattle.flow_feed.specs.Shared.{HasSteps, IsGivenShared, Known}

-- ---- what is received

-- A datagram was received into the first octets of a buffer, or no more come, or receiving failed.
abbrev pub IsReceived : {T : Type 0} → (T → T → List ℕ → Type 0) → (T → T → Type 0) → (T → T → Type 0) → T → T
    → Result (Option ℕ) ReceiveFailed → List ℕ → Type 0
IsReceived gives ends fails old new (Ok (Some n)) buffer = gives old new (take n buffer)
IsReceived gives ends fails old new (Ok None) buffer = ends old new
IsReceived gives ends fails old new (Err failed) buffer = fails old new

-- from one to the other these datagrams were received, one after the other
abbrev pub AreReceived : {T : Type 0} → (T → T → List ℕ → Type 0) → T → T → List (List ℕ) → Type 0
AreReceived gives old new [] = new ≡ old
AreReceived {T} gives old new (datagram ∷ datagrams) =
    (mid : T) × gives old mid datagram × AreReceived gives mid new datagrams

-- ---- which are accepted

-- the fault of a datagram that isn't accepted, where that is why the archive refuses it
abbrev pub fault_in : ArchiveError → Option MessageError
fault_in (archive.Message message.OutOfMemory) = None
fault_in (archive.Message fault) = Some fault
fault_in error = None

-- what is given after a datagram that was refused: the others, where it isn't accepted; else nothing
abbrev pub AfterFault : Option MessageError → ArchiveError → Type 0 → List Given → Option ArchiveError → Type 0
AfterFault (Some fault) error others given stop = others
AfterFault None error others given stop = (given ≡ []) × (stop ≡ Some error)

abbrev pub AfterDatagram : Result ℕ ArchiveError → Type 0 → List Given → Option ArchiveError → Type 0
AfterDatagram (Ok position) others given stop = others
AfterDatagram (Err error) others given stop = AfterFault (fault_in error) error others given stop

-- Datagrams that are given one after the other, each by itself, whether those before it were accepted or not; up to
-- the first that is refused for another reason than its fault.
abbrev pub AreGivenEach : List (List ℕ) → List Given → Option ArchiveError → Type 0
AreGivenEach [] given stop = (given ≡ []) × (stop ≡ None)
AreGivenEach (datagram ∷ datagrams) [] stop = ⊥
AreGivenEach (datagram ∷ datagrams) (one ∷ given) stop =
    (one.messages ≡ datagram ∷ []) × AfterDatagram one.answer (AreGivenEach datagrams given stop) given stop

-- ---- how many aren't

abbrev pub listed : Option MessageError → List MessageError
listed None = []
listed (Some fault) = fault ∷ []

abbrev pub fault_of : Result ℕ ArchiveError → List MessageError
fault_of (Ok position) = []
fault_of (Err error) = listed (fault_in error)

-- the faults of those that aren't accepted, in order
abbrev pub faults_of : List Given → List MessageError
faults_of [] = []
faults_of (one ∷ given) = fault_of one.answer ++ faults_of given

abbrev pub number_of : MessageError → ℕ
number_of fault = (row_of (message_code fault)).number

-- how many faults have this number
abbrev pub times : ℕ → List MessageError → ℕ
times number faults = length (filter (λ fault. nat_eq (number_of fault) number) faults)

-- how many faults there are of each number up to 10
abbrev pub AreCounts : List ℕ → List MessageError → Type 0
AreCounts counts faults = (number : ℕ) → number ≤ 10 → get_or counts number 0 ≡ times number faults

abbrev pub AreNone : List ℕ → Type 0
AreNone counts = (number : ℕ) → get_or counts number 0 ≡ 0

-- a count, where this is one more of it; it stops at 2^64 - 1
abbrev pub count_with : Bool → ℕ → ℕ
count_with true count = min (count + 1) 18446744073709551615
count_with false count = count

-- one more has this fault
abbrev pub IsOneMore : MessageError → List ℕ → List ℕ → Type 0
IsOneMore fault old new =
    (number : ℕ) → number ≤ 10
    → get_or new number 0 ≡ count_with (nat_eq (number_of fault) number) (get_or old number 0)

-- one more was taken in, or isn't accepted for this fault
abbrev pub IsNoted : Option MessageError → Tally → Tally → Type 0
IsNoted None old new = (new.messages ≡ count_with true old.messages) × (new.refused ≡ old.refused)
IsNoted (Some fault) old new = (new.messages ≡ old.messages) × IsOneMore fault old.refused.counts new.refused.counts

-- A datagram was given by itself: it is taken in, it isn't accepted for this fault, or it was refused for another
-- reason.
abbrev pub IsTaken : {S : Type 0} → (S → S → List (List ℕ) → Result ℕ ArchiveError → Type 0) → S → S → List ℕ
    → Result (Option MessageError) ArchiveError → Type 0
IsTaken appends old new datagram (Ok None) = (position : ℕ) × appends old new (datagram ∷ []) (Ok position)
IsTaken appends old new datagram (Ok (Some fault)) =
    (error : ArchiveError) × (fault_in error ≡ Some fault) × appends old new (datagram ∷ []) (Err error)
IsTaken appends old new datagram (Err error) =
    (fault_in error ≡ None) × appends old new (datagram ∷ []) (Err error)

-- ---- a stream

-- Why no more are received, after so many: none come; receiving failed; the archive refused the last one for another
-- reason than its fault; there was no memory to receive any; or their count is spent.
abbrev pub IsLast : {T : Type 0} → (T → T → Type 0) → (T → T → Type 0) → T → T → ℕ → Option FeedStop → Type 0
IsLast ends fails old new count None = ends old new
IsLast ends fails old new count (Some (Unreceived failed)) = fails old new
IsLast ends fails old new count (Some (Archive error)) = new ≡ old
IsLast ends fails old new count (Some OutOfMemory) = (count ≡ 0) × (new ≡ old)
IsLast ends fails old new count (Some (File (stream.File fault))) = ⊥
IsLast ends fails old new count (Some (File (stream.Read failed))) = ⊥
IsLast ends fails old new count (Some (File stream.NumbersSpent)) = (count ≡ 2 ^ 64 - 1) × (new ≡ old)
IsLast ends fails old new count (Some Unopened) = ⊥

-- All datagrams that were received were given, in their order, each by itself: the messages that are taken in are
-- those that are accepted after those before them. As many are reported as are taken in, and as many by each number
-- as have a fault of that number; and why no more were received.
pub record AreCollected {S T : Type 0} (appends : S → S → List (List ℕ) → Result ℕ ArchiveError → Type 0)
    (gives : T → T → List ℕ → Type 0) (ends fails : T → T → Type 0) (old new : S) (before after : T)
    (collected : Collected) : Type 0 where
  pub datagrams : List (List ℕ)
  pub last : T
  pub received : AreReceived gives before last datagrams
  pub messages : List (List ℕ)
  pub taken : HasTaken appends (AreGivenEach datagrams) old new messages (refusal_in collected.fed.stop)
  pub count : collected.fed.messages ≡ length messages
  pub refused : AreCounts collected.refused.counts (faults_of taken.given)
  pub ended : IsLast ends fails last after (length datagrams) collected.fed.stop

-- ---- an input whose reads give datagrams

-- An input: the octets that are left, where they are known; how many of the last reads gave nothing, and how many in a
-- row are taken for empty datagrams.
pub record Reading : Type 0 where
  pub rest : Option (List ℕ)
  pub empty : ℕ
  pub most_empty : ℕ

abbrev pub reading : Option (List ℕ) → ℕ → ℕ → Reading
reading rest empty most_empty = record { rest = rest; empty = empty; most_empty = most_empty }

-- A read gave this datagram. An empty one is one where fewer than `most_empty` came before it in a row.
pub record IsRead (old new : Reading) (datagram : List ℕ) : Type 0 where
  pub octets : Consumes old.rest new.rest datagram
  pub none : datagram ≡ [] → (old.empty < old.most_empty) × (new.empty ≡ old.empty + 1)
  pub some : datagram ≢ [] → new.empty ≡ 0
  pub most : new.most_empty ≡ old.most_empty

-- A read gave nothing, and so did as many before it as may be empty datagrams: no octet that is known is left.
pub record IsOver (old new : Reading) : Type 0 where
  pub empty : old.most_empty ≤ old.empty
  pub old_end : IsAtEnd old.rest
  pub new_end : IsAtEnd new.rest

-- A read failed: no octet is lost by it.
abbrev pub IsUnread : Reading → Reading → Type 0
IsUnread old new = Keeps old.rest new.rest

-- Of a socket a read that gives nothing is an empty datagram, but after so many in a row; of a file or a pipe it is the
-- end.
abbrev pub most_empty_of : Bool → ℕ
most_empty_of true = 1000000000
most_empty_of false = 0

-- an input of which nothing is read yet
abbrev pub unread : Bool → Option (List ℕ) → Reading
unread is_socket octets = reading octets 0 (most_empty_of is_socket)

-- The datagrams are those that reads of an input gave, from these octets on, where they are known.
abbrev pub AreReadFrom : {S : Type 0} → (S → S → List (List ℕ) → Result ℕ ArchiveError → Type 0) → Bool → S → S
    → Option (List ℕ) → Collected → Type 0
AreReadFrom appends is_socket old new octets collected =
    (after : Reading)
    × AreCollected appends IsRead IsOver IsUnread old new (unread is_socket octets) after collected

-- Into an archive that threads share: the messages that are taken in, which are the datagrams that are accepted after
-- those before them, are in the steps.
pub record AreInSteps {D S X : Type 0} (g : Ghosts D S X) (opening : Shelf) (is_socket : Bool) (old new : Known)
    (octets : Option (List ℕ)) (collected : Collected) : Type 0 where
  pub read : AreReadFrom (IsGivenShared g opening) is_socket old new octets collected
  pub steps : HasSteps old.steps new.steps read.1.messages
