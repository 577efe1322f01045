-- A File into an archive.
use Rattle.std.specs.Prelude.{◌≡◌, ◌≤◌, ◌<◌, ℕ, ◌+◌, Bool, true, false, List, [], ◌∷◌, ◌++◌, flat_map, All, length}
use Rattle.std.specs.Prelude.{Option}
use Rattle.std.specs.Prelude.{Some, None, Result, ⊤}
use Rattle.std.specs.Io.KnownBytes.{Consumes, IsAtEnd}
use Rattle.flow_codec.specs.declared.stream.StreamError.TheVariants as stream
use Rattle.flow_codec.specs.Cutting.{IsCutOff}
use Rattle.flow_codec.specs.Message.{joined}
use Rattle.flow_codec.specs.Stream.{Progress, IsFaultNext, IsMessageNext}
use Rattle.flow_archive.specs.declared.refusal.ArchiveError.{ArchiveError}
use Rattle.flow_feed.specs.declared.batch.Fed.{Fed}
use Rattle.flow_feed.specs.declared.batch.FeedStop.{FeedStop}
use Rattle.flow_feed.specs.declared.batch.FeedStop.TheVariants.{File, Archive, OutOfMemory, Unopened, Unreceived}
use Rattle.flow_feed.specs.Given.{AreGivenInTurn, HasTaken}

-- What follows the messages that are taken in, up to this place of the File: nothing, where the File is taken in
-- whole; a fault of the File; or a message that isn't taken.
abbrev pub IsEnd : ℕ → Option FeedStop → Option (List ℕ) → Type 0
IsEnd place None rest = IsAtEnd rest
IsEnd place (Some (File (stream.File fault))) rest = IsFaultNext place rest fault
IsEnd place (Some (File (stream.Read failed))) rest = ⊤
IsEnd place (Some (File stream.NumbersSpent)) rest = IsMessageNext rest
IsEnd place (Some (Archive error)) rest = IsMessageNext rest
IsEnd place (Some OutOfMemory) rest = ⊤
IsEnd place (Some Unopened) rest = ⊥
IsEnd place (Some (Unreceived failed)) rest = ⊤

-- a stop that reading a File by itself may have: it is open, and no datagram is received
abbrev pub IsOfFile : Option FeedStop → Type 0
IsOfFile None = ⊤
IsOfFile (Some (File error)) = ⊤
IsOfFile (Some (Archive error)) = ⊤
IsOfFile (Some OutOfMemory) = ⊤
IsOfFile (Some Unopened) = ⊥
IsOfFile (Some (Unreceived failed)) = ⊥

-- the refusal of the archive that a File stopped by
abbrev pub refusal_in : Option FeedStop → Option ArchiveError
refusal_in None = None
refusal_in (Some (File error)) = None
refusal_in (Some (Archive error)) = Some error
refusal_in (Some OutOfMemory) = None
refusal_in (Some Unopened) = None
refusal_in (Some (Unreceived failed)) = None

-- ---- messages that are read together

-- These messages were read, one after the other; more follow them, or the File is read to its end, or up to where it
-- stops. `rest` are the octets after the messages.
pub record AreRead (old : Progress) (messages : List (List ℕ)) (is_last : Bool) (stop : Option FeedStop)
    (new : Progress) : Type 0 where
  pub all : All IsCutOff messages
  pub rest : Option (List ℕ)
  pub front : Consumes old.rest rest (joined messages)
  pub refused : refusal_in stop ≡ None
  pub more : is_last ≡ false → (rest ≡ new.rest) × (new.stopped ≡ None)
      × (new.at ≡ old.at + length (joined messages)) × (new.count ≡ old.count + length messages)
  pub ended : is_last ≡ true → IsEnd (old.at + length (joined messages)) stop rest

-- ---- a whole File

-- messages that were read together, as a batch to give: none where there are none
abbrev pub batch_of : List (List ℕ) → List (List (List ℕ))
batch_of [] = []
batch_of (message ∷ messages) = (message ∷ messages) ∷ []

-- the messages of batches, in their order
abbrev pub in_order : List (List (List ℕ)) → List (List ℕ)
in_order batches = flat_map (λ (batch : List (List ℕ)). batch) batches

-- The first messages of a File are read, so many, or all that it has, and are not given to anybody: it ended so.
abbrev pub ArePassed : ℕ → Progress → Progress → Option Fed → Type 0
ArePassed first old new None = (passed : List (List ℕ)) × (length passed ≡ first) × AreRead old passed false None new
ArePassed first old new (Some fed) =
    (passed : List (List ℕ)) × (length passed ≤ first) × AreRead old passed true fed.stop new
    × (fed.messages ≡ old.count + length passed)

-- The messages of the File after the first `first` ones are acknowledged, up to where it stopped, in their order, each
-- once, and no other; `fed` reports how many messages of the File were passed and acknowledged; and what follows them
-- is why there aren't more. They were given in batches of 1 to 64, which are the File's next messages each time; some
-- of the last batch may be left. `appends` says what each batch made of the appender.
pub record IsFed {S : Type 0} (appends : S → S → List (List ℕ) → Result ℕ ArchiveError → Type 0) (first : ℕ)
    (old new : S) (octets : Option (List ℕ)) (fed : Fed) : Type 0 where
  pub passed : List (List ℕ)
  pub most_passed : length passed ≤ first
  pub batches : List (List (List ℕ))
  pub all_passed : 0 < length batches → length passed ≡ first
  pub few : All (λ (batch : List (List ℕ)). (1 ≤ length batch) × (length batch ≤ 64)) batches
  pub messages : List (List ℕ)
  pub taken : HasTaken appends (AreGivenInTurn batches) old new messages (refusal_in fed.stop)
  pub left : List (List ℕ)
  pub batches_are : in_order batches ≡ messages ++ left
  pub count : fed.messages ≡ length passed + length messages
  pub all : All IsCutOff ((passed ++ messages) ++ left)
  pub rest : Option (List ℕ)
  pub front : Consumes octets rest (joined (passed ++ messages))
  pub read : (after : Option (List ℕ)) × Consumes rest after (joined left)
  pub ended : IsEnd (length (joined (passed ++ messages))) fed.stop rest
