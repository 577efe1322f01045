-- An input that is read so that feeding can end between two of its messages.
use Rattle.std.specs.Prelude.{◌≡◌, ℕ, ◌<◌, ◌≤◌, Bool, true, false, List, [], ◌++◌, length, take, slice_range, Option}
use Rattle.std.specs.Prelude.{None, Some, Result, Ok, Err}
use Rattle.std.specs.Io.KnownBytes.{Consumes, IsAtEnd, Keeps, prepend_known}
use Rattle.flow_codec.specs.Cutting.{IsCutOff}
use Rattle.flow_codec.specs.Stream.{Progress}
use Rattle.flow_feed.specs.declared.batch.FeedStop.{FeedStop}
use Rattle.flow_feed.specs.declared.datagrams.ReceiveFailed.{ReceiveFailed}
use Rattle.flow_feed.specs.declared.whole.WholeReader.{WholeReader}
use Rattle.flow_feed.specs.Feed.{refusal_in, IsEnd}

-- the octets that were read and not yet taken
abbrev pub ahead : WholeReader → List ℕ
ahead reader = slice_range reader.octets.items reader.start reader.end

-- how far an input was taken: it has these octets left, where they are known
abbrev pub reached : WholeReader → Option (List ℕ) → Progress
reached reader left = record {
  rest = prepend_known (ahead reader) left;
  message = [];
  count = reader.count;
  at = reader.at;
  stopped = None;
}

-- no message more was taken
abbrev pub IsSamePlace : WholeReader → WholeReader → Type 0
IsSamePlace old new = (new.count ≡ old.count) × (new.at ≡ old.at)

-- Octets are read after those that are held, or the input is at its end, or reading failed.
abbrev pub IsMoreRead : List ℕ → Option (List ℕ) → Result Bool ReceiveFailed → List ℕ → Option (List ℕ) → Type 0
IsMoreRead old left (Ok true) new after =
    (read : List ℕ) × (0 < length read) × (new ≡ old ++ read) × Consumes left after read
IsMoreRead old left (Ok false) new after = (new ≡ old) × IsAtEnd left × IsAtEnd after
IsMoreRead old left (Err failed) new after = (new ≡ old) × Keeps left after

-- The held octets begin with a whole message of this length; or no octet follows; or why no message is read. `old` and
-- `new` are the next octets before and after that, where they are known; the first of them has the place `at`.
abbrev pub IsNextFound : ℕ → Option (List ℕ) → Result (Option ℕ) FeedStop → List ℕ → Option (List ℕ) → Type 0
IsNextFound at old (Ok (Some n)) held new = (n ≤ length held) × IsCutOff (take n held) × Keeps old new
IsNextFound at old (Ok None) held new = IsAtEnd old
IsNextFound at old (Err stop) held new = IsEnd at (Some stop) old × (refusal_in (Some stop) ≡ None)
