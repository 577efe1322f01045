-- Reading a File from a stream: one message after the other, until its end, its first fault, or a read that fails.
use Rattle.std.specs.Prelude.{◌≡◌, ◌⊎◌, ℕ, ◌+◌, ◌-◌, ◌≤◌, ◌<◌, ◌^◌, Bool, true, false, List, [], ◌++◌, length, take}
use Rattle.std.specs.Prelude.{slice_range, Option}
use Rattle.std.specs.Prelude.{None, Some, Result, Ok, Err, IfSome, ⊤}
use Rattle.std.specs.Io.KnownBytes.{Keeps, Consumes, IsAtEnd, prepend_known}
use Rattle.flow_codec.specs.declared.file.FileError.{FileError}
use Rattle.flow_codec.specs.declared.file.FileError.TheVariants.{Cut}
use Rattle.flow_codec.specs.declared.stream.StreamError.{StreamError}
use Rattle.flow_codec.specs.declared.stream.StreamError.TheVariants.{File, Read, NumbersSpent}
use Rattle.flow_codec.specs.declared.patient.ReadFailed.{ReadFailed}
use Rattle.flow_codec.specs.declared.window.Window.{Window}
use Rattle.flow_codec.specs.Cutting.{IsCutOff, IsHeaderRefused, IsFileFault}

-- How far a File was read: the octets that are left, where they are known, the message that is held, the count of
-- messages given and the place after them, and why reading stopped.
pub record Progress : Type 0 where
  pub rest : Option (List ℕ)
  pub message : List ℕ
  pub count : ℕ
  pub at : ℕ
  pub stopped : Option StreamError

-- the next octets, at the place `at`, have this fault; they are the known ones, where they are known
abbrev pub IsFaultNext : ℕ → Option (List ℕ) → FileError → Type 0
IsFaultNext at known fault = (rest : List ℕ) × IsFileFault at rest fault × IfSome known (λ xs. xs ≡ rest)

-- the next octets begin with a whole message
abbrev pub IsMessageNext : Option (List ℕ) → Type 0
IsMessageNext known = (message : List ℕ) × (more : List ℕ) × IsCutOff message
    × IfSome known (λ xs. xs ≡ message ++ more)

-- why reading stops, after `count` messages up to the place `at`
abbrev pub IsStop : ℕ → ℕ → Option (List ℕ) → StreamError → Type 0
IsStop count at known (File fault) = IsFaultNext at known fault
IsStop count at known (Read failed) = ⊤
IsStop count at known NumbersSpent = (count ≡ 2 ^ 48 - 1) × IsMessageNext known

-- One step: the next message is held, or the File is at its end, or reading stopped, now or before.
abbrev pub IsStep : Progress → Result Bool StreamError → Progress → Type 0
IsStep old (Ok true) new =
    (old.stopped ≡ None) × (new.stopped ≡ None) × IsCutOff new.message × Consumes old.rest new.rest new.message
    × (new.count ≡ old.count + 1) × (new.count < 2 ^ 48) × (new.at ≡ old.at + length new.message)
IsStep old (Ok false) new =
    (old.stopped ≡ None) × (new.stopped ≡ None) × (new.message ≡ []) × IsAtEnd old.rest × IsAtEnd new.rest
    × (new.count ≡ old.count) × (new.at ≡ old.at)
IsStep old (Err e) new =
    ((old.stopped ≡ Some e) ⊎ ((old.stopped ≡ None) × IsStop old.count old.at old.rest e))
    × (new.stopped ≡ Some e) × (new.message ≡ []) × (new.count ≡ old.count) × (new.at ≡ old.at)

-- ---- what a reader holds

-- the octets that were read and not yet taken
abbrev pub held : Window → List ℕ
held w = slice_range w.octets.items w.start w.end

-- What a reader of a File holds: the octets read after the message that is held, that message, the count of messages
-- given and the place after them, and why reading stopped.
pub record ReaderState : Type 0 where
  pub ahead : List ℕ
  pub message : List ℕ
  pub count : ℕ
  pub at : ℕ
  pub stopped : Option StreamError

-- how far a File was read: its input has these octets left, where they are known
abbrev pub progress : ReaderState → Option (List ℕ) → Progress
progress reader left = record {
  rest = prepend_known reader.ahead left;
  message = reader.message;
  count = reader.count;
  at = reader.at;
  stopped = reader.stopped;
}

-- octets that were read hold no whole message: there are none, or they end before their message does
abbrev pub IsUnfinished : ℕ → List ℕ → Type 0
IsUnfinished at octets = (octets ≡ []) ⊎ IsFileFault at octets (Cut at)

-- Where reading failed, no octets that were read are lost, and those that are held hold no whole message.
abbrev pub StopsWithin : ReaderState → Option (List ℕ) → StreamError → ReaderState → Option (List ℕ) → Type 0
StopsWithin old left (Read failed) new after = old.stopped ≡ None
    → Keeps (prepend_known old.ahead left) (prepend_known new.ahead after) × IsUnfinished old.at new.ahead
StopsWithin old left (File fault) new after = ⊤
StopsWithin old left NumbersSpent new after = ⊤

-- Octets are read after those that are held, or the input is at its end, or reading failed.
abbrev pub IsRefilled : List ℕ → Option (List ℕ) → Result Bool ReadFailed → List ℕ → Option (List ℕ) → Type 0
IsRefilled old left (Ok true) new after =
    (read : List ℕ) × (0 < length read) × (new ≡ old ++ read) × Consumes left after read
IsRefilled old left (Ok false) new after = (new ≡ old) × IsAtEnd left × IsAtEnd after
IsRefilled old left (Err failed) new after = (new ≡ old) × Keeps left after

-- what octets begin with: a whole message of this length; none yet; or a header that is refused
abbrev pub IsWholeFront : ℕ → List ℕ → Result (Option ℕ) FileError → Type 0
IsWholeFront at octets (Ok (Some n)) = (n ≤ length octets) × IsCutOff (take n octets)
IsWholeFront at octets (Ok None) = IsUnfinished at octets
IsWholeFront at octets (Err fault) = (16 ≤ length octets) × IsHeaderRefused at octets fault

-- what octets begin with is known without others: a whole message, or a header that is refused
abbrev pub IsReadNext : ℕ → List ℕ → Type 0
IsReadNext at octets =
    ((n : ℕ) × (n ≤ length octets) × IsCutOff (take n octets))
    ⊎ ((fault : FileError) × (16 ≤ length octets) × IsHeaderRefused at octets fault)

-- Whether the held octets begin with a whole message, after reads where more octets were needed. `old` and `new` are
-- the next octets before and after that, where they are known.
abbrev pub IsFound : ℕ → Option (List ℕ) → Result (Option ℕ) StreamError → List ℕ → Option (List ℕ) → Type 0
IsFound at old (Ok (Some n)) octets new = (n ≤ length octets) × IsCutOff (take n octets) × Keeps old new
IsFound at old (Ok None) octets new = (octets ≡ []) × IsAtEnd old × IsAtEnd new
IsFound at old (Err (File fault)) octets new = IsFaultNext at old fault
IsFound at old (Err (Read failed)) octets new = IsUnfinished at octets × Keeps old new
IsFound at old (Err NumbersSpent) octets new = ⊥
