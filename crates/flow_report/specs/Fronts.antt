-- How far a File was accepted.
use Rattle.std.specs.Prelude.{◌≡◌, ◌⊎◌, ℕ, ◌-◌, ◌^◌, List, ◌++◌, length, Option, Some}
use Rattle.std.specs.Io.KnownBytes.{Consumes}
use Rattle.flow_codec.specs.declared.file.FileError.TheVariants.{Cut}
use Rattle.flow_codec.specs.Raw.{RawMessage}
use Rattle.flow_codec.specs.Templates.{AllTemplates}
use Rattle.flow_codec.specs.Stream.{IsMessageNext}
use Rattle.flow_codec.specs.File.{AcceptedFront, whole, broken}

-- a prefix of the octets consists of these messages, which are accepted
abbrev pub IsFront : List ℕ → List RawMessage → Type 0
IsFront octets messages =
    (front : List ℕ) × (rest : List ℕ) × (octets ≡ front ++ rest) × (after : AllTemplates)
    × AcceptedFront front messages after whole

-- these are 2^48 - 1 messages, and one more follows them
abbrev pub IsSpentFront : List ℕ → List RawMessage → Type 0
IsSpentFront octets messages =
    (length messages ≡ 2 ^ 48 - 1) × (front : List ℕ) × (rest : List ℕ) × (octets ≡ front ++ rest)
    × IsMessageNext (Some rest)
    × (after : AllTemplates) × AcceptedFront front messages after whole

-- These are all the whole messages in those octets that were read: they are accepted, and the octets read after them,
-- if any, end before their message does. `left` are the octets left in the input.
abbrev pub IsReadFront : List ℕ → Option (List ℕ) → List RawMessage → Type 0
IsReadFront octets left messages =
    (read : List ℕ) × (after : AllTemplates) × Consumes (Some octets) left read
    × (AcceptedFront read messages after whole ⊎ ((at : ℕ) × AcceptedFront read messages after (broken (Cut at))))
