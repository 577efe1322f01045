-- How a File (RFC 5655, section 4) divides into messages: by their versions and Lengths alone.
use Rattle.std.specs.Prelude.{◌≡◌, ◌≢◌, ◌⊎◌, ℕ, ◌+◌, ◌<◌, ◌≤◌, List, [], ◌∷◌, ◌++◌, length, take, drop}
use Rattle.std.specs.List.{AllByRecursion}
use Rattle.std.specs.Int.{w16, from_be_bytes}
use Rattle.flow_codec.specs.declared.file.FileError.{FileError}
use Rattle.flow_codec.specs.declared.file.FileError.TheVariants.{Cut, Version, Length}
use Rattle.flow_codec.specs.declared.file.Span.{Span}
use Rattle.flow_codec.specs.Message.{joined}

-- the Version that octets begin with, and the Length after it
abbrev pub version_of : List ℕ → ℕ
version_of octets = from_be_bytes w16 (take 2 octets)

abbrev pub length_of : List ℕ → ℕ
length_of octets = from_be_bytes w16 (take 2 (drop 2 octets))

-- the octets of one message as a File cuts it off: by its version and its Length
pub record IsCutOff (message : List ℕ) : Type 0 where
  pub long : 16 ≤ length message
  pub version : version_of message ≡ 10
  pub len : length_of message ≡ length message

-- what is wrong with a header, whose place is `at`: its version, or a Length below that of the header itself
abbrev pub IsHeaderRefused : ℕ → List ℕ → FileError → Type 0
IsHeaderRefused at header fault =
    ((version_of header ≢ 10) × (fault ≡ Version at))
    ⊎ ((version_of header ≡ 10) × (length_of header < 16) × (fault ≡ Length at))

-- what is wrong with the octets from the place `at` of a File on
abbrev pub IsFileFault : ℕ → List ℕ → FileError → Type 0
IsFileFault at rest fault =
    ((0 < length rest) × (length rest < 16) × (fault ≡ Cut at))
    ⊎ ((16 ≤ length rest) × IsHeaderRefused at rest fault)
    ⊎ ((16 ≤ length rest) × (version_of rest ≡ 10) × (16 ≤ length_of rest) × (length rest < length_of rest)
    × (fault ≡ Cut at))

-- the places and lengths of these messages, the first at `at`
abbrev pub spans_from : ℕ → List (List ℕ) → List Span
spans_from at [] = []
spans_from at (message ∷ more) = record { at = at; length = length message } ∷ spans_from (at + length message) more

-- messages, each cut off by its own header, and the octets after the last of them
pub record IsDivided (octets : List ℕ) (parts : List (List ℕ)) (rest : List ℕ) : Type 0 where
  pub whole : octets ≡ joined parts ++ rest
  pub each : AllByRecursion IsCutOff parts

-- The octets after the messages of a File: there are none, or they have a fault.
abbrev pub IsLast : ℕ → List ℕ → Type 0
IsLast at rest = (rest ≡ []) ⊎ ((fault : FileError) × IsFileFault at rest fault)

-- Octets divide in one way into messages and a rest. The rest is empty and has no fault, or it has one fault.
pub record HasOneDivision (octets : List ℕ) : Type 0 where
  pub parts : List (List ℕ)
  pub rest : List ℕ
  pub divided : IsDivided octets parts rest
  pub last : IsLast (length (joined parts)) rest
  pub alone : (others : List (List ℕ)) → (left : List ℕ) → IsDivided octets others left
      → IsLast (length (joined others)) left → (others ≡ parts) × (left ≡ rest)
  pub one_fault : (a : FileError) → (b : FileError) → IsFileFault (length (joined parts)) rest a
      → IsFileFault (length (joined parts)) rest b → a ≡ b
  pub no_fault : (a : FileError) → rest ≡ [] → IsFileFault (length (joined parts)) rest a → ⊥
