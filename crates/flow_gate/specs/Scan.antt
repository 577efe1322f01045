-- What a scan finds and reports.
use Rattle.std.specs.Prelude.{◌≡◌, ℕ, ◌+◌, ◌≤◌, List, length, map, Vec, Result, Ok, Err}
use Rattle.std.specs.declared.alloc.Global.{Global}
use Rattle.flow_gate.specs.declared.tail.Found.{Found}
use Rattle.flow_gate.specs.declared.tail.Found.TheVariants.{Closed, Message, Damage}
use Rattle.flow_gate.specs.declared.tail.Tail.{Tail}
use Rattle.flow_refusals.specs.declared.read_refusal.ReadRefusal.{ReadRefusal}
use Rattle.flow_refusals.specs.declared.read_refusal.ReadRefusal.TheVariants.{Damaged, Fault, OutOfMemory}
use Rattle.flow_gate.specs.Gate.{IsClosedAt, IsFaultyAt, IsMessageAt, IsGated, IsDamaged, octet_sum}

-- the octets of each message
abbrev pub texts : List (Vec ℕ Global) → List (List ℕ)
texts messages = map (λ (message : Vec ℕ Global). message.items) messages

-- The list from a place on, and where it ends.
pub record IsTail (octets : List ℕ) (from end : ℕ) (messages : List (Vec ℕ Global)) : Type 0 where
  pub gated : IsGated octets from (texts messages)
  pub ends : end ≡ from + octet_sum (texts messages)

-- Damage is reported of this file alone, at its place.
abbrev pub IsTold : List ℕ → ℕ → ℕ → ReadRefusal → Type 0
IsTold octets file from (Damaged of at) = (of ≡ file) × IsDamaged octets from at
IsTold octets file from Fault = Unit {0}
IsTold octets file from OutOfMemory = Unit {0}

-- Damage names this file, and no place before the first one that was looked at.
abbrev pub IsNamed : ℕ → ℕ → ReadRefusal → Type 0
IsNamed file from (Damaged of at) = (of ≡ file) × (from ≤ at)
IsNamed file from Fault = Unit {0}
IsNamed file from OutOfMemory = Unit {0}

-- Where the octets are this list it is given, and no damage is reported.
abbrev pub IsGiven : List (List ℕ) → ℕ → Result Tail ReadRefusal → Type 0
IsGiven list from (Ok tail) = (texts tail.messages.items ≡ list) × (tail.end ≡ from + octet_sum list)
IsGiven list from (Err (Damaged of at)) = ⊥
IsGiven list from (Err Fault) = Unit {0}
IsGiven list from (Err OutOfMemory) = Unit {0}

-- Where there is damage its place is reported, and no list is given.
abbrev pub IsRefused : ℕ → ℕ → Result Tail ReadRefusal → Type 0
IsRefused file place (Ok tail) = ⊥
IsRefused file place (Err (Damaged of at)) = (of ≡ file) × (at ≡ place)
IsRefused file place (Err Fault) = Unit {0}
IsRefused file place (Err OutOfMemory) = Unit {0}

-- the same of octets that were read from place `from` on
pub record IsTailRead (octets : List ℕ) (from end : ℕ) (messages : List (Vec ℕ Global)) : Type 0 where
  pub gated : IsGated octets 0 (texts messages)
  pub ends : end ≡ from + octet_sum (texts messages)

abbrev pub IsToldRead : List ℕ → ℕ → ℕ → ReadRefusal → Type 0
IsToldRead octets file from (Damaged of at) = (of ≡ file) × (place : ℕ) × (at ≡ from + place) × IsDamaged octets 0 place
IsToldRead octets file from Fault = ⊥
IsToldRead octets file from OutOfMemory = Unit {0}

-- a message that fits, with 2 octets after it
pub record IsOpenAt (octets : List ℕ) (place count : ℕ) : Type 0 where
  pub message : IsMessageAt octets place count
  pub room : place + count + 2 ≤ length octets

-- what is at a place
abbrev pub IsFoundAt : List ℕ → ℕ → Found → Type 0
IsFoundAt octets place Closed = IsClosedAt octets place
IsFoundAt octets place (Message count) = IsOpenAt octets place count
IsFoundAt octets place Damage = IsFaultyAt octets place
