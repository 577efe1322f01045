-- Lists of messages that end at a gate. The gate is the second octet of a message's version field: 10 is open, every
-- other value is closed.
use Rattle.std.specs.Prelude.{◌≡◌, ◌≢◌, ◌⊎◌, ℕ, ◌+◌, ◌*◌, ◌<◌, ◌≤◌, List, [], ◌∷◌, length, take, drop, get_or}
use Rattle.flow_disk.specs.Disk.{put_at}

-- the Length field of a message at a place (RFC 7011, 3.1)
abbrev pub length_field : List ℕ → ℕ → ℕ
length_field octets place = 256 * get_or octets (place + 2) 0 + get_or octets (place + 3) 0

-- a whole message, as far as the gate looks: version 10, and as many octets as its Length field says, at least 16
pub record IsWhole (message : List ℕ) : Type 0 where
  pub long : 16 ≤ length message
  pub high : get_or message 0 0 ≡ 0
  pub low : get_or message 1 0 ≡ 10
  pub counted : length_field message 0 ≡ length message

-- these octets are at a place
abbrev pub StandsAt : List ℕ → ℕ → List ℕ → Type 0
StandsAt octets place part = take (length part) (drop place octets) ≡ part

-- a gate that is closed, which ends a list
pub record IsClosedAt (octets : List ℕ) (place : ℕ) : Type 0 where
  pub room : place + 2 ≤ length octets
  pub zero_octet : get_or octets place 0 ≡ 0
  pub shut : get_or octets (place + 1) 0 ≢ 10

-- whole messages one after the other
abbrev pub StandInRow : List ℕ → ℕ → List (List ℕ) → Type 0
StandInRow octets place [] = Unit {0}
StandInRow octets place (message ∷ list) = IsWhole message × StandsAt octets place message
    × StandInRow octets (place + length message) list

-- how many octets they have
abbrev pub octet_sum : List (List ℕ) → ℕ
octet_sum [] = 0
octet_sum (message ∷ list) = length message + octet_sum list

-- A whole message of so many octets is at a place, as far as the gate looks.
pub record IsMessageAt (octets : List ℕ) (place count : ℕ) : Type 0 where
  pub zero_octet : get_or octets place 0 ≡ 0
  pub ten : get_or octets (place + 1) 0 ≡ 10
  pub counted : length_field octets place ≡ count
  pub long : 16 ≤ count
  pub room : place + count ≤ length octets

-- Whole messages fill the octets from a place to the end: a list without a gate after it.
pub record IsRow (octets : List ℕ) (from : ℕ) (list : List (List ℕ)) : Type 0 where
  pub row : StandInRow octets from list
  pub ends : from + octet_sum list ≡ length octets

-- The gated list: these messages from a place on, and then a closed gate.
pub record IsGated (octets : List ℕ) (place : ℕ) (list : List (List ℕ)) : Type 0 where
  pub row : StandInRow octets place list
  pub closed : IsClosedAt octets (place + octet_sum list)

-- neither a closed gate nor a message that fits with 2 octets after it
abbrev pub IsFaultyAt : List ℕ → ℕ → Type 0
IsFaultyAt octets place = (length octets < place + 2) ⊎ (get_or octets place 0 ≢ 0)
    ⊎ ((get_or octets (place + 1) 0 ≡ 10)
    × ((length_field octets place < 16) ⊎ (length octets < place + length_field octets place + 2)))

-- whole messages that leave 2 octets more, and then a fault
pub record IsDamaged (octets : List ℕ) (from at : ℕ) : Type 0 where
  pub list : List (List ℕ)
  pub row : StandInRow octets from list
  pub place : at ≡ from + octet_sum list
  pub fits : list ≢ [] → at + 2 ≤ length octets
  pub fault : IsFaultyAt octets at

-- with the gate at `end` open
abbrev pub opened : List ℕ → ℕ → List ℕ
opened octets end = put_at octets (end + 1) (10 ∷ [])

-- The gate at `end` is closed, and once it is open these messages are the gated list from `end` on.
pub record IsPlaced (octets : List ℕ) (end : ℕ) (messages : List (List ℕ)) : Type 0 where
  pub closed : IsClosedAt octets end
  pub once_open : IsGated (opened octets end) end messages
