-- The octets of a rolled file's messages. All numbers are big-endian.
use Rattle.std.specs.Prelude.{◌≡◌, ◌≢◌, ℕ, ◌+◌, ◌-◌, ◌*◌, ◌<◌, ◌≤◌, ◌^◌, List, [], ◌∷◌, ◌++◌, length, filter, Option}
use Rattle.std.specs.Prelude.{Some, None, Bool, true, false, is_some, not}
use Rattle.std.specs.List.{AllByRecursion}
use Rattle.std.specs.Int.{w16, w32, w64, to_be_bytes}
use Rattle.flow_rolled.specs.declared.row.RolledRow.{RolledRow}
use Rattle.flow_rolled.specs.Rows.{IsRow}
use Rattle.flow_rolled.specs.Messages.{RolledMessage}

abbrev pub protocol_octets : Option ℕ → List ℕ
protocol_octets None = []
protocol_octets (Some protocol) = protocol ∷ []

-- flowStartMilliseconds, flowEndMilliseconds, protocolIdentifier if there is one, originalFlowsInitiated,
-- octetDeltaCount, packetDeltaCount
abbrev pub row_octets : ℕ → RolledRow → List ℕ
row_octets width r = to_be_bytes w64 (r.key.start * 1000) ++ to_be_bytes w64
    ((r.key.start + width) * 1000 - 1) ++ protocol_octets r.key.protocol ++ to_be_bytes w64 r.flows ++ to_be_bytes w64
    r.octets ++ to_be_bytes w64 r.packets

abbrev pub rows_octets : ℕ → List RolledRow → List ℕ
rows_octets width [] = []
rows_octets width (r ∷ rs) = row_octets width r ++ rows_octets width rs

-- a Set of rows; none is written without rows
abbrev pub row_set_octets : ℕ → ℕ → List RolledRow → List ℕ
row_set_octets width number [] = []
row_set_octets width number (r ∷ rs) =
    to_be_bytes w16 number ++ to_be_bytes w16 (4 + length (rows_octets width (r ∷ rs))) ++ rows_octets width (r ∷ rs)

-- a Set of these octets, where there are any
abbrev pub set_around : ℕ → List ℕ → List ℕ
set_around number [] = []
set_around number (x ∷ xs) = to_be_bytes w16 number ++ to_be_bytes w16 (4 + length (x ∷ xs)) ++ (x ∷ xs)

abbrev pub has_protocol : RolledRow → Bool
has_protocol r = is_some r.key.protocol

abbrev pub has_none : RolledRow → Bool
has_none r = not (is_some r.key.protocol)

-- the rows that one Set holds
abbrev pub of_kind : Bool → RolledRow → Bool
of_kind true = has_protocol
of_kind false = has_none

-- The Sets of a head: Set 2 with Templates 256 and 257, Set 3 with Options Template 258, Set 258 with its two records.
abbrev pub head_sets : List ℕ
head_sets =
    0 ∷ 2 ∷ 0 ∷ 56
    ∷ 1 ∷ 0 ∷ 0 ∷ 6 ∷ 0 ∷ 152 ∷ 0 ∷ 8 ∷ 0 ∷ 153 ∷ 0 ∷ 8 ∷ 0 ∷ 4 ∷ 0 ∷ 1 ∷ 1 ∷ 120 ∷ 0 ∷ 8 ∷ 0 ∷ 1 ∷ 0 ∷ 8 ∷ 0 ∷ 2 ∷ 0 ∷
    8
    ∷ 1 ∷ 1 ∷ 0 ∷ 5 ∷ 0 ∷ 152 ∷ 0 ∷ 8 ∷ 0 ∷ 153 ∷ 0 ∷ 8 ∷ 1 ∷ 120 ∷ 0 ∷ 8 ∷ 0 ∷ 1 ∷ 0 ∷ 8 ∷ 0 ∷ 2 ∷ 0 ∷ 8
    ∷ 0 ∷ 3 ∷ 0 ∷ 18 ∷ 1 ∷ 2 ∷ 0 ∷ 2 ∷ 0 ∷ 1 ∷ 0 ∷ 145 ∷ 0 ∷ 2 ∷ 1 ∷ 128 ∷ 0 ∷ 1
    ∷ 1 ∷ 2 ∷ 0 ∷ 10 ∷ 1 ∷ 0 ∷ 1 ∷ 1 ∷ 1 ∷ 1 ∷ []

-- rows with a protocol in Set 256, those without in Set 257
abbrev pub sets_of : ℕ → List RolledRow → List ℕ
sets_of width [] = head_sets
sets_of width (r ∷ rs) =
    row_set_octets width 256 (filter has_protocol (r ∷ rs)) ++ row_set_octets width 257 (filter has_none (r ∷ rs))

abbrev pub rolled_header_octets : ℕ → ℕ → ℕ → ℕ → List ℕ
rolled_header_octets len time sequence domain =
    to_be_bytes w16 10 ++ to_be_bytes w16 len ++ to_be_bytes w32 time ++ to_be_bytes w32 sequence ++ to_be_bytes w32
    domain

unfoldable pub message_octets : ℕ → RolledMessage → List ℕ
message_octets width p =
    rolled_header_octets (16 + length (sets_of width p.rows)) p.time p.sequence p.domain ++ sets_of width p.rows

abbrev pub messages_octets : ℕ → List RolledMessage → List ℕ
messages_octets width [] = []
messages_octets width (p ∷ ps) = message_octets width p ++ messages_octets width ps

-- rows of one domain, all with a protocol or all without
pub record IsOf (w d : ℕ) (b : Bool) (r : RolledRow) : Type 0 where
  pub row : IsRow w r
  pub own : r.key.domain ≡ d
  pub kind : is_some r.key.protocol ≡ b

-- rows of a message of this domain: those with a protocol, then those without
pub record AreOf (w d : ℕ) (rows : List RolledRow) : Type 0 where
  pub few : length rows ≤ 1000
  pub with : AllByRecursion (IsOf w d true) (filter has_protocol rows)
  pub without : AllByRecursion (IsOf w d false) (filter has_none rows)
  pub parted : filter has_protocol rows ++ filter has_none rows ≡ rows

-- a message by itself
pub record IsRolledMessage (w : ℕ) (p : RolledMessage) : Type 0 where
  pub time : p.time < 2 ^ 32
  pub sequence : p.sequence < 2 ^ 32
  pub domain : p.domain < 2 ^ 32
  pub rows : AreOf w p.domain p.rows

-- octets that don't begin with the number of this Set
abbrev pub IsOther : ℕ → List ℕ → Type 0
IsOther number octets = (more : List ℕ) → octets ≢ to_be_bytes w16 number ++ more

-- a Set of rows, or none, and then octets that don't begin with the number of this Set
pub record IsSet (w d number : ℕ) (b : Bool) (octets : List ℕ) (rows : List RolledRow) (more : List ℕ) : Type 0 where
  pub is : octets ≡ row_set_octets w number rows ++ more
  pub all : AllByRecursion (IsOf w d b) rows
  pub few : length rows ≤ 1000
  pub other : IsOther number more
