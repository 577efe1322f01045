-- Data records as a message holds them, in octets.
use Rattle.std.specs.Prelude.{ℕ, List, ◌++◌, map}
use Rattle.flow_codec.specs.declared.message.Header.{Header}
use Rattle.flow_codec.specs.declared.message.Field.{Field}
use Rattle.flow_codec.specs.Layout.{Layout}
use Rattle.flow_codec.specs.Fields.{AreFields}

-- a data record: the ID and the definition of its template, and its octets
pub record RawRecord : Type 0 where
  pub id : ℕ
  pub layout : Layout
  pub octets : List ℕ

pub record RawMessage : Type 0 where
  pub header : Header
  pub records : List RawRecord

abbrev pub raw : ℕ → Layout → List ℕ → RawRecord
raw id layout octets = record { id = id; layout = layout; octets = octets }

-- the octets of one whole record of this layout
abbrev pub IsWholeRecord : Layout → List ℕ → Type 0
IsWholeRecord layout octets = (fields : List Field) × AreFields layout.fields octets fields

-- a record beside the header of its message
abbrev pub Placed : Type 0
Placed = Header × RawRecord

abbrev pub under : Header → List RawRecord → List Placed
under header records = map (λ r. (header, r)) records

-- A sink took these records of a message: whatever it had taken before, from some state on, it has taken these after
-- that.
abbrev pub Took : {S : Type 0} → (S → List Placed → S → Type 0) → Header → S → List RawRecord → S → Type 0
Took {S} holds header old records new = (start : S) (before : List Placed) → holds start before old
    → holds start (before ++ under header records) new
