-- The lines of messages and their records, as octets of UTF-8.
use Rattle.std.specs.Prelude.{ℕ, ◌+◌, ◌/◌, ◌%◌, nat_lt, Bool, List, [], ◌∷◌, ◌++◌, map, codes, Option, Some, None}
use Rattle.std.specs.Prelude.{unwrap_or, if◌then◌else◌}
use Rattle.std.specs.List.{flat_map, join_with_byte}
use Rattle.std.specs.Fmt.{decimal}
use Rattle.flow_elements.specs.declared.element.ElementId.{ElementId}
use Rattle.flow_elements.specs.declared.value.Value.{Value}
use Rattle.flow_elements.specs.declared.value.Value.TheVariants.{Unsigned, Address4, Address6, Mac, Octets}
use Rattle.flow_elements.specs.Elements.{name_of}
use Rattle.flow_elements.specs.Values.{value_of}
use Rattle.flow_codec.specs.declared.message.Field.{Field}
use Rattle.flow_codec.specs.declared.message.Header.{Header}
use Rattle.flow_codec.specs.Fields.{fields_in}
use Rattle.flow_codec.specs.Raw.{RawRecord, RawMessage}

-- ---- values

-- a lower-case hexadecimal digit
unfoldable pub hex_digit : ℕ → ℕ
hex_digit n = if nat_lt n 10 then 48 + n else 87 + n

unfoldable pub hex : ℕ → List ℕ
hex octet = hex_digit (octet / 16) ∷ hex_digit (octet % 16) ∷ []

abbrev pub octets_text : List ℕ → List ℕ
octets_text octets = flat_map hex octets

-- two octets together
abbrev pub pairs : List ℕ → List (List ℕ)
pairs [] = []
pairs (a ∷ []) = (a ∷ []) ∷ []
pairs (a ∷ b ∷ rest) = (a ∷ b ∷ []) ∷ pairs rest

-- 192.0.2.1; eight groups of four digits with colons; six groups of two with colons; octets in hexadecimal
abbrev pub value_text : Value → List ℕ
value_text (Unsigned number) = decimal number
value_text (Address4 octets) = join_with_byte 46 (map decimal octets)
value_text (Address6 octets) = join_with_byte 58 (map octets_text (pairs octets))
value_text (Mac octets) = join_with_byte 58 (map hex octets)
value_text (Octets octets) = octets_text octets

-- ---- messages and records

-- an element that isn't listed: eNUMBER, or eENTERPRISE.NUMBER
abbrev pub number_text : Option ℕ → ℕ → List ℕ
number_text None number = 101 ∷ decimal number
number_text (Some enterprise) number = 101 ∷ decimal enterprise ++ 46 ∷ decimal number

unfoldable pub name_text : ElementId → List ℕ
name_text id = unwrap_or (name_of id) (number_text id.enterprise id.number)

-- NAME=VALUE, after a space
unfoldable pub field_text : Field → List ℕ
field_text field = 32 ∷ name_text field.id ++ 61 ∷ value_text (value_of field.id field.octets)

-- the kind of a record's template, and its ID
unfoldable pub start_text : Bool → ℕ → List ℕ
start_text options id = (if options then codes "options" else codes "record") ++ 32 ∷ decimal id

-- record ID or options ID, then each field, with a line feed
unfoldable pub record_line : RawRecord → List ℕ
record_line r = start_text r.layout.options r.id ++ flat_map field_text (fields_in r.layout.fields r.octets) ++ 10 ∷ []

-- message LENGTH TIME SEQUENCE DOMAIN, with a line feed
unfoldable pub message_line : Header → List ℕ
message_line h = codes "message" ++ 32 ∷ decimal h.length ++ 32 ∷ decimal h.time ++ 32 ∷ decimal h.sequence ++ 32 ∷
    decimal h.domain ++ 10 ∷ []

-- a message's line, and those of its records
unfoldable pub message_text : RawMessage → List ℕ
message_text m = message_line m.header ++ flat_map record_line m.records

abbrev pub dump_text : List RawMessage → List ℕ
dump_text messages = flat_map message_text messages
