-- The lines of flows' data records.
use Rattle.std.specs.Prelude.{ℕ, List, [], ◌∷◌, ◌++◌, codes}
use Rattle.std.specs.List.{flat_map}
use Rattle.std.specs.Fmt.{decimal}
use Rattle.flow_elements.specs.declared.value.Value.{Value}
use Rattle.flow_elements.specs.declared.value.Value.TheVariants.{Unsigned, Address4, Address6, Mac, Octets}
use Rattle.flow_elements.specs.Values.{value_of}
use Rattle.flow_codec.specs.declared.message.Field.{Field}
use Rattle.flow_codec.specs.Fields.{fields_in}
use Rattle.flow_codec.specs.Raw.{Placed}
use Rattle.flow_report.specs.declared.format.Layout.TheVariants.{Json}
use Rattle.flow_report.specs.declared.format.Times.{Times}
use Rattle.flow_report.specs.declared.records.RecordFormat.{RecordFormat}
use Rattle.flow_report.specs.declared.records.RecordLayout.{RecordLayout}
use Rattle.flow_report.specs.declared.records.RecordLayout.TheVariants as layout
use Rattle.flow_report.specs.Formats.{second_text, time_by}
use Rattle.flow_report.specs.Lines.{name_text, record_line, value_text}

-- when a record's flow starts, and the record beside the header of its message
abbrev pub Started : Type 0
Started = ℕ × Placed

-- ---- in words

-- START DOMAIN, and the line that `dump` writes of the record
unfoldable pub words_line : Times → Started → List ℕ
words_line times s = second_text times s.0 ++ 32 ∷ decimal s.1.0.domain ++ 32 ∷ record_line s.1.1

-- ---- in JSON

abbrev pub quoted : List ℕ → List ℕ
quoted text = 34 ∷ text ++ 34 ∷ []

-- a number as one, other values in quotes
abbrev pub json_value : Value → List ℕ
json_value (Unsigned number) = decimal number
json_value (Address4 octets) = quoted (value_text (Address4 octets))
json_value (Address6 octets) = quoted (value_text (Address6 octets))
json_value (Mac octets) = quoted (value_text (Mac octets))
json_value (Octets octets) = quoted (value_text (Octets octets))

-- ,"NAME":VALUE
unfoldable pub json_field : Field → List ℕ
json_field field =
    44 ∷ 34 ∷ name_text field.id ++ 34 ∷ 58 ∷ json_value (value_of field.id field.octets)

-- {"start":START,"domain":DOMAIN,"template":ID
unfoldable pub json_start : Times → ℕ → ℕ → ℕ → List ℕ
json_start times start domain id =
    123 ∷ quoted (codes "start") ++ 58 ∷ time_by Json times start
    ++ 44 ∷ quoted (codes "domain") ++ 58 ∷ decimal domain
    ++ 44 ∷ quoted (codes "template") ++ 58 ∷ decimal id

-- an object: its start, each field of the record, and its end
unfoldable pub json_line : Times → Started → List ℕ
json_line times s =
    json_start times s.0 s.1.0.domain s.1.1.id
    ++ flat_map json_field (fields_in s.1.1.layout.fields s.1.1.octets) ++ 125 ∷ 10 ∷ []

-- ---- in a format

abbrev pub line_by : RecordLayout → Times → Started → List ℕ
line_by layout.Lines times s = words_line times s
line_by layout.Json times s = json_line times s

abbrev pub record_text : RecordFormat → Started → List ℕ
record_text format s = line_by format.layout format.times s

-- Lines of records on their way to a writer: their format, and the octets that are not written yet.
pub record RecordText : Type 0 where
  pub format : RecordFormat
  pub held : List ℕ
