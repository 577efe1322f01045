-- Lines of flows' data records: all fields of each, or the fields that are named, as CSV (RFC 4180, but lines end in
-- one line feed).
use Rattle.std.specs.Prelude.{ℕ, ◌==◌, ◌&&◌, Bool, true, false, List, [], ◌∷◌, ◌++◌, Option, Some, None, find, map}
use Rattle.std.specs.Prelude.{option_map}
use Rattle.std.specs.Fmt.{decimal}
use Rattle.std.specs.List.{join_with_byte}
use Rattle.std.specs.Option.{option_map_or}
use Rattle.flow_elements.specs.declared.element.ElementId.{ElementId}
use Rattle.flow_elements.specs.Values.{value_of}
use Rattle.flow_codec.specs.declared.message.Field.{Field}
use Rattle.flow_codec.specs.Fields.{fields_in}
use Rattle.flow_columns.specs.declared.column.Column.{Column}
use Rattle.flow_columns.specs.declared.column.Column.TheVariants.{Start, Domain, Template, Element}
use Rattle.flow_columns.specs.declared.names.LineFormat.{LineFormat}
use Rattle.flow_columns.specs.declared.names.LineFormat.TheVariants as format
use Rattle.flow_columns.specs.Columns.{columns_of}
use Rattle.flow_report.specs.declared.format.Times.{Times}
use Rattle.flow_report.specs.declared.records.RecordFormat.{RecordFormat}
use Rattle.flow_report.specs.Formats.{second_text}
use Rattle.flow_report.specs.Lines.{value_text}
use Rattle.flow_report.specs.Records.{record_text, Started}

-- ---- CSV

abbrev pub is_same_enterprise : Option ℕ → Option ℕ → Bool
is_same_enterprise None None = true
is_same_enterprise (Some a) (Some b) = a == b
is_same_enterprise _ _ = false

abbrev pub is_same : ElementId → ElementId → Bool
is_same a b = is_same_enterprise a.enterprise b.enterprise && (a.number == b.number)

-- the first field of an element
abbrev pub field_of : ElementId → List Field → Option (List ℕ)
field_of id fields = option_map (λ f. f.octets) (find (λ f. is_same f.id id) fields)

-- the value of an element's octets as `dump` writes it; nothing where there are none
abbrev pub value_or_none : ElementId → Option (List ℕ) → List ℕ
value_or_none id octets = option_map_or (λ o. value_text (value_of id o)) octets []

-- What a column has of a flow's record. No value has a comma, a quote or the end of a line, so none is in quotes.
abbrev pub cell : Times → Started → Column → List ℕ
cell times s Start = second_text times s.0
cell times s Domain = decimal s.1.0.domain
cell times s Template = decimal s.1.1.id
cell times s (Element id) = value_or_none id (field_of id (fields_in s.1.1.layout.fields s.1.1.octets))

abbrev pub cell_or_none : Times → Started → Option Column → List ℕ
cell_or_none times s column = option_map_or (cell times s) column []

-- the same after a comma
abbrev pub after_comma : Times → Started → Option Column → List ℕ
after_comma times s column = 44 ∷ cell_or_none times s column

-- A line without octets would be none to some readers: it is an empty value in quotes.
abbrev pub shown : List ℕ → List ℕ
shown [] = 34 ∷ 34 ∷ []
shown (octet ∷ octets) = octet ∷ octets

-- the line of a record: a value for each column, with commas between them
unfoldable pub cells_line : Times → List (Option Column) → Started → List ℕ
cells_line times columns s = shown (join_with_byte 44 (map (cell_or_none times s) columns)) ++ 10 ∷ []

-- ---- in a format

-- how each line is made: of all fields of a record, or of columns
pub data Line : Type 0 where
  Whole : RecordFormat → Line
  Cells : Times → List (Option Column) → Line

abbrev pub line_by : LineFormat → Line
line_by (format.Whole whole) = Whole whole
line_by (format.Columns names times) = Cells times (columns_of names)

-- the text before all lines: in CSV a line of the names as they were given
abbrev pub heading : LineFormat → List ℕ
heading (format.Whole whole) = []
heading (format.Columns names times) = names ++ 10 ∷ []

abbrev pub line_text : Line → Started → List ℕ
line_text (Whole whole) s = record_text whole s
line_text (Cells times columns) s = cells_line times columns s

-- Lines on their way to a writer: how they are made, and the octets that are not written yet.
pub record LinesText : Type 0 where
  pub line : Line
  pub held : List ℕ
