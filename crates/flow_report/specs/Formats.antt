-- The formats of lines: words; CSV (RFC 4180), where lines end in a line feed; JSON (RFC 8259), an object a line. Times
-- are seconds, or dates with the time of day (RFC 3339).
use Rattle.std.specs.Prelude.{ℕ, List, [], ◌∷◌, ◌++◌, map, codes, Option, Some, None}
use Rattle.std.specs.List.{join_with_byte}
use Rattle.std.specs.Fmt.{decimal}
use Rattle.flow_dates.specs.Dates.{time_text}
use Rattle.flow_report.specs.declared.format.Format.{Format}
use Rattle.flow_report.specs.declared.format.Layout.{Layout}
use Rattle.flow_report.specs.declared.format.Layout.TheVariants.{Lines, Csv, Json}
use Rattle.flow_report.specs.declared.format.Times.{Times}
use Rattle.flow_report.specs.declared.format.Times.TheVariants.{Seconds, Dates}

-- a value: a number, a second since 1970-01-01 00:00 UTC, or none
pub data Value : Type 0 where
  Number : ℕ → Value
  Time : ℕ → Value
  Nothing : Value

-- with its name
abbrev pub Named : Type 0
Named = List ℕ × Value

abbrev pub number_or_none : Option ℕ → Value
number_or_none None = Nothing
number_or_none (Some number) = Number number

abbrev pub time_or_none : Option ℕ → Value
time_or_none None = Nothing
time_or_none (Some second) = Time second

-- what a line begins with
abbrev pub opening : Layout → List ℕ
opening Lines = []
opening Csv = []
opening Json = codes "{"

-- what is between two values: a space, or a comma
abbrev pub separator : Layout → ℕ
separator Lines = 32
separator Csv = 44
separator Json = 44

-- what a line ends with
abbrev pub closing : Layout → List ℕ
closing Lines = codes "\n"
closing Csv = codes "\n"
closing Json = codes "}\n"

-- the text before a value: in JSON its name in quotes, and a colon
abbrev pub name_before : Layout → List ℕ → List ℕ
name_before Lines name = []
name_before Csv name = []
name_before Json name = 34 ∷ name ++ 34 ∷ 58 ∷ []

-- what is written for none
abbrev pub none_text : Layout → List ℕ
none_text Lines = codes "-"
none_text Csv = []
none_text Json = codes "null"

-- a time in words: its second, or its date and time
abbrev pub second_text : Times → ℕ → List ℕ
second_text Seconds second = decimal second
second_text Dates second = time_text second

-- a time in a layout: a date in JSON is in quotes
abbrev pub time_by : Layout → Times → ℕ → List ℕ
time_by Lines times second = second_text times second
time_by Csv times second = second_text times second
time_by Json Seconds second = decimal second
time_by Json Dates second = 34 ∷ time_text second ++ 34 ∷ []

abbrev pub time_in : Format → ℕ → List ℕ
time_in format second = time_by format.layout format.times second

abbrev pub text_in : Format → Value → List ℕ
text_in format (Number number) = decimal number
text_in format (Time second) = time_in format second
text_in format Nothing = none_text format.layout

abbrev pub value_in : Format → Named → List ℕ
value_in format value = name_before format.layout value.0 ++ text_in format value.1

-- a line of values
abbrev pub line_in : Format → List Named → List ℕ
line_in format values =
    opening format.layout ++ join_with_byte (separator format.layout) (map (value_in format) values)
    ++ closing format.layout

-- the text before all lines: in CSV a line of names
abbrev pub heading : Layout → List (List ℕ) → List ℕ
heading Lines names = []
heading Csv names = join_with_byte 44 names ++ codes "\n"
heading Json names = []
