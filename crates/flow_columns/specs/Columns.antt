-- The columns that names ask for.
use Rattle.std.specs.Prelude.{ℕ, ◌==◌, Bool, List, Option, Some, None, option_map, option_and_then, find}
use Rattle.std.specs.Prelude.{codes, drop, get_or, is_some, length, map, nat_lt, not, if◌then◌else◌}
use Rattle.std.specs.List.{after_first, before_first, position_or_len, slice_split}
use Rattle.std.specs.Str.{bytes_eq}
use Rattle.flow_elements.specs.declared.element.ElementId.{ElementId}
use Rattle.flow_elements.specs.Elements.{listed}
use Rattle.flow_report.specs.Numbers.{number_between}
use Rattle.flow_columns.specs.declared.column.Column.{Column}
use Rattle.flow_columns.specs.declared.column.Column.TheVariants.{Start, Domain, Template, Element}

-- ---- names

abbrev pub is_comma : ℕ → Bool
is_comma octet = octet == 44

-- the names between the commas of a text
abbrev pub names_in : List ℕ → List (List ℕ)
names_in text = slice_split is_comma text

-- ---- elements

-- the number of the listed element with a name
abbrev pub listed_number : List ℕ → Option ℕ
listed_number name = option_map (λ e. e.number) (find (λ e. bytes_eq e.name name) listed)

-- an `e`, and then a number
abbrev pub number_after_e : ℕ → List ℕ → Option ℕ
number_after_e most word = if get_or word 0 0 == 101 then number_between 0 most (drop 1 word) else None

abbrev pub is_dot : ℕ → Bool
is_dot octet = octet == 46

abbrev pub has_dot : List ℕ → Bool
has_dot name = nat_lt (position_or_len is_dot name) (length name)

-- eNUMBER is IANA's element with this number, eENTERPRISE.NUMBER one of an enterprise
abbrev pub numbered : List ℕ → Option ElementId
numbered name =
    if has_dot name then
    option_and_then (λ enterprise. option_map (λ number. record { enterprise = Some enterprise; number = number })
    (number_between 0 32767 (after_first is_dot name))) (number_after_e 4294967295 (before_first is_dot name))
    else option_map (λ number. record { enterprise = None; number = number }) (number_after_e 32767 name)

abbrev pub by_number : Option ℕ → List ℕ → Option ElementId
by_number (Some number) name = Some (record { enterprise = None; number = number })
by_number None name = numbered name

-- by its name in IANA's registry where it is listed, or by its number
abbrev pub element_of : List ℕ → Option ElementId
element_of name = by_number (listed_number name) name

-- ---- columns

-- when the flow starts, the Observation Domain, the ID of the template; or the field of an element
abbrev pub column_of : List ℕ → Option Column
column_of name =
    if bytes_eq (codes "start") name then Some Start
    else if bytes_eq (codes "domain") name then Some Domain
    else if bytes_eq (codes "template") name then Some Template
    else option_map Element (element_of name)

-- those of the names of a text; none for a name that asks for no column
abbrev pub columns_of : List ℕ → List (Option Column)
columns_of text = map column_of (names_in text)

abbrev pub is_unknown : List ℕ → Bool
is_unknown name = not (is_some (column_of name))

-- the first name of a text that asks for no column
abbrev pub first_unknown : List ℕ → Option (List ℕ)
first_unknown text = find is_unknown (names_in text)
