-- Why words ask for nothing.
use Rattle.std.specs.Prelude.{◌≡◌, ℕ, List, Option, None, ⊤, codes, is_some, if◌then◌else◌}
use Rattle.std.specs.Option.{option_map_or}
use Rattle.std.specs.Str.{bytes_eq}
use Rattle.clap.specs.Kinds.{HasKind}
use Rattle.clap.specs.Faults.{fault_of}
use Rattle.clap.specs.Simple.{subcommand_of}
use Rattle.clap.specs.Walk.{Row, Text}
use Rattle.flow_program.specs.declared.request.LineError.{LineError}
use Rattle.flow_program.specs.declared.request.LineError.TheVariants.{Parser, Width, Plan, Span, Keep, Files}
use Rattle.flow_program.specs.declared.request.LineError.TheVariants.{Field, Flows, Folders, Formats, Messages}
use Rattle.flow_program.specs.declared.request.LineError.TheVariants.{Number}
use Rattle.flow_program.specs.declared.request.LineError.TheVariants.{OutOfMemory, Swapped, Totals}
use Rattle.flow_columns.specs.Columns.{first_unknown}
use Rattle.flow_program.specs.Arguments.{are_swapped, fields_in, format_in, is_set}
use Rattle.flow_program.specs.CommandLine.{asked, flowvault}

-- what is said of the values of a command, by its name
abbrev pub wrong_values_of : Text → LineError
wrong_values_of name =
    if bytes_eq (codes "create") name then Plan
    else if bytes_eq (codes "check") name then Folders
    else if bytes_eq (codes "totals") name then Totals
    else if bytes_eq (codes "flows") name then Flows
    else if bytes_eq (codes "records") name then Span
    else if bytes_eq (codes "feed") name then Files
    else if bytes_eq (codes "roll") name then Keep
    else if bytes_eq (codes "merge") name then Keep
    else if bytes_eq (codes "shell") name then Keep
    else if bytes_eq (codes "explain") name then Number
    else if bytes_eq (codes "export") name then Messages
    else Width

-- of values that have one format: that a span ends before it begins, or what is said by the command's name
abbrev pub formatted_values : Text → List Row → LineError
formatted_values name rows = if are_swapped rows then Swapped else wrong_values_of name

-- of the names of the fields that `records` writes: that two formats are asked for, or which name is none of a field
abbrev pub wrong_names : List Row → Text → LineError
wrong_names rows names =
    if is_set (codes "json") rows then Formats
    else option_map_or Field (first_unknown names) (formatted_values (codes "records") rows)

-- of the values of `records`
abbrev pub wrong_records : List Row → LineError
wrong_records rows = option_map_or (wrong_names rows) (fields_in rows) (formatted_values (codes "records") rows)

-- of those of any other command: that two formats are asked for, or what is said of those of one format
abbrev pub wrong_others : Text → List Row → LineError
wrong_others name rows = if is_some (format_in rows) then formatted_values name rows else Formats

-- what is said of the values of a command
abbrev pub wrong_values_in : Text → List Row → LineError
wrong_values_in name rows =
    if bytes_eq (codes "records") name then wrong_records rows else wrong_others name rows

-- what is said of the values of what the parser finds
abbrev pub wrong_values : Option (Text × List Row) → LineError
wrong_values command = option_map_or (λ c. wrong_values_in c.0 c.1) command Width

-- The words don't ask, and this is said of their values, by their command.
abbrev pub IsOfValues : List (List ℕ) → LineError → Type 0
IsOfValues words e = (asked words ≡ None) × (e ≡ wrong_values (subcommand_of flowvault words))

-- That memory ran out may be reported whatever the words; else they don't ask, and what the parser says is one of its
-- faults of them.
abbrev pub IsLineError : List (List ℕ) → LineError → Type 0
IsLineError words OutOfMemory = ⊤
IsLineError words Width = IsOfValues words Width
IsLineError words Plan = IsOfValues words Plan
IsLineError words Span = IsOfValues words Span
IsLineError words Folders = IsOfValues words Folders
IsLineError words Flows = IsOfValues words Flows
IsLineError words Totals = IsOfValues words Totals
IsLineError words Swapped = IsOfValues words Swapped
IsLineError words Keep = IsOfValues words Keep
IsLineError words Files = IsOfValues words Files
IsLineError words Number = IsOfValues words Number
IsLineError words Messages = IsOfValues words Messages
IsLineError words Formats = IsOfValues words Formats
IsLineError words (Field name) = IsOfValues words (Field name)
IsLineError words (Parser error) = (asked words ≡ None) × HasKind (fault_of flowvault words) error
