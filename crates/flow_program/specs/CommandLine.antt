-- What the words of a command line ask for, and the commands that the parser of the command line is given.
use Rattle.std.specs.Prelude.{ℕ, Bool, true, false, ◌||◌, List, [], ◌∷◌, ◌++◌, Option, Some, None, option_map, codes}
use Rattle.std.specs.Prelude.{if◌then◌else◌}
use Rattle.std.specs.List.{list_any}
use Rattle.std.specs.Str.{bytes_eq}
use Rattle.flow_manifest.specs.Limits.{greatest_width}
use Rattle.clap.specs.declared.builder.action.ArgAction.TheVariants.{Append, Set, SetTrue}
use Rattle.clap.specs.Faults.{fault_of}
use Rattle.clap.specs.Kinds.{Kinds}
use Rattle.clap.specs.Walk.{Rule, Text}
use Rattle.clap.specs.Simple.{App, Shape, new_rule, new_shape, subcommand_of, with_subcommand}
use Rattle.flow_program.specs.declared.request.Request.{Request}
use Rattle.flow_program.specs.declared.request.Request.TheVariants.{Measure, Dump}
use Rattle.flow_report.specs.Numbers.{number_between}
use Rattle.flow_report.specs.declared.format.TheConstants.Format.{PLAIN}
use Rattle.flow_program.specs.Arguments.{request_in}

-- ---- what the parser is given

-- an argument that has to be there, once
abbrev pub needed : Text → Rule
needed id = record (new_rule id) { required = true; action = Some Set }

-- an argument that may be there, once
abbrev pub optional : Text → Rule
optional id = record (new_rule id) { action = Some Set }

-- an argument that may be there, any number of times
abbrev pub any_number : Text → Rule
any_number id = record (new_rule id) { action = Some Append }

-- an argument that has to be there, and may be there again
abbrev pub several : Text → Rule
several id = record (new_rule id) { required = true; action = Some Append }

-- an option with a value
abbrev pub option : Text → Text → Rule
option id name = record (new_rule id) { long = Some name; action = Some Set }

-- an option without a value
abbrev pub flag : Text → Rule
flag name = record (new_rule name) { long = Some name; action = Some SetTrue }

-- how rows, flows and domains are written
abbrev pub format_rules : List Rule
format_rules = flag (codes "csv") ∷ flag (codes "json") ∷ flag (codes "utc") ∷ []

abbrev pub width_rule : Rule
width_rule = needed (codes "WIDTH")

abbrev pub folder_rule : Rule
folder_rule = needed (codes "DIR")

abbrev pub measure_shape : Shape
measure_shape =
    record (new_shape (codes "measure")) { rules = width_rule ∷ format_rules ++ flag (codes "warn") ∷ [] }

abbrev pub dump_shape : Shape
dump_shape = new_shape (codes "dump")

-- the arguments of `create` but for its last
abbrev pub sized_shape : Shape
sized_shape = record (new_shape (codes "create")) {
  rules = folder_rule ∷ width_rule ∷ option (codes "N") (codes "limit") ∷ [];
}

abbrev pub create_shape : Shape
create_shape = record sized_shape { rules = sized_shape.rules ++ option (codes "SECONDS") (codes "wide") ∷ [] }

abbrev pub inspect_shape : Shape
inspect_shape = record (new_shape (codes "inspect")) { rules = any_number (codes "FILE") ∷ format_rules }

abbrev pub check_shape : Shape
check_shape = record (new_shape (codes "check")) { rules = several (codes "DIR") ∷ flag (codes "files") ∷ [] }

-- the span of starts that `flows` asks about, by numbers
abbrev pub span_shape : Text → Shape
span_shape name = record (new_shape name) {
  rules = folder_rule ∷ optional (codes "FROM") ∷ optional (codes "TO") ∷ [];
}

-- or by moments
abbrev pub since_rule : Rule
since_rule = option (codes "SINCE") (codes "since")

abbrev pub until_rule : Rule
until_rule = option (codes "UNTIL") (codes "until")

abbrev pub moment_rules : List Rule
moment_rules = since_rule ∷ until_rule ∷ []

abbrev pub moments_shape : Text → Shape
moments_shape name = record (span_shape name) { rules = (span_shape name).rules ++ moment_rules }

-- `records`
abbrev pub records_shape : Shape
records_shape = record (moments_shape (codes "records")) {
  rules = (moments_shape (codes "records")).rules
      ++ option (codes "FIELDS") (codes "csv") ∷ flag (codes "json") ∷ flag (codes "utc") ∷ [];
}

-- the folders that `totals` and `flows` ask, and after them a span by numbers, or moments in their place
abbrev pub folders_shape : Text → Shape
folders_shape name = record (new_shape name) { rules = several (codes "DIR") ∷ moment_rules }

-- in a format
abbrev pub asking_shape : Text → Shape
asking_shape name = record (folders_shape name) { rules = (folders_shape name).rules ++ format_rules }

abbrev pub summed_shape : Shape
summed_shape = asking_shape (codes "totals")

-- and how many workers scan one archive, or whether each archive is answered by itself
abbrev pub totals_shape : Shape
totals_shape = record summed_shape {
  rules = summed_shape.rules ++ option (codes "WORKERS") (codes "workers") ∷ flag (codes "each") ∷ [];
}

-- `roll` and `merge`
abbrev pub keep_shape : Text → Shape
keep_shape name = record (new_shape name) { rules = folder_rule ∷ needed (codes "KEEP") ∷ [] }

-- the first arguments of `feed`
abbrev pub kept_shape : Shape
kept_shape = record (new_shape (codes "feed")) {
  rules = folder_rule ∷ several (codes "FILE") ∷ option (codes "KEEP") (codes "keep") ∷ [];
}

-- one more
abbrev pub merging_shape : Shape
merging_shape = record kept_shape { rules = kept_shape.rules ++ option (codes "LEFT") (codes "merge") ∷ [] }

-- all but its very last ones
abbrev pub passing_shape : Shape
passing_shape = record merging_shape {
  rules = merging_shape.rules ++ option (codes "COUNT") (codes "from") ∷ flag (codes "warn") ∷ [];
}

abbrev pub feed_shape : Shape
feed_shape = record passing_shape {
  rules = passing_shape.rules ++ flag (codes "datagrams") ∷ option (codes "PATH") (codes "end-on") ∷ [];
}

-- the arguments of `export` that ask by numbers
abbrev pub numbered_shape : Shape
numbered_shape = record (new_shape (codes "export")) {
  rules = folder_rule ∷ option (codes "N") (codes "from") ∷ option (codes "M") (codes "to") ∷ [];
}

-- and by moments
abbrev pub export_shape : Shape
export_shape = record numbered_shape { rules = numbered_shape.rules ++ moment_rules }

abbrev pub templates_shape : Shape
templates_shape = record (new_shape (codes "templates")) { rules = folder_rule ∷ [] }

abbrev pub shell_shape : Shape
shell_shape = record (new_shape (codes "shell")) {
  rules = folder_rule ∷ option (codes "KEEP") (codes "keep") ∷ option (codes "LEFT") (codes "merge") ∷ [];
}

abbrev pub program : App
program = record {
  top = record (new_shape (codes "flowvault")) { has_version = true; subcommand_required = true };
  subs = [];
}

abbrev pub explain_shape : Shape
explain_shape = record (new_shape (codes "explain")) { rules = needed (codes "NUMBER") ∷ [] }

-- the commands whose arguments are asked for as the parser reads them
abbrev pub parsed_names : List Text
parsed_names = codes "inspect" ∷ codes "create" ∷ codes "check" ∷ codes "totals" ∷ codes "flows" ∷ codes "records"
    ∷ codes "export" ∷ codes "templates" ∷ codes "feed" ∷ codes "shell" ∷ codes "roll" ∷ codes "merge"
    ∷ codes "explain" ∷ []

-- the program with the commands that read standard input
abbrev pub with_streams : App
with_streams = with_subcommand (with_subcommand (with_subcommand program measure_shape) dump_shape) inspect_shape

-- and with those that make or open an archive, and ask it nothing
abbrev pub with_archives : App
with_archives = with_subcommand (with_subcommand with_streams create_shape) check_shape

-- and with those that ask it
abbrev pub with_queries : App
with_queries =
    with_subcommand (with_subcommand (with_subcommand with_archives totals_shape) (asking_shape (codes "flows")))
    records_shape

-- and with those that export it
abbrev pub with_exports : App
with_exports = with_subcommand (with_subcommand with_queries export_shape) templates_shape

-- and with those that take Files into it
abbrev pub with_feeding : App
with_feeding = with_subcommand (with_subcommand with_exports feed_shape) shell_shape

-- and with those that roll its files
abbrev pub with_rolling : App
with_rolling =
    with_subcommand (with_subcommand with_feeding (keep_shape (codes "roll"))) (keep_shape (codes "merge"))

-- and with all commands
abbrev pub flowvault : App
flowvault = with_subcommand with_rolling explain_shape

-- ---- what is asked for

-- the words but for the first `--`, after which a parser takes no word for an option
abbrev pub without_dashes : List (List ℕ) → List (List ℕ)
without_dashes [] = []
without_dashes (word ∷ rest) = if bytes_eq word (codes "--") then rest else word ∷ without_dashes rest

-- one argument: digits alone, from 1 to 86,400
abbrev pub measure_of : List (List ℕ) → Option Request
measure_of [] = None
measure_of (word ∷ []) = option_map (λ width. Measure width PLAIN false) (number_between 1 greatest_width word)
measure_of (word ∷ other ∷ rest) = None

-- an option of `measure`
abbrev pub is_option : List ℕ → Bool
is_option word = bytes_eq (codes "--csv") word || bytes_eq (codes "--json") word || bytes_eq (codes "--utc") word
    || bytes_eq (codes "--warn") word

-- one of them is before the first `--`
abbrev pub asks_option : List (List ℕ) → Bool
asks_option [] = false
asks_option (word ∷ rest) = if bytes_eq word (codes "--") then false else is_option word || asks_option rest

-- no argument
abbrev pub dump_of : List (List ℕ) → Option Request
dump_of [] = Some Dump
dump_of (word ∷ rest) = None

abbrev pub is_parsed : List ℕ → Bool
is_parsed command = list_any (λ name. bytes_eq name command) parsed_names

-- what was made, where there is no fault
abbrev pub unless : Kinds → Option Request → Option Request
unless [] made = made
unless (fault ∷ faults) made = None

-- what the values ask for that the parser finds in words, where it finds no fault
abbrev pub parsed : List (List ℕ) → Option Request
parsed words = unless (fault_of flowvault words) (request_in (subcommand_of flowvault words))

-- The program's name, a command, and the command's arguments: of `dump`, and of `measure` without an option, word by
-- word; of the others as the parser reads them.
abbrev pub asked : List (List ℕ) → Option Request
asked [] = None
asked (name ∷ []) = None
asked (name ∷ command ∷ arguments) =
    if bytes_eq (codes "measure") command then
    if asks_option arguments then parsed (name ∷ command ∷ arguments) else measure_of (without_dashes arguments)
    else if bytes_eq (codes "dump") command then dump_of (without_dashes arguments)
    else if is_parsed command then parsed (name ∷ command ∷ arguments)
    else None
