-- The lines on standard error of wrong words, and of refusals.
use Rattle.std.specs.Prelude.{ℕ, List, ◌++◌, ◌==◌, codes}
use Rattle.std.specs.List.{before_first}
use Rattle.flow_report.specs.Printed.{line_of}
use Rattle.clap.specs.declared.error.kind.ErrorKind.{ErrorKind}
use Rattle.clap.specs.declared.error.kind.ErrorKind.TheVariants.{MissingSubcommand, MissingRequiredArgument}
use Rattle.clap.specs.Values.{kind_of}
use Rattle.flow_program.specs.declared.request.LineError.{LineError}
use Rattle.flow_program.specs.declared.request.LineError.TheVariants as line

-- no command; an argument is missing; any other word
abbrev pub kind_text : ErrorKind → List ℕ
kind_text MissingSubcommand = codes "a command is needed: flowvault --help lists them"
kind_text MissingRequiredArgument =
    codes "an argument is missing: flowvault help COMMAND lists them"
kind_text _ = codes "a word isn't understood: flowvault help COMMAND lists what it takes; measure and dump read standard input"

-- a name that no field has
abbrev pub field_text : List ℕ → List ℕ
field_text name = codes "--csv names fields as --json does: no field is named '" ++ name ++ codes "'"

abbrev pub words_text : LineError → List ℕ
words_text (line.Parser error) = kind_text (kind_of error)
words_text line.Width = codes "WIDTH is 1 to 86400, digits alone, as in: flowvault measure 300 < FILE"
words_text line.Plan =
    codes "WIDTH is 1 to 86400, --limit 65535 to 16777216, --wide a multiple of WIDTH up to 86400, all digits alone"
words_text line.Span =
    codes "FROM and TO are seconds since 1970-01-01 00:00 UTC, digits alone, 0 to 4294967296; --since and --until, "
    ++ codes "in their place, are as 2026-11-25, 2026-11-25T06:00, 1d, 6h or now"
words_text line.Folders = codes "DIR is given 1 to 4096 times"
words_text line.Flows =
    codes "FROM and TO are seconds since 1970-01-01 00:00 UTC, digits alone, 0 to 4294967296; --since and --until, "
    ++ codes "in their place, are as 2026-11-25, 2026-11-25T06:00, 1d, 6h or now; DIR is given 1 to 4096 times"
words_text line.Totals =
    codes "FROM and TO are seconds since 1970-01-01 00:00 UTC, digits alone, 0 to 4294967296; --since and --until, "
    ++ codes "in their place, are as 2026-11-25, 2026-11-25T06:00, 1d, 6h or now; DIR is given 1 to 4096 times; "
    ++ codes "--workers is 1 to 64, with one DIR and without --each"
words_text line.Swapped = codes "--since is later than --until: the span ends before it begins"
words_text line.Keep = codes "KEEP is how many of the newest files are left, digits alone, 0 to 4294967295"
words_text line.Files =
    codes "FILE is given 1 to 8 times, but once with --from, 0 to 281474976710655, and without --datagrams; "
    ++ codes "--keep and --merge are how many of the newest segments, and rolled files, are left, 0 to 4294967295"
words_text line.Number = codes "no refusal has this NUMBER: they are 1 to 11, 14 to 17, 20 to 27, 30 to 32, 40 to 52"
words_text line.Messages =
    codes "--from is 1 to 281474976710655, --to up to 281474976710655 and at least --from less 1, digits alone; "
    ++ codes "--since and --until, in their place, are as 2026-11-25, 2026-11-25T06:00, 1d, 6h or now, "
    ++ codes "the first earlier"
words_text line.Formats = codes "--csv and --json are two formats: one of them is taken, not both"
words_text (line.Field name) = field_text name
words_text line.OutOfMemory = codes "11 OutOfMemory"

-- the text before its first space: of a refusal's text its number
abbrev pub first_word : List ℕ → List ℕ
first_word text = before_first (λ octet. octet == 32) text

-- the lines of a refusal: its text, and how to ask what its number means
abbrev pub told_lines : List ℕ → List ℕ
told_lines text = line_of text ++ line_of (codes "see: flowvault explain " ++ first_word text)
