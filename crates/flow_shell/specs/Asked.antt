-- What a line asks of the shell.
use Rattle.std.specs.Prelude.{◌≡◌, ◌≢◌, ◌⊎◌, ⊤, ℕ, zero, suc, ◌-◌, ◌==◌, List, [], ◌∷◌, Option, Some, None, IfSome}
use Rattle.std.specs.Prelude.{codes, length, option_map, option_and_then, take, if◌then◌else◌}
use Rattle.std.specs.Io.BufRead.{drop_through, first_piece}
use Rattle.std.specs.List.{before_first, after_first, ends_with}
use Rattle.std.specs.Str.{bytes_eq}
use Rattle.flow_report.specs.Numbers.{number_between}
use Rattle.flow_manifest.specs.Limits.{too_many_messages}
use Rattle.flow_commands.specs.Plans.{Span}
use Rattle.flow_commands.specs.declared.plan.InputKind.{InputKind}
use Rattle.flow_commands.specs.declared.plan.InputKind.TheVariants.{File, Datagrams}
use Rattle.flow_roller.specs.Asked.{to_keep, to_merge, Asked}
use Rattle.flow_shell.specs.declared.asked.Query.{Query}
use Rattle.flow_shell.specs.declared.asked.Query.TheVariants.{Totals, Flows, Message, Check}
use Rattle.flow_shell.specs.declared.asked.ShellRequest.{ShellRequest}
use Rattle.flow_shell.specs.declared.asked.ShellRequest.TheVariants.{Ask, Feed, Collect, Keep, Merge, Losses, Wait}
use Rattle.flow_shell.specs.declared.asked.ShellRequest.TheVariants.{Quit}

-- the part of a line before its first space, and what comes after that
abbrev pub name_of : List ℕ → List ℕ
name_of line = before_first (λ octet. octet == 32) line

abbrev pub rest_of : List ℕ → List ℕ
rest_of line = after_first (λ octet. octet == 32) line

-- seconds since 1970-01-01 00:00 UTC, up to 2^32
abbrev pub span_in : List ℕ → Option Span
span_in words =
    option_and_then (λ from. option_map (λ to. record { from = from; to = to })
    (number_between 0 4294967296 (rest_of words))) (number_between 0 4294967296 (name_of words))

-- the number of a message, up to 2^48 - 1
abbrev pub message_in : List ℕ → Option ℕ
message_in word = number_between 0 (too_many_messages - 1) word

abbrev pub keep_in : List ℕ → Option ℕ
keep_in word = number_between 0 4294967295 word

-- the path of a File, which isn't empty
abbrev pub path_in : List ℕ → Option (List ℕ)
path_in [] = None
path_in (octet ∷ octets) = Some (octet ∷ octets)

-- a File at a path, by messages or by datagrams
abbrev pub fed_in : List ℕ → Option ShellRequest
fed_in path = option_map Feed (path_in path)

abbrev pub collected_in : List ℕ → Option ShellRequest
collected_in path = option_map Collect (path_in path)

-- the File that words name: by datagrams, where that is the last of several
abbrev pub file_in : List ℕ → Option ShellRequest
file_in words =
    if ends_with (λ a b. a == b) words (codes " datagrams") then collected_in (take (length words - 10) words)
    else fed_in words

-- what a question's name, and the words after it, ask for
abbrev pub query_by_name : List ℕ → List ℕ → Option Query
query_by_name name rest =
    if bytes_eq (codes "totals") name then option_map Totals (span_in rest)
    else if bytes_eq (codes "flows") name then option_map Flows (span_in rest)
    else if bytes_eq (codes "message") name then option_map Message (message_in rest)
    else None

-- what a name and the words after it ask for
abbrev pub by_name : List ℕ → List ℕ → Option ShellRequest
by_name name rest =
    if bytes_eq (codes "feed") name then file_in rest
    else if bytes_eq (codes "keep") name then option_map Keep (keep_in rest)
    else if bytes_eq (codes "merge") name then option_map Merge (keep_in rest)
    else option_map Ask (query_by_name name rest)

-- what a line asks for
abbrev pub request_in : List ℕ → Option ShellRequest
request_in line =
    if bytes_eq (codes "check") line then Some (Ask Check)
    else if bytes_eq (codes "losses") line then Some Losses
    else if bytes_eq (codes "wait") line then Some Wait
    else if bytes_eq (codes "quit") line then Some Quit
    else by_name (name_of line) (rest_of line)

-- the File that a request asks to be fed, by its path, and how: from its first message on, or by datagrams
abbrev pub feed_of : ShellRequest → Option (List ℕ × InputKind)
feed_of (Feed path) = Some (path, File 0)
feed_of (Collect path) = Some (path, Datagrams)
feed_of (Ask query) = None
feed_of (Keep keep) = None
feed_of (Merge keep) = None
feed_of Losses = None
feed_of Wait = None
feed_of Quit = None

-- the same of a line
abbrev pub feed_in : List ℕ → Option (List ℕ × InputKind)
feed_in line = option_and_then feed_of (request_in line)

-- what a request asks of the roller
abbrev pub rolling_of : ShellRequest → Option Asked
rolling_of (Keep keep) = Some (to_keep keep)
rolling_of (Merge keep) = Some (to_merge (Some keep))
rolling_of (Ask query) = None
rolling_of (Feed path) = None
rolling_of (Collect path) = None
rolling_of Losses = None
rolling_of Wait = None
rolling_of Quit = None

-- the same of a line
abbrev pub rolling_in : List ℕ → Option Asked
rolling_in line = option_and_then rolling_of (request_in line)

-- ---- what an input asks for

-- what is left of an input after so many lines
abbrev pub after_lines : ℕ → List ℕ → List ℕ
after_lines zero octets = octets
after_lines (suc n) octets = after_lines n (drop_through 10 octets)

-- The next line of an input whose octets are known, without its line feed, and what is left after it.
abbrev pub IsNextLine : Option (List ℕ) → Option (List ℕ) → List ℕ → Type 0
IsNextLine old left line =
    IfSome old (λ octets. (octets ≢ []) × (line ≡ first_piece 10 octets) × (left ≡ Some (drop_through 10 octets)))

-- One of the lines of an input is such. Of an input of which it isn't known what it has nothing is said.
abbrev pub HasLine : (List ℕ → Type 0) → Option (List ℕ) → Type 0
HasLine is None = ⊤
HasLine is (Some octets) = (n : ℕ) × is (first_piece 10 (after_lines n octets))

-- A line of the input asks this of the roller: that so many segments are kept, or so many rolled files.
abbrev pub AsksToRoll : Option (List ℕ) → Asked → Type 0
AsksToRoll input any = HasLine (λ line. rolling_in line ≡ Some any) input

-- A line of the input asks that the File at this path is fed so.
abbrev pub AsksToFeed : Option (List ℕ) → List ℕ → InputKind → Type 0
AsksToFeed input path kind = HasLine (λ line. feed_in line ≡ Some (path, kind)) input

-- So many segments and rolled files may be kept: as many as at first, or as a line of the input asks for.
abbrev pub MayKeep : ℕ → Option ℕ → Option (List ℕ) → Asked → Type 0
MayKeep keep merge input any = (any ≡ to_keep keep) ⊎ (any ≡ to_merge merge) ⊎ AsksToRoll input any
