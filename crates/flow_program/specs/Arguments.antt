-- What a command asks for, by its name and the values that were found for its arguments.
use Rattle.std.specs.Prelude.{ℕ, ◌%◌, ◌==◌, ◌&&◌, ◌||◌, is_some, List, Option, Some, None, option_map, option_and_then}
use Rattle.std.specs.Prelude.{codes, ◌-◌, if◌then◌else◌, [], get_or, length, nat_le, nat_lt, not, take, Bool, true, false}
use Rattle.std.specs.List.{list_any}
use Rattle.std.specs.Option.{option_map_or}
use Rattle.std.specs.Str.{bytes_eq}
use Rattle.flow_manifest.specs.Limits.{greatest_width, least_limit, greatest_limit, too_many_messages}
use Rattle.clap.specs.Walk.{Row, Text, all_of, first_of}
use Rattle.flow_program.specs.declared.request.Request.{Request}
use Rattle.flow_program.specs.declared.request.Request.TheVariants.{Measure, Dump, Inspect, InspectFiles}
use Rattle.flow_program.specs.declared.request.Request.TheVariants.{Create, Check, CheckFiles, CheckSeveral}
use Rattle.flow_program.specs.declared.request.Request.TheVariants.{Totals, TotalsOfSeveral, Flows, FlowsOfSeveral, Records}
use Rattle.flow_program.specs.declared.request.Request.TheVariants.{Feed, Shell, Roll, Merge, Explain}
use Rattle.flow_program.specs.declared.request.Request.TheVariants.{Export, ExportByTime, Templates}
use Rattle.flow_export.specs.declared.span.MessageSpan.{MessageSpan}
use Rattle.flow_refusals.specs.Table.{is_refusal}
use Rattle.flow_program.specs.declared.arguments.MomentSpan.{MomentSpan}
use Rattle.flow_moments.specs.declared.moment.Moment.{Moment}
use Rattle.flow_moments.specs.declared.moment.Moment.TheVariants.{Ago, Second}
use Rattle.flow_moments.specs.Moments.{is_relative, moment_of, second_at}
use Rattle.flow_columns.specs.declared.names.LineFormat.{LineFormat}
use Rattle.flow_columns.specs.declared.names.LineFormat.TheVariants.{Columns, Whole}
use Rattle.flow_columns.specs.Columns.{first_unknown}
use Rattle.flow_report.specs.declared.format.Format.{Format}
use Rattle.flow_report.specs.declared.format.Layout.{Layout}
use Rattle.flow_report.specs.declared.format.Layout.TheVariants.{Lines, Csv, Json}
use Rattle.flow_report.specs.declared.format.Times.{Times}
use Rattle.flow_report.specs.declared.format.Times.TheVariants.{Seconds, Dates}
use Rattle.flow_report.specs.declared.records.RecordFormat.{RecordFormat}
use Rattle.flow_report.specs.declared.records.RecordLayout.TheVariants as records
use Rattle.flow_report.specs.Numbers.{number_between}
use Rattle.flow_commands.specs.declared.plan.FeedPlan.{FeedPlan}
use Rattle.flow_commands.specs.Plans.{Plan, Span}

abbrev pub width_in : List Row → Option ℕ
width_in rows = option_and_then (number_between 1 greatest_width) (first_of (codes "WIDTH") rows)

-- an option without a value is there
abbrev pub is_set : Text → List Row → Bool
is_set id rows = option_map_or (bytes_eq (codes "true")) (first_of id rows) false

-- one layout at most: lines where none is asked for
abbrev pub layout_of : Bool → Bool → Option Layout
layout_of true true = None
layout_of true false = Some Csv
layout_of false true = Some Json
layout_of false false = Some Lines

abbrev pub layout_in : List Row → Option Layout
layout_in rows = layout_of (is_set (codes "csv") rows) (is_set (codes "json") rows)

-- times as dates, where that is asked for
abbrev pub times_in : List Row → Times
times_in rows = if is_set (codes "utc") rows then Dates else Seconds

abbrev pub format_in : List Row → Option Format
format_in rows = option_map (λ layout. record { layout = layout; times = times_in rows }) (layout_in rows)

-- how `records` writes all fields: as JSON where that is asked for
abbrev pub record_format_in : List Row → RecordFormat
record_format_in rows = record {
  layout = if is_set (codes "json") rows then records.Json else records.Lines;
  times = times_in rows;
}

-- the names of the fields that `records` writes
abbrev pub fields_in : List Row → Option Text
fields_in rows = first_of (codes "FIELDS") rows

-- as CSV the fields that are named, where each name is known, and JSON isn't asked for
abbrev pub columns_in : List Row → Text → Option LineFormat
columns_in rows names =
    if is_set (codes "json") rows || is_some (first_unknown names) then None
    else Some (Columns names (times_in rows))

-- how `records` writes: the fields that are named, or all
abbrev pub line_format_in : List Row → Option LineFormat
line_format_in rows = option_map_or (columns_in rows) (fields_in rows) (Some (Whole (record_format_in rows)))

-- what `measure` asks for
abbrev pub measured_in : List Row → Option Request
measured_in rows =
    option_and_then (λ format. option_map (λ width. Measure width format (is_set (codes "warn") rows)) (width_in rows))
    (format_in rows)

-- the octets of messages that a segment takes: 1,048,576 where nothing else is asked for
abbrev pub limit_in : List Row → Option ℕ
limit_in rows = option_map_or (number_between least_limit greatest_limit) (first_of (codes "N") rows) (Some 1048576)

-- a multiple of the width, up to a day
abbrev pub multiple_of : ℕ → Text → Option (Option ℕ)
multiple_of width word =
    option_and_then (λ n. if n % width == 0 then Some (Some n) else None) (number_between width greatest_width word)

-- the wide width, where one is asked for
abbrev pub wide_in : ℕ → List Row → Option (Option ℕ)
wide_in width rows = option_map_or (multiple_of width) (first_of (codes "SECONDS") rows) (Some None)

abbrev pub plan_in : List Row → Option Plan
plan_in rows =
    option_and_then (λ width. option_and_then (λ limit. option_map (λ wide. record {
      width = width;
      wide = wide;
      limit = limit;
    }) (wide_in width rows)) (limit_in rows)) (width_in rows)

-- seconds since 1970-01-01 00:00 UTC, up to 2^32
abbrev pub second_in : Text → List Row → Option ℕ
second_in id rows = option_and_then (number_between 0 4294967296) (first_of id rows)

-- a span by its seconds, where it is now the second `now`
abbrev pub span_at : ℕ → MomentSpan → Span
span_at now span = record { from = second_at now span.from; to = second_at now span.to }

-- one of them depends on what second it is now
abbrev pub depends_on_now : MomentSpan → Bool
depends_on_now span = is_relative span.from || is_relative span.to

-- FROM and TO
abbrev pub numbered_span_in : List Row → Option MomentSpan
numbered_span_in rows =
    option_and_then (λ from. option_map (λ to. record { from = Second from; to = Second to })
    (second_in (codes "TO") rows)) (second_in (codes "FROM") rows)

-- a moment by an option, or the usual one
abbrev pub moment_in : Text → Moment → List Row → Option Moment
moment_in id usual rows = option_map_or moment_of (first_of id rows) (Some usual)

-- an argument is there
abbrev pub is_given : Text → List Row → Bool
is_given id rows = is_some (first_of id rows)

-- `--since` and `--until`, and no number beside them: all seconds but where one of them says less
abbrev pub worded_span_in : List Row → Option MomentSpan
worded_span_in rows =
    if is_given (codes "FROM") rows then None
    else option_and_then (λ from. option_map (λ to. record { from = from; to = to })
    (moment_in (codes "UNTIL") (Second 4294967296) rows)) (moment_in (codes "SINCE") (Second 0) rows)

-- the first of two moments is later, whatever second it is now
abbrev pub is_later : Moment → Moment → Bool
is_later (Second a) (Second b) = nat_lt b a
is_later (Ago a) (Ago b) = nat_lt a b
is_later (Second a) (Ago b) = false
is_later (Ago a) (Second b) = false

-- a span that doesn't end before it begins
abbrev pub forward : MomentSpan → Option MomentSpan
forward span = if is_later span.from span.to then None else Some span

-- the span is given by moments
abbrev pub is_by_moments : List Row → Bool
is_by_moments rows = is_given (codes "SINCE") rows || is_given (codes "UNTIL") rows

abbrev pub span_in : List Row → Option MomentSpan
span_in rows =
    if is_by_moments rows then option_and_then forward (worded_span_in rows) else numbered_span_in rows

-- `--since` is later than `--until`
abbrev pub are_swapped : List Row → Bool
are_swapped rows = option_map_or (λ span. is_later span.from span.to) (worded_span_in rows) false

abbrev pub folder_in : List Row → Option Text
folder_in rows = first_of (codes "DIR") rows

-- what `create` asks for
abbrev pub create_in : List Row → Option Request
create_in rows = option_and_then (λ folder. option_map (Create folder) (plan_in rows)) (folder_in rows)

-- how many workers scan, where that is said: 1 to 64
abbrev pub workers_in : List Row → Option (Option ℕ)
workers_in rows =
    option_map_or (λ word. option_map Some (number_between 1 64 word)) (first_of (codes "WORKERS") rows) (Some None)

-- a span by two numbers
abbrev pub span_of : Text → Text → Option MomentSpan
span_of from to =
    option_and_then (λ first. option_map (λ last. record { from = Second first; to = Second last })
    (number_between 0 4294967296 to)) (number_between 0 4294967296 from)

-- the span that the last two words are
abbrev pub last_span_of : List Text → Option MomentSpan
last_span_of words =
    if nat_lt (length words) 2 then None
    else span_of (get_or words (length words - 2) []) (get_or words (length words - 1) [])

-- the span of `totals` and `flows`: by moments, or by the last two of its words
abbrev pub totals_span_in : List Row → List Text → Option MomentSpan
totals_span_in rows words =
    if is_by_moments rows then option_and_then forward (worded_span_in rows) else last_span_of words

-- their folders: all of their words, or those before the span
abbrev pub folders_of : List Row → List Text → List Text
folders_of rows words = if is_by_moments rows then words else take (length words - 2) words

-- One archive alone, by so many workers; or 1 to 4,096 archives, without a word of workers: all together, or each by
-- itself.
abbrev pub totalled : List Text → MomentSpan → Option ℕ → Bool → Format → Option Request
totalled folders span workers each format =
    if length folders == 1 && not each then Some (Totals (get_or folders 0 []) span workers format)
    else if length folders == 0 || is_some workers || nat_lt 4096 (length folders) then None
    else Some (TotalsOfSeveral folders span each format)

-- what `totals` asks for
abbrev pub totalled_in : List Row → Option Request
totalled_in rows = option_and_then (λ words. option_and_then (λ span. option_and_then (λ workers. option_and_then
    (totalled (folders_of rows words) span workers (is_set (codes "each") rows)) (format_in rows)) (workers_in rows))
    (totals_span_in rows words)) (all_of (codes "DIR") rows)

-- one archive alone, or 2 to 4,096
abbrev pub listed : List Text → MomentSpan → Format → Option Request
listed folders span format =
    if length folders == 1 then Some (Flows (get_or folders 0 []) span format)
    else if length folders == 0 || nat_lt 4096 (length folders) then None
    else Some (FlowsOfSeveral folders span format)

-- what `flows` asks for
abbrev pub listed_in : List Row → Option Request
listed_in rows = option_and_then (λ words. option_and_then (λ span. option_and_then
    (listed (folders_of rows words) span) (format_in rows)) (totals_span_in rows words)) (all_of (codes "DIR") rows)

-- what `records` asks for
abbrev pub recorded_in : List Row → Option Request
recorded_in rows =
    option_and_then (λ folder. option_and_then (λ span. option_map (Records folder span) (line_format_in rows))
    (span_in rows)) (folder_in rows)

-- how many of the newest files are left
abbrev pub keep_in : List Row → Option ℕ
keep_in rows = option_and_then (number_between 0 4294967295) (first_of (codes "KEEP") rows)

-- what `roll` and `merge` ask for
abbrev pub rolled_in : (Text → ℕ → Request) → List Row → Option Request
rolled_in request rows = option_and_then (λ folder. option_map (request folder) (keep_in rows)) (folder_in rows)

-- how many of the newest segments are left, or as many as usual
abbrev pub kept_or : ℕ → List Row → Option ℕ
kept_or usual rows = option_map_or (number_between 0 4294967295) (first_of (codes "KEEP") rows) (Some usual)

-- how many of the newest rolled files are left, where older ones are merged
abbrev pub merge_in : List Row → Option (Option ℕ)
merge_in rows =
    option_map_or (λ word. option_map Some (number_between 0 4294967295 word)) (first_of (codes "LEFT") rows)
    (Some None)

-- how many of the first messages of a File are only read: none where nothing is asked for
abbrev pub passed_in : List Row → Option ℕ
passed_in rows = option_map_or (number_between 0 (too_many_messages - 1)) (first_of (codes "COUNT") rows) (Some 0)

-- how Files are fed: of the segments 8 are left where nothing else is asked for
abbrev pub feeding_in : List Row → Option FeedPlan
feeding_in rows =
    option_and_then (λ keep. option_and_then (λ merge. option_map (λ passed. record {
      keep = keep;
      merge = merge;
      passed = passed;
      warn = is_set (codes "warn") rows;
      datagrams = is_set (codes "datagrams") rows;
      ends = is_given (codes "PATH") rows;
    }) (passed_in rows)) (merge_in rows)) (kept_or 8 rows)

-- Messages of one File alone are passed: `--from`, whatever its number, goes with no other File, and with no datagrams.
abbrev pub fed_alone : Bool → Text → FeedPlan → Option Text → List Text → Option Request
fed_alone passes folder plan end_on files =
    if passes && (plan.datagrams || nat_lt 1 (length files)) then None else Some (Feed folder plan end_on files)

-- the file that ends a feed, where one is given
abbrev pub end_in : List Row → Option Text
end_in rows = first_of (codes "PATH") rows

-- at most 8 Files
abbrev pub few_of : List Text → Option (List Text)
few_of files = if nat_lt 8 (length files) then None else Some files

-- the Files that are given, where there is one
abbrev pub given_in : List Row → Option (List Text)
given_in rows = all_of (codes "FILE") rows

abbrev pub files_in : List Row → Option (List Text)
files_in rows = option_and_then few_of (given_in rows)

-- standard input is one of these Files
abbrev pub has_input : List Text → Bool
has_input files = list_any (λ file. bytes_eq file (codes "-")) files

-- what `inspect` asks for: of standard input, or of the Files that are given
abbrev pub inspected_of : Option (List Text) → Format → Request
inspected_of None format = Inspect format
inspected_of (Some files) format = InspectFiles format files

abbrev pub inspected_in : List Row → Option Request
inspected_in rows = option_map (inspected_of (given_in rows)) (format_in rows)

-- what `feed` asks for
abbrev pub fed_in : List Row → Option Request
fed_in rows = option_and_then (λ folder. option_and_then (λ plan.
    option_and_then (fed_alone (is_given (codes "COUNT") rows) folder plan (end_in rows)) (files_in rows)) (feeding_in rows))
    (folder_in rows)

-- what `explain` asks for: the number of a refusal
abbrev pub explained_in : List Row → Option ℕ
explained_in rows =
    option_and_then (λ n. if is_refusal n then Some n else None)
    (option_and_then (number_between 0 99) (first_of (codes "NUMBER") rows))

-- what `shell` asks for: all segments are left where nothing else is asked for
abbrev pub shelled_in : List Row → Option Request
shelled_in rows =
    option_and_then (λ folder. option_and_then (λ keep. option_map (Shell folder keep) (merge_in rows))
    (kept_or 4294967295 rows)) (folder_in rows)

-- the number of the first message that `export` asks for, where one is given, and that of the last, or else the greatest
abbrev pub first_in : List Row → Option (Option ℕ)
first_in rows =
    option_map_or (λ word. option_map Some (number_between 1 (too_many_messages - 1) word)) (first_of (codes "N") rows)
    (Some None)

abbrev pub last_in : List Row → Option ℕ
last_in rows =
    option_map_or (number_between 0 (too_many_messages - 1)) (first_of (codes "M") rows) (Some (too_many_messages - 1))

-- the last one isn't before the one that comes before the first
abbrev pub ordered : MessageSpan → Option MessageSpan
ordered span = if option_map_or (λ from. nat_lt span.to (from - 1)) span.from false then None else Some span

abbrev pub messages_in : List Row → Option MessageSpan
messages_in rows =
    option_and_then (λ from. option_and_then (λ to. ordered (record { from = from; to = to })) (last_in rows))
    (first_in rows)

-- messages are asked for by their numbers
abbrev pub is_by_numbers : List Row → Bool
is_by_numbers rows = is_given (codes "N") rows || is_given (codes "M") rows

-- the first of two moments isn't before the second, whatever second it is now
abbrev pub is_not_before : Moment → Moment → Bool
is_not_before (Second a) (Second b) = nat_le b a
is_not_before (Ago a) (Ago b) = nat_le a b
is_not_before (Second a) (Ago b) = false
is_not_before (Ago a) (Second b) = false

-- a span that begins before it ends
abbrev pub lasting : MomentSpan → Option MomentSpan
lasting span = if is_not_before span.from span.to then None else Some span

-- `--since` and `--until`, the first before the second, and no number of a message beside them
abbrev pub time_in : List Row → Option MomentSpan
time_in rows = if is_by_numbers rows then None else option_and_then lasting (worded_span_in rows)

-- what `export` asks for: messages by their numbers, or those of a span of time
abbrev pub exported_in : List Row → Option Request
exported_in rows =
    option_and_then (λ folder. if is_by_moments rows then option_map (ExportByTime folder) (time_in rows)
    else option_map (Export folder) (messages_in rows)) (folder_in rows)

-- what the name of a command that exports an archive, and the values of its arguments, ask for
abbrev pub exporting : Text → List Row → Option Request
exporting name rows =
    if bytes_eq (codes "export") name then exported_in rows
    else if bytes_eq (codes "templates") name then option_map Templates (folder_in rows)
    else None

-- what the name of a command that changes an archive, and the values of its arguments, ask for
abbrev pub changing : Text → List Row → Option Request
changing name rows =
    if bytes_eq (codes "roll") name then rolled_in Roll rows
    else if bytes_eq (codes "merge") name then rolled_in Merge rows
    else if bytes_eq (codes "shell") name then shelled_in rows
    else exporting name rows

-- what a query's name and the values of its arguments ask for
abbrev pub queried : Text → List Row → Option Request
queried name rows =
    if bytes_eq (codes "records") name then recorded_in rows
    else if bytes_eq (codes "explain") name then option_map Explain (explained_in rows)
    else changing name rows

-- one archive alone, or 2 to 4,096: with their files, or without
abbrev pub checked : List Text → Bool → Option Request
checked folders files =
    if length folders == 1 then Some (if files then CheckFiles (get_or folders 0 []) else Check (get_or folders 0 []))
    else if length folders == 0 || nat_lt 4096 (length folders) then None
    else Some (CheckSeveral folders files)

-- what `check` asks for
abbrev pub checked_in : List Row → Option Request
checked_in rows = option_and_then (λ words. checked words (is_set (codes "files") rows)) (all_of (codes "DIR") rows)

-- what the name of a command that is given no list, and the values of its arguments, ask for
abbrev pub without_list : Text → List Row → Option Request
without_list name rows =
    if bytes_eq (codes "measure") name then measured_in rows
    else if bytes_eq (codes "dump") name then Some Dump
    else if bytes_eq (codes "create") name then create_in rows
    else queried name rows

-- what a command's name and the values of its arguments ask for
abbrev pub requested : Text → List Row → Option Request
requested name rows =
    if bytes_eq (codes "feed") name then fed_in rows
    else if bytes_eq (codes "inspect") name then inspected_in rows
    else if bytes_eq (codes "totals") name then totalled_in rows
    else if bytes_eq (codes "flows") name then listed_in rows
    else if bytes_eq (codes "check") name then checked_in rows
    else without_list name rows

abbrev pub request_in : Option (Text × List Row) → Option Request
request_in command = option_and_then (λ c. requested c.0 c.1) command
