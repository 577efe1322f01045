-- What one run of the program answers.
use Rattle.std.specs.Prelude.{◌≡◌, ◌≢◌, ◌⊎◌, ℕ, ◌++◌, false, List, Option, Some, None, Ok, Err, IfSome, length}
use Rattle.std.specs.Prelude.{if◌then◌else◌}
use Rattle.std.specs.Io.KnownBytes.{Appends, Keeps}
use Rattle.clap.specs.declared.error.kind.ErrorKind.{ErrorKind}
use Rattle.clap.specs.declared.error.kind.ErrorKind.TheVariants.{DisplayHelp, DisplayVersion}
use Rattle.clap.specs.declared.error.Error.{Error}
use Rattle.clap.specs.Values.{kind_of}
use Rattle.flow_report.specs.declared.refusal.Refusal.{Refusal}
use Rattle.flow_report.specs.declared.refusal.Refusal.TheVariants as refusal
use Rattle.flow_program.specs.declared.request.LineError.{LineError}
use Rattle.flow_program.specs.declared.request.LineError.TheVariants.{Parser, Width, Plan, Span, Keep, Files}
use Rattle.flow_program.specs.declared.request.LineError.TheVariants.{Formats, Messages, Number, OutOfMemory, Swapped}
use Rattle.flow_program.specs.declared.request.LineError.TheVariants.{Field, Flows as FlowsWrong, Folders}
use Rattle.flow_program.specs.declared.request.LineError.TheVariants.{Totals as TotalsWrong}
use Rattle.flow_program.specs.declared.request.Request.{Request}
use Rattle.flow_program.specs.declared.request.Request.TheVariants.{Measure, Dump, Inspect, InspectFiles}
use Rattle.flow_program.specs.declared.request.Request.TheVariants.{Create, Check, CheckFiles, Totals, Flows}
use Rattle.flow_program.specs.declared.request.Request.TheVariants.{CheckSeveral, TotalsOfSeveral, FlowsOfSeveral, Records}
use Rattle.flow_program.specs.declared.request.Request.TheVariants.{Feed, Shell, Roll as RollAsked, Merge as MergeAsked}
use Rattle.flow_program.specs.declared.request.Request.TheVariants.{Explain, Export, ExportByTime, Templates}
use Rattle.flow_commands.specs.declared.archive_refusal.ArchiveRefusal.{ArchiveRefusal}
use Rattle.flow_commands.specs.Archives.{archive_printed, archive_status}
use Rattle.flow_commands.specs.Check.{IsChecked, KeepsOrChecks}
use Rattle.flow_disk.specs.declared.disk.Disk.{Ghosts}
use Rattle.flow_manifest.specs.declared.following.JobKind.{JobKind}
use Rattle.flow_manifest.specs.declared.following.JobKind.TheVariants.{Roll, Merge}
use Rattle.flow_commands.specs.declared.plan.FeedPlan.{FeedPlan}
use Rattle.flow_commands.specs.Feeding.{FeedsIn, FeedsLines, KeepsOrFeeds}
use Rattle.flow_commands.specs.Made.{CreatesIn}
use Rattle.flow_commands.specs.Plans.{Plan as NewPlan}
use Rattle.flow_commands.specs.Rolling.{IsJobLine, RollsIn}
use Rattle.flow_commands.specs.ArchiveFiles.{AreListings}
use Rattle.flow_commands.specs.Asking.{AreFlowsIn, AreRowsIn, Writes, WritesOrNot, WritesUpTo}
use Rattle.flow_shell.specs.Asked.{MayKeep}
use Rattle.flow_shell.specs.Endings.{ShellsIn}
use Rattle.flow_records.specs.Listing.{AreRecordsIn}
use Rattle.flow_columns.specs.declared.names.LineFormat.{LineFormat}
use Rattle.flow_report.specs.declared.format.Format.{Format}
use Rattle.flow_program.specs.Arguments.{has_input, span_at}
use Rattle.flow_program.specs.declared.arguments.MomentSpan.{MomentSpan}
use Rattle.flow_program.specs.Checks.{ChecksEnd, MayBeOutcome}
use Rattle.flow_program.specs.CommandLine.{asked}
use Rattle.flow_program.specs.Exporting.{ByTimeEnd, MessagesEnd, TemplatesEnd}
use Rattle.flow_program.specs.Inspecting.{InspectEnds}
use Rattle.flow_program.specs.Requested.{IsLineError}
use Rattle.flow_program.specs.Several.{totals_wanted, SeveralEnd}
use Rattle.flow_several.specs.declared.asking.Wanted.TheVariants.{FlowsOfEach}
use Rattle.flow_report.specs.Refusals.{status_of}
use Rattle.flow_program.specs.Printed.{kind_text, told_lines, words_text}
use Rattle.flow_report.specs.Printed.{printed, line_of}
use Rattle.flow_report.specs.Writing.{AppendsFront}
use Rattle.flow_report.specs.Dump.{IsDumped, IsDumpedUntil}
use Rattle.flow_report.specs.Measure.{HasTotals, IsRefusedBy, KeepsOrFront}
use Rattle.flow_inspect.specs.Inspect.{HasLines, KeepsOrFront as InspectKeepsOrFront}

-- the lines of a refusal came on standard error, or a prefix of them where that could be written no further
abbrev pub IsRefusalTold : Refusal → Option (List ℕ) → Option (List ℕ) → Type 0
IsRefusalTold e before after = AppendsFront before after (told_lines (printed e))

-- the lines of a refusal of a command over an archive, or a prefix of them
abbrev pub IsArchiveTold : ArchiveRefusal → Option (List ℕ) → Option (List ℕ) → Type 0
IsArchiveTold e before after = AppendsFront before after (told_lines (archive_printed e))

-- A command over an archive was refused, and that is reported.
abbrev pub IsEndedBy : (ArchiveRefusal → Type 0) → Option (List ℕ) → Option (List ℕ) → ℕ → Type 0
IsEndedBy also before after status =
    (e : ArchiveRefusal) × (status ≡ archive_status e) × IsArchiveTold e before after × also e

-- Commands over an archive in a folder. No contract knows what a folder holds: clauses on any disk say what each does,
-- and here that it did what was asked for on some disk, `g` of its kind, and how it ends.

-- The archive that was asked for was made, or none was.
abbrev pub CreateEnds : {D S X : Type 0} → Ghosts D S X → NewPlan → Option (List ℕ) → Option (List ℕ) → ℕ → Type 0
CreateEnds g plan before after status =
    ((status ≡ 0) × Keeps before after × CreatesIn g plan (Ok tt))
    ⊎ IsEndedBy (λ e. CreatesIn g plan (Err e)) before after status

abbrev pub CheckEnds : Option (List ℕ) → Option (List ℕ) → Option (List ℕ) → Option (List ℕ) → ℕ → Type 0
CheckEnds old new before after status =
    ((status ≡ 0) × Keeps before after × IsChecked old new)
    ⊎ IsEndedBy (λ e. KeepsOrChecks e old new) before after status

-- a command that writes such lines
abbrev pub AskEnds : (List ℕ → Type 0) → Option (List ℕ) → Option (List ℕ) → Option (List ℕ) → Option (List ℕ) → ℕ
    → Type 0
AskEnds are old new before after status =
    ((status ≡ 0) × Keeps before after × Writes are old new)
    ⊎ IsEndedBy (λ e. WritesOrNot are e old new) before after status

-- a command that writes such lines while it reads the archive's files
abbrev pub ListEnds : (List ℕ → Type 0) → Option (List ℕ) → Option (List ℕ) → Option (List ℕ) → Option (List ℕ) → ℕ
    → Type 0
ListEnds are old new before after status =
    ((status ≡ 0) × Keeps before after × Writes are old new)
    ⊎ IsEndedBy (λ e. WritesUpTo are e old new) before after status

-- `roll` or `merge`, of all files but so many
abbrev pub JobEnds : {D S X : Type 0} → Ghosts D S X → JobKind → ℕ → Option (List ℕ) → Option (List ℕ)
    → Option (List ℕ) → Option (List ℕ) → ℕ → Type 0
JobEnds g kind keep old new before after status =
    ((status ≡ 0) × Keeps before after × Writes (IsJobLine kind) old new × RollsIn g kind keep old new (Ok tt))
    ⊎ IsEndedBy (λ e. WritesOrNot (IsJobLine kind) e old new × RollsIn g kind keep old new (Err e)) before after status

-- Lines of rows, and of flows, that start in a span. Its seconds are those of some second that it is now, of which no
-- contract knows more; of a span that doesn't depend on it they are its own.
abbrev pub AreRowsAsked : Format → MomentSpan → List ℕ → Type 0
AreRowsAsked format span text = (now : ℕ) × AreRowsIn format (span_at now span) text

abbrev pub AreFlowsAsked : Format → MomentSpan → List ℕ → Type 0
AreFlowsAsked format span text = (now : ℕ) × AreFlowsIn format (span_at now span) text

-- and lines of the data records of flows that start in it
abbrev pub AreRecordsAsked : LineFormat → MomentSpan → List ℕ → Type 0
AreRecordsAsked format span text =
    (now : ℕ) × AreRecordsIn format (span_at now span).from (span_at now span).to text

-- standard input is given to `feed` where it is one of the Files
abbrev pub input_given : List (List ℕ) → Option (List ℕ) → Option (Option (List ℕ))
input_given files input = if has_input files then Some input else None

-- `feed` of these Files: a line for each, with the status of the first that stopped, and nothing on standard error; or
-- a refusal. They were fed as the plan says, each File that was opened with the octets that it had.
abbrev pub FeedEnds : {D S X F : Type 0} → Ghosts D S X → (F → Option (List ℕ)) → FeedPlan → List (List ℕ)
    → Option (List ℕ) → Option (List ℕ) → Option (List ℕ) → Option (List ℕ) → Option (List ℕ) → ℕ → Type 0
FeedEnds g octets plan files input old new before after status =
    (Keeps before after × FeedsLines (length files) status old new
    × FeedsIn g octets plan (input_given files input) files old new (Ok status))
    ⊎ IsEndedBy (λ e. KeepsOrFeeds (length files) e old new
    × FeedsIn g octets plan (input_given files input) files old new (Err e)) before after status

-- `shell`: what it answers is written on standard output, and nothing on standard error; or it was refused. Meanwhile
-- one rolled who keeps and merges as many files as was asked for, at first or by a line of the input.
abbrev pub ShellEnds : {D S X : Type 0} → Ghosts D S X → ℕ → Option ℕ → Option (List ℕ) → Option (List ℕ)
    → Option (List ℕ) → Option (List ℕ) → Option (List ℕ) → ℕ → Type 0
ShellEnds g keep merge input old new before after status =
    (Keeps before after × ShellsIn g (MayKeep keep merge input) old new (Ok status))
    ⊎ IsEndedBy (λ e. ShellsIn g (MayKeep keep merge input) old new (Err e)) before after status

-- Text is shown on standard output, with status 0 and nothing on standard error; or it couldn't be, and that is
-- reported.
abbrev pub IsShown : Option (List ℕ) → Option (List ℕ) → ℕ → Type 0
IsShown before after status =
    ((status ≡ 0) × Keeps before after) ⊎ ((e : Refusal) × (status ≡ status_of e) × IsRefusalTold e before after)

-- Of the File on standard input (what it had, and has left), by what standard output (old, new) and standard error
-- (before, after) hold: status 0 where the lines of the whole File were written, and nothing on standard error; else
-- that of the refusal, which is reported.
abbrev pub MeasureEnds : Format → ℕ → Option (List ℕ) → Option (List ℕ) → Option (List ℕ) → Option (List ℕ)
    → Option (List ℕ) → Option (List ℕ) → ℕ → Type 0
MeasureEnds format width input left old new before after status =
    ((status ≡ 0) × Keeps before after
    × IfSome input (λ octets. (lines : List ℕ) × HasTotals format width octets lines × Appends old new lines))
    ⊎ ((e : Refusal) × (status ≡ status_of e) × IsRefusalTold e before after
    × IfSome input (λ octets. IsRefusedBy octets left e)
    × KeepsOrFront format width input old new e)

abbrev pub DumpEnds : Option (List ℕ) → Option (List ℕ) → Option (List ℕ) → Option (List ℕ) → Option (List ℕ)
    → Option (List ℕ) → ℕ → Type 0
DumpEnds input left old new before after status =
    ((status ≡ 0) × Keeps before after × IfSome input (λ octets. IsDumped octets old new))
    ⊎ ((e : Refusal) × (status ≡ status_of e) × IsRefusalTold e before after
    × IfSome input (λ octets. IsDumpedUntil octets left old new e))

abbrev pub InspectInputEnds : Format → Option (List ℕ) → Option (List ℕ) → Option (List ℕ) → Option (List ℕ)
    → Option (List ℕ) → Option (List ℕ) → ℕ → Type 0
InspectInputEnds format input left old new before after status =
    ((status ≡ 0) × Keeps before after
    × IfSome input (λ octets. (lines : List ℕ) × HasLines format octets lines × Appends old new lines))
    ⊎ ((e : Refusal) × (status ≡ status_of e) × IsRefusalTold e before after
    × IfSome input (λ octets. IsRefusedBy octets left e)
    × InspectKeepsOrFront format input old new e)

-- A run of a command; the disks of its folders are of the kind `g`, those of folders that are only read of the kind
-- `view`, and Files that are opened have these octets.
abbrev pub Runs : {D S X V T Y F : Type 0} → Ghosts D S X → Ghosts V T Y → (F → Option (List ℕ)) → Request
    → Option (List ℕ) → Option (List ℕ) → Option (List ℕ) → Option (List ℕ) → Option (List ℕ) → Option (List ℕ) → ℕ
    → Type 0
Runs g view octets (Measure width format warn) input left old new before after status =
    MeasureEnds format width input left old new before after status
Runs g view octets Dump input left old new before after status = DumpEnds input left old new before after status
Runs g view octets (Inspect format) input left old new before after status =
    InspectInputEnds format input left old new before after status
-- None of these reads standard input, but `inspect` and `feed` where it is one of the Files, and `shell`; and `create`
-- writes nothing.
Runs g view octets (InspectFiles format files) input left old new before after status =
    (has_input files ≡ false → Keeps input left) × InspectEnds format files input left old new before after status
Runs g view octets (Create folder plan) input left old new before after status =
    Keeps input left × Keeps old new × CreateEnds g plan before after status
Runs g view octets (Check folder) input left old new before after status =
    Keeps input left × CheckEnds old new before after status
Runs g view octets (CheckFiles folder) input left old new before after status =
    Keeps input left × AskEnds AreListings old new before after status
Runs g view octets (CheckSeveral folders files) input left old new before after status =
    Keeps input left × ChecksEnd (MayBeOutcome files) folders old new before after status
Runs g view octets (Totals folder span workers format) input left old new before after status =
    Keeps input left × AskEnds (AreRowsAsked format span) old new before after status
Runs g view octets (TotalsOfSeveral folders span each format) input left old new before after status =
    Keeps input left × SeveralEnd (length folders) span (totals_wanted each) format old new before after status
Runs g view octets (Flows folder span format) input left old new before after status =
    Keeps input left × ListEnds (AreFlowsAsked format span) old new before after status
Runs g view octets (FlowsOfSeveral folders span format) input left old new before after status =
    Keeps input left × SeveralEnd (length folders) span FlowsOfEach format old new before after status
Runs g view octets (Records folder span format) input left old new before after status =
    Keeps input left × ListEnds (AreRecordsAsked format span) old new before after status
Runs g view octets (Feed folder plan end_on files) input left old new before after status =
    (has_input files ≡ false → Keeps input left) × FeedEnds g octets plan files input old new before after status
Runs g view octets (Shell folder keep merge) input left old new before after status =
    ShellEnds g keep merge input old new before after status
Runs g view octets (RollAsked folder keep) input left old new before after status =
    Keeps input left × JobEnds g Roll keep old new before after status
Runs g view octets (MergeAsked folder keep) input left old new before after status =
    Keeps input left × JobEnds g Merge keep old new before after status
Runs g view octets (Export folder span) input left old new before after status =
    Keeps input left × MessagesEnd view span old new before after status
Runs g view octets (ExportByTime folder span) input left old new before after status =
    Keeps input left × ByTimeEnd view span old new before after status
Runs g view octets (Templates folder) input left old new before after status =
    Keeps input left × TemplatesEnd view old new before after status
Runs g view octets (Explain number) input left old new before after status = Keeps input left × IsShown before after status

-- what was asked for is help, or the version
abbrev pub IsHelp : ErrorKind → Type 0
IsHelp kind = (kind ≡ DisplayHelp) ⊎ (kind ≡ DisplayVersion)

-- and neither of them was
abbrev pub IsNoHelp : ErrorKind → Type 0
IsNoHelp kind = (kind ≢ DisplayHelp) × (kind ≢ DisplayVersion)

-- words that ask for nothing: the output stays, and one line says why
abbrev pub IsWrong : LineError → Option (List ℕ) → Option (List ℕ) → Option (List ℕ) → Option (List ℕ) → ℕ → Type 0
IsWrong e old new before after status =
    (status ≡ 2) × Keeps old new × AppendsFront before after (line_of (words_text e))

-- The line for words that the parser refuses, and what it says of them.
abbrev pub AreWordsLines : Error → List ℕ → Type 0
AreWordsLines error text = (said : List ℕ) × (text ≡ line_of (kind_text (kind_of error)) ++ said)

-- They came on standard error, or a prefix of them.
abbrev pub AreWordsTold : Error → Option (List ℕ) → Option (List ℕ) → Type 0
AreWordsTold error before after = (text : List ℕ) × AreWordsLines error text × AppendsFront before after text

-- words that the parser refuses: the output stays, and that is said
abbrev pub AreWrongWords : Error → Option (List ℕ) → Option (List ℕ) → Option (List ℕ) → Option (List ℕ) → ℕ → Type 0
AreWrongWords error old new before after status =
    (status ≡ 2) × Keeps old new × AreWordsTold error before after

-- What is answered of words that ask for nothing, or for help.
abbrev pub IsTold : LineError → Option (List ℕ) → Option (List ℕ) → Option (List ℕ) → Option (List ℕ) → ℕ → Type 0
IsTold (Parser error) old new before after status =
    (IsHelp (kind_of error) × IsShown before after status)
    ⊎ (IsNoHelp (kind_of error) × AreWrongWords error old new before after status)
IsTold Width old new before after status = IsWrong Width old new before after status
IsTold Plan old new before after status = IsWrong Plan old new before after status
IsTold Span old new before after status = IsWrong Span old new before after status
IsTold Folders old new before after status = IsWrong Folders old new before after status
IsTold FlowsWrong old new before after status = IsWrong FlowsWrong old new before after status
IsTold TotalsWrong old new before after status = IsWrong TotalsWrong old new before after status
IsTold Swapped old new before after status = IsWrong Swapped old new before after status
IsTold Keep old new before after status = IsWrong Keep old new before after status
IsTold Files old new before after status = IsWrong Files old new before after status
IsTold Number old new before after status = IsWrong Number old new before after status
IsTold Messages old new before after status = IsWrong Messages old new before after status
IsTold Formats old new before after status = IsWrong Formats old new before after status
IsTold (Field name) old new before after status = IsWrong (Field name) old new before after status
IsTold OutOfMemory old new before after status =
    (status ≡ 4) × Keeps old new × IsRefusalTold refusal.OutOfMemory before after

-- What is answered of any words: the run of the request that they ask for, or why there is none.
abbrev pub IsAnswered : {D S X V T Y F : Type 0} → Ghosts D S X → Ghosts V T Y → (F → Option (List ℕ))
    → List (List ℕ) → Option (List ℕ) → Option (List ℕ) → Option (List ℕ) → Option (List ℕ) → Option (List ℕ)
    → Option (List ℕ) → ℕ → Type 0
IsAnswered g view octets words input left old new before after status =
    ((request : Request) × (asked words ≡ Some request)
    × Runs g view octets request input left old new before after status)
    ⊎ ((e : LineError) × IsLineError words e × IsTold e old new before after status)
