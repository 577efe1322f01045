-- The data records of kept messages whose flows start in a span, and their lines.
use Rattle.std.specs.Prelude.{◌≡◌, ◌++◌, ℕ, ◌&&◌, not, nat_le, nat_lt, Bool, List, filter}
use Rattle.std.specs.List.{flat_map, AllPass, AllZip}
use Rattle.flow_codec.specs.Message.{interpreted}
use Rattle.flow_codec.specs.Plan.{values_of}
use Rattle.flow_codec.specs.Raw.{Placed}
use Rattle.flow_codec.specs.Templates.{AllTemplates}
use Rattle.flow_columns.specs.declared.names.LineFormat.{LineFormat}
use Rattle.flow_columns.specs.Lines.{heading, line_by, line_text, Line}
use Rattle.flow_measure.specs.Flows.{flow_from}
use Rattle.flow_measure.specs.History.{Accepted, AreAcceptedFrom}
use Rattle.flow_measure.specs.View.{View}
use Rattle.flow_report.specs.Records.{Started}
use Rattle.flow_segment.specs.Carry.{octets_of}
use Rattle.flow_segment.specs.PartFlows.{records_in}
use Rattle.flow_segment.specs.Prefix.{IsRestated}
use Rattle.flow_snapshot.specs.Found.{KeptFile}

-- when the flow of a record starts, as it is summed
abbrev pub start_of : Placed → ℕ
start_of x = (flow_from x.0 (values_of (interpreted x.1).fields)).start

abbrev pub started : Placed → Started
started x = (start_of x, x)

-- Whether it is the record of a flow that starts from one moment on and before another. One of an Options Template is
-- no flow's.
abbrev pub is_chosen : ℕ → ℕ → Placed → Bool
is_chosen from to x = not x.1.layout.options && (nat_le from (start_of x) && nat_lt (start_of x) to)

abbrev pub records_within : ℕ → ℕ → List Placed → List Placed
records_within from to records = filter (is_chosen from to) records

-- those of the kept messages of a view, in their order
abbrev pub records_in_view : ℕ → ℕ → View → List Placed
records_in_view from to v = records_within from to (records_in v.kept)

-- ---- lines

abbrev pub line_of : Line → Placed → List ℕ
line_of line x = line_text line (started x)

abbrev pub lines_of : Line → List Placed → List ℕ
lines_of line records = flat_map (line_of line) records

-- the heading, and the lines of these records
abbrev pub records_text : LineFormat → List Placed → List ℕ
records_text format records = heading format ++ lines_of (line_by format) records

-- records of flows that start within
abbrev pub AreChosen : ℕ → ℕ → List Placed → Type 0
AreChosen from to records = AllPass (is_chosen from to) records

-- ---- the records of files

-- A file's messages are accepted, each after those before it, the first one after the templates that the file's own
-- prefix restates; these are their records of flows that start within.
abbrev pub HaveOwnRecords : ℕ → ℕ → KeptFile → List Placed → Type 0
HaveOwnRecords from to file records =
    (before : AllTemplates) × (messages : List Accepted) × IsRestated file.prefix before
    × AreAcceptedFrom before messages × (octets_of messages ≡ file.messages)
    × (records ≡ records_within from to (records_in messages))

-- the records of these files, one after the other
abbrev pub AreOwnRecords : ℕ → ℕ → List KeptFile → List Placed → Type 0
AreOwnRecords from to files records =
    (lists : List (List Placed)) × AllZip (HaveOwnRecords from to) files lists × (records ≡ flat_map (λ own. own) lists)
