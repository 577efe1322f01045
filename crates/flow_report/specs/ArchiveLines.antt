-- The lines of rows of sums, and of flows, as octets of UTF-8.
use Rattle.std.specs.Prelude.{ℕ, Bool, true, ◌==◌, not, List, [], ◌∷◌, ◌++◌, codes, if◌then◌else◌}
use Rattle.std.specs.List.{flat_map}
use Rattle.flow_measure.specs.declared.flow.Flow.{Flow}
use Rattle.flow_measure.specs.declared.rows.Key.{Key}
use Rattle.flow_measure.specs.declared.rows.Row.{Row}
use Rattle.flow_measure.specs.declared.rows.Sums.{Sums}
use Rattle.flow_report.specs.declared.format.Format.{Format}
use Rattle.flow_report.specs.declared.format.Layout.{Layout}
use Rattle.flow_report.specs.declared.format.Layout.TheVariants.{Lines, Csv, Json}
use Rattle.flow_report.specs.Formats.{Named, heading, line_in, number_or_none}
use Rattle.flow_report.specs.Formats.Value.{Number, Time}

-- ---- rows of sums

abbrev pub key_values : Key → List Named
key_values key =
    (codes "start", Time key.start) ∷ (codes "domain", Number key.domain)
    ∷ (codes "protocol", number_or_none key.protocol) ∷ []

abbrev pub sums_values : Sums → List Named
sums_values sums =
    (codes "flows", Number sums.flows) ∷ (codes "octets", Number sums.octets)
    ∷ (codes "packets", Number sums.packets) ∷ []

-- Whether the width of a row's intervals is written: where it isn't the usual one, and in CSV and JSON always.
abbrev pub shows_width : Layout → ℕ → ℕ → Bool
shows_width Lines usual width = not (width == usual)
shows_width Csv usual width = true
shows_width Json usual width = true

abbrev pub width_values : Bool → ℕ → List Named
width_values shown width = if shown then (codes "width", Number width) ∷ [] else []

-- START DOMAIN PROTOCOL FLOWS OCTETS PACKETS of a row, and the width of its intervals
unfoldable pub row_line : Format → ℕ → Row → List ℕ
row_line format usual row =
    line_in format
    (key_values row.key ++ sums_values row.sums ++ width_values (shows_width format.layout usual row.width) row.width)

abbrev pub row_names : List (List ℕ)
row_names =
    codes "start" ∷ codes "domain" ∷ codes "protocol" ∷ codes "flows" ∷ codes "octets" ∷ codes "packets"
    ∷ codes "width" ∷ []

abbrev pub rows_text : Format → ℕ → List Row → List ℕ
rows_text format usual rows = heading format.layout row_names ++ flat_map (row_line format usual) rows

-- ---- flows

-- START DOMAIN PROTOCOL OCTETS PACKETS of a flow
unfoldable pub flow_line : Format → Flow → List ℕ
flow_line format f =
    line_in format ((codes "start", Time f.start) ∷ (codes "domain", Number f.domain)
    ∷ (codes "protocol", number_or_none f.protocol)
    ∷ (codes "octets", Number f.octets) ∷ (codes "packets", Number f.packets) ∷ [])

abbrev pub flow_names : List (List ℕ)
flow_names = codes "start" ∷ codes "domain" ∷ codes "protocol" ∷ codes "octets" ∷ codes "packets" ∷ []

abbrev pub flows_text : Format → List Flow → List ℕ
flows_text format flows = heading format.layout flow_names ++ flat_map (flow_line format) flows

-- Lines of flows on their way to a writer: their format, and the octets that are not written yet.
pub record FlowText : Type 0 where
  pub format : Format
  pub held : List ℕ
