use Rattle.std.proofs.Common.{[], ◌<◌, ◌≤◌, length, map}
use Rattle.std.specs.List.{flat_map}
use Rattle.std.specs.Prelude.{vec_capacity}
use Rattle.flow_measure.specs.Sums.{table_row}
use Rattle.flow_report.specs.ArchiveLines.{row_line}
use Rattle.flow_report.specs.Measure.{lines_of}
use Rattle.flow_report.proofs.Joining.{IsTelling}
use Rattle.flow_report.proofs.measuring.write_totals.Given as goal

abbrev pub invariant-rows : goal.invariant-rows
invariant-rows g l =
    IsTelling (g.W.Write.contents l.initial.output) [] (g.W.Write.contents l.output) l.lines.text.items
    (lines_of l.format l.rows) (flat_map (row_line l.format l.width) (map (table_row l.width) l.walk))
    × (length l.lines.text.items < 65536) × (65964 ≤ vec_capacity l.lines.text)

abbrev pub decreases-rows : goal.decreases-rows
decreases-rows g l = length l.walk
