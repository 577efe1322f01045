use Rattle.std.proofs.Common.{[], ◌<◌, ◌≤◌, drop, length}
use Rattle.std.specs.List.{flat_map}
use Rattle.std.specs.Prelude.{vec_capacity}
use Rattle.flow_report.specs.ArchiveLines.{row_line, rows_text}
use Rattle.flow_report.proofs.Joining.{IsTelling}
use Rattle.flow_report.proofs.rows.tell_rows.Given as goal

abbrev pub invariant-loop-row : goal.invariant-loop-row
invariant-loop-row g l =
    IsTelling (g.W.Write.contents l.initial.output) [] (g.W.Write.contents l.output)
    l.lines.text.items (rows_text l.format l.usual l.rows)
    (flat_map (row_line l.format l.usual) (drop l.row-index l.rows))
    × (length l.lines.text.items < 65536) × (65964 ≤ vec_capacity l.lines.text)
