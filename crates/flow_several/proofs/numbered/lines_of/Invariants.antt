use Rattle.std.proofs.Common.{◌≡◌, ◌++◌, drop}
use Rattle.std.specs.List.{flat_map}
use Rattle.flow_several.specs.Each.{archive_lines, numbered_row}
use Rattle.flow_several.proofs.numbered.lines_of.Given as goal

-- the lines so far and those of the rows that are left are all lines
abbrev pub invariant-loop-row : goal.invariant-loop-row
invariant-loop-row l =
    l.text.items ++ flat_map (numbered_row l.fn.format l.fn.number l.fn.usual) (drop l.row-index l.fn.rows)
    ≡ archive_lines l.fn.format l.fn.number l.fn.usual l.fn.rows
