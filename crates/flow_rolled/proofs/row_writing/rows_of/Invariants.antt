use Rattle.std.proofs.Common.{◌≡◌, take}
use Rattle.std.specs.List.{flat_map}
use Rattle.flow_rolled.specs.Rows.{rows_of}
use Rattle.flow_rolled.proofs.row_writing.rows_of.Given as goal

abbrev pub invariant-loop-entry : goal.invariant-loop-entry
invariant-loop-entry l = l.rows.items ≡ flat_map rows_of (take l.entry-index l.entries)
