use Rattle.std.proofs.Common.{◌≡◌, take}
use Rattle.std.specs.Prelude.{filter}
use Rattle.flow_rolled.specs.Octets.{rows_octets, of_kind}
use Rattle.flow_rolled.proofs.message_writing.octets_of_rows.Given as goal

abbrev pub invariant-loop-row : goal.invariant-loop-row
invariant-loop-row l = l.octets.items ≡ rows_octets l.width (filter (of_kind l.with) (take l.row-index l.rows))
