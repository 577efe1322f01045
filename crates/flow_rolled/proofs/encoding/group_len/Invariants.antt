use Rattle.std.proofs.Common.{drop}
use Rattle.flow_rolled.proofs.WrittenParts.{IsCounted}
use Rattle.flow_rolled.proofs.encoding.group_len.Given as goal

abbrev pub invariant-loop-row : goal.invariant-loop-row
invariant-loop-row l = IsCounted l.count l.domain l.rows (drop l.row-index l.rows)
