use Rattle.std.proofs.Common.{suc, ◌-◌, length}
use Rattle.flow_measure.proofs.entries.note.Given as goal

abbrev pub decreases-loop-noted : goal.decreases-loop-noted
decreases-loop-noted l = suc l.place - length l.noted.items
