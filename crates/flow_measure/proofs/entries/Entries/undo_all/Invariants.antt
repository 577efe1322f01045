use Rattle.std.proofs.Common.{◌≡◌}
use Rattle.std.specs.Vec.{vec_len}
use Rattle.flow_measure.specs.Entries.{all_undone}
use Rattle.flow_measure.proofs.entries.Entries.undo_all.Given as goal

-- what is left of the changes is still to be undone
abbrev pub invariant-loop-change : goal.invariant-loop-change
invariant-loop-change l = all_undone l.changes.items l.self ≡ all_undone l.fn.changes.items l.fn.self

abbrev pub decreases-loop-change : goal.decreases-loop-change
decreases-loop-change l = vec_len l.changes
