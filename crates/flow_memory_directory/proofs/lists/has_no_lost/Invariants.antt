use Rattle.std.proofs.Common.{◌≡◌, ℕ, ◌<◌, false}
use Rattle.flow_memory_directory.specs.Marks.{is_lost, mark_at}
use Rattle.flow_memory_directory.proofs.lists.has_no_lost.Given as goal

abbrev pub invariant-loop-mark : goal.invariant-loop-mark
invariant-loop-mark l = (place : ℕ) → place < l.mark-index → is_lost (mark_at l.marks place) ≡ false
