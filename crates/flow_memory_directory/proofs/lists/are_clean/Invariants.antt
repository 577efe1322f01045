use Rattle.std.proofs.Common.{◌≡◌, ℕ, ◌<◌}
use Rattle.flow_memory_directory.specs.declared.mark.Mark.TheVariants.{Clean}
use Rattle.flow_memory_directory.specs.Marks.{mark_at}
use Rattle.flow_memory_directory.proofs.lists.are_clean.Given as goal

abbrev pub invariant-loop-mark : goal.invariant-loop-mark
invariant-loop-mark l = (place : ℕ) → place < l.mark-index → mark_at l.marks place ≡ Clean
