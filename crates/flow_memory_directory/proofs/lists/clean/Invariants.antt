use Rattle.std.proofs.Common.{◌≡◌, ℕ, length}
use Rattle.flow_memory_directory.specs.declared.mark.Mark.TheVariants.{Clean}
use Rattle.flow_memory_directory.specs.Marks.{mark_at}
use Rattle.flow_memory_directory.proofs.lists.clean.Given as goal

abbrev pub invariant-marks : goal.invariant-marks
invariant-marks l = record {
  long : length l.made.items ≡ l._place;
  clean : (place : ℕ) → mark_at l.made.items place ≡ Clean;
}
