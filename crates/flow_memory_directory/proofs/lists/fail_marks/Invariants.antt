use Rattle.std.proofs.Common.{◌≡◌, ℕ, ◌<◌, ◌≤◌}
use Rattle.flow_memory_directory.specs.Marks.{mark_at, after_failure}
use Rattle.flow_memory_directory.proofs.lists.fail_marks.Given as goal

abbrev pub invariant-marks : goal.invariant-marks
invariant-marks l = record {
  done : (place : ℕ) → place < l.mark-index → mark_at l.marks place ≡ after_failure (mark_at l.fn.marks place);
  rest : (place : ℕ) → l.mark-index ≤ place → mark_at l.marks place ≡ mark_at l.fn.marks place;
}
