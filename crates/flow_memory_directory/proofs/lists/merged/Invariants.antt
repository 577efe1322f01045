use Rattle.std.proofs.Common.{◌≡◌, ℕ, ◌<◌, length, get_or}
use Rattle.flow_memory_directory.specs.Marks.{block_at}
use Rattle.flow_memory_directory.proofs.lists.merged.Given as goal

abbrev pub invariant-places : goal.invariant-places
invariant-places l = record {
  long : length l.made.items ≡ l.place;
  each : (place : ℕ) → place < l.place
      → get_or l.made.items place 0 ≡ block_at l.octets l.marks l.blocks place;
}
