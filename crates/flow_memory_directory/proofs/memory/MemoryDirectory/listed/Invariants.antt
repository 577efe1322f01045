use Rattle.std.proofs.Common.{◌≡◌, ℕ, ◌<◌, ◌↔◌, true, Contains}
use Rattle.flow_memory_directory.specs.Memory.{files_of}
use Rattle.flow_memory_directory.proofs.memory.MemoryDirectory.listed.Given as goal

abbrev pub invariant-places : goal.invariant-places
invariant-places l = (n : ℕ) → Contains l.list.items n ↔ ((n < l.place) × ((files_of l.self n).linked ≡ true))
