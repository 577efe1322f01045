use Rattle.flow_memory_directory.specs.Memory.{deeds_of}
use Rattle.flow_memory_directory.specs.Restored.{RestoredSoFar}
use Rattle.flow_memory_directory.proofs.memory.MemoryDirectory.power_cut.Given as goal

abbrev pub invariant-places : goal.invariant-places
invariant-places l = RestoredSoFar l.fn.self.nodes.items (deeds_of l.fn.self) l.place l.nodes.items l.log.items
