use Rattle.std.proofs.Common.{ℕ, ◌<◌, get_or}
use Rattle.flow_memory_disk.specs.declared.stored.StoredFile.{StoredFile}
use Rattle.flow_memory_disk.specs.Stopping.{CanStop}
use Rattle.flow_memory_disk.proofs.disk.MemoryDisk.can_crash.Given as goal

abbrev pub invariant-loop-stored : goal.invariant-loop-stored
invariant-loop-stored l = (k : ℕ) (d : StoredFile) → k < l.stored-index
    → CanStop (get_or l.self.files.items k d) l.choice
