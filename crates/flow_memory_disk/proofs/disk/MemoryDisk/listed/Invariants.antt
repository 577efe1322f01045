use Rattle.std.proofs.Common.{◌≡◌, ℕ, drop}
use Rattle.std.specs.Ordering.{nat_cmp}
use Rattle.std.specs.BTreeSet.{contains}
use Rattle.flow_memory_disk.specs.Stored.{looked, marks_in, unwritten}
use Rattle.flow_memory_disk.proofs.disk.MemoryDisk.listed.Given as goal

abbrev pub invariant-loop-index : goal.invariant-loop-index
invariant-loop-index l = (n : ℕ)
    → contains nat_cmp l.numbers n ≡ (looked marks_in unwritten (drop l.index l.self.files.items) n).listed
