use Rattle.std.proofs.Common.{◌≡◌, ℕ, ◌<◌, ◌≤◌, get_or}
use Rattle.flow_memory_disk.specs.declared.stored.StoredFile.{StoredFile}
use Rattle.flow_memory_disk.specs.Stopping.{IsStopped}
use Rattle.flow_memory_disk.proofs.stop.stop_all.Given as goal

abbrev pub invariant-loop-stored : goal.invariant-loop-stored
invariant-loop-stored l = record {
  done : (k : ℕ) (d : StoredFile) → k < l.stored-index
      → IsStopped l.choice (get_or l.fn.files k d) (get_or l.files k d);
  rest : (k : ℕ) (d : StoredFile) → l.stored-index ≤ k → get_or l.files k d ≡ get_or l.fn.files k d;
}
