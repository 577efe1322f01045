-- What a stored file at its place says of the story.
use Rattle.std.proofs.Common.{◌≡◌, ℕ, ◌<◌, false, [], length, get_or, sym, ◌∙◌, ap, ◌==◌}
use Rattle.flow_disk.specs.Disk.{settled_at}
use Rattle.flow_memory_disk.specs.declared.disk.MemoryDisk.{MemoryDisk}
use Rattle.flow_memory_disk.specs.declared.stored.StoredFile.{StoredFile}
use Rattle.flow_memory_disk.specs.Calls.{held_of}
use Rattle.flow_memory_disk.specs.Stored.{held_in, IsPlace}
use Rattle.flow_memory_disk.specs.Memory.{story_of}
use Rattle.flow_memory_disk.specs.Laws.{held_is}
use Rattle.flow_memory_disk.proofs.Looked.{looked_place, looked_missing}

pub held_there : (disk : MemoryDisk) (n i : ℕ) (was : StoredFile) → IsPlace disk.files.items n i
    → was ≡ get_or disk.files.items i was → held_of (story_of disk) n ≡ held_in was
held_there disk n i was place stood = held_is disk n
    ∙ looked_place held_in (settled_at []) disk.files.items n i was place ∙ ap held_in (sym stood)

pub held_nowhere : (disk : MemoryDisk) (n : ℕ)
    → ((k : ℕ) (d : StoredFile) → k < length disk.files.items → ((get_or disk.files.items k d).number == n) ≡ false)
    → held_of (story_of disk) n ≡ settled_at []
held_nowhere disk n none = held_is disk n ∙ looked_missing held_in (settled_at []) disk.files.items n none
