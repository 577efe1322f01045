use Rattle.std.proofs.Common.{List, ap, ◌∙◌}
use Rattle.flow_memory_disk.specs.declared.stored.StoredFile.{StoredFile}
use Rattle.flow_memory_disk.specs.Memory.{story_in}
use Rattle.flow_memory_disk.proofs.Noted.{no_files}
use Rattle.flow_memory_disk.proofs.disk.MemoryDisk.new.Goals as goal

pub returns-clause-story : goal.returns-clause-story
returns-clause-story c =
    let log = c.in_ok-new-2.field-0 in
    ap (λ (l : List StoredFile). story_in l log) c.in_ok-with_capacity.ensures.items
    ∙ no_files log c.in_ok-new-2.ensures.calls
