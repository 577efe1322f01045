-- The story that the fields of a memory disk hold.
use Rattle.std.specs.Prelude.{ℕ, List, [], length}
use Rattle.flow_memory_disk.specs.declared.disk.MemoryDisk.{MemoryDisk}
use Rattle.flow_memory_disk.specs.declared.record.Record.{Record}
use Rattle.flow_memory_disk.specs.declared.stored.StoredFile.{StoredFile}
use Rattle.flow_memory_disk.specs.Calls.{Story, LeftSince}
use Rattle.flow_memory_disk.specs.Record.{calls_of}
use Rattle.flow_memory_disk.specs.Stored.{looked, first_in, marks_in, unwritten}

unfoldable pub story_in : List StoredFile → Record → Story
story_in files log = record {
  base = looked first_in [] files;
  calls = calls_of log.deeds.items log.octets.items;
  marks = looked marks_in unwritten files;
}

abbrev pub story_of : MemoryDisk → Story
story_of disk = story_in disk.files.items disk.log

-- the disk's clock: how many calls changed a file
abbrev pub moment_of : MemoryDisk → ℕ
moment_of disk = length (story_of disk).calls

-- what a stop at a moment since another might have left
abbrev pub left_after_stop : MemoryDisk → ℕ → (ℕ → List ℕ) → Type 0
left_after_stop disk = LeftSince (story_of disk)
