-- The files of a directory in memory, and what a call makes of them.
use Rattle.std.specs.Prelude.{◌≡◌, ◌≢◌, ℕ, List, length, reverse}
use Rattle.flow_disk.specs.Disk.{Held, IsWithin, changed, settled_at}
use Rattle.flow_disk.specs.Moments.{Passes, Covers}
use Rattle.flow_directory.specs.Calls.{KeepsStatus}
use Rattle.flow_directory.specs.File.{Part, File, held_of, IsNamed, IsClean}
use Rattle.flow_memory_directory.specs.declared.memory.MemoryDirectory.{MemoryDirectory}
use Rattle.flow_memory_directory.specs.declared.deed.Deed.{Deed}
use Rattle.flow_memory_directory.specs.Bound.{LeftSince}
use Rattle.flow_memory_directory.specs.Views.{files_in}

-- the calls so far, the last one first
abbrev pub deeds_of : MemoryDirectory → List Deed
deeds_of directory = reverse directory.log.items

abbrev pub files_of : MemoryDirectory → ℕ → File
files_of directory = files_in directory.nodes.items (deeds_of directory)

-- the clock: how many calls changed what a stop may leave
abbrev pub moment_of : MemoryDirectory → ℕ
moment_of directory = length (deeds_of directory)

-- what a stop at a moment since another might have left
abbrev pub left_of : MemoryDirectory → ℕ → (ℕ → List ℕ) → Type 0
left_of directory = LeftSince (deeds_of directory)

-- a call that changed nothing
pub record IsUntouched (old new : MemoryDirectory) : Type 0 where
  pub nodes_are : new.nodes.items ≡ old.nodes.items
  pub log_is : new.log.items ≡ old.log.items

-- A call that changed one file by this rule, and inside which a stop leaves this of it.
pub record Changes (old new : MemoryDirectory) (file : ℕ) (rule : File → File → Type 0) (during : Held) : Type 0 where
  pub here : rule (files_of old file) (files_of new file)
  pub others : (n : ℕ) → n ≢ file → files_of new n ≡ files_of old n
  pub time : Passes moment_of left_of old new (changed (held_of (files_of old)) file during)
  pub covered : Covers (moment_of old) (left_of new) (changed (held_of (files_of old)) file during)

-- a call that changed one file by this rule, and nothing that a stop may leave
pub record Keeps (old new : MemoryDirectory) (file : ℕ) (rule : File → File → Type 0) : Type 0 where
  pub here : rule (files_of old file) (files_of new file)
  pub others : (n : ℕ) → n ≢ file → files_of new n ≡ files_of old n
  pub time : Passes moment_of left_of old new (held_of (files_of old))

-- A file that was settled, where all of it is on the device. Nothing else differs.
pub record Settles (was now : File) : Type 0 where
  pub settled : IsNamed was → IsClean was → now.held ≡ settled_at was.held.reads
  pub reads : now.held.reads ≡ was.held.reads
  pub within : IsWithin now.held was.held
  pub dirty : (part : Part) → now.dirty part ≡ was.dirty part
  pub lost : (part : Part) → now.lost part ≡ was.lost part
  pub status : KeepsStatus was now
