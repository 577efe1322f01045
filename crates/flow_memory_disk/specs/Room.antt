-- When a memory disk finds no room.
use Rattle.std.specs.Prelude.{◌≡◌, ℕ, ◌+◌, Bool, ◌||◌, ◌&&◌, not, nat_lt, nat_le, length, vec_len}
use Rattle.flow_memory_disk.specs.declared.disk.MemoryDisk.{MemoryDisk}
use Rattle.flow_memory_disk.specs.Calls.{held_of}
use Rattle.flow_memory_disk.specs.Stored.{is_named}
use Rattle.flow_memory_disk.specs.Memory.{story_of}

-- for this file, which no call has named yet
abbrev pub lacks_file : MemoryDisk → ℕ → Bool
lacks_file disk n = not (is_named disk.files.items n) && nat_le disk.room.files (length disk.files.items)

-- in the record, for so many calls and written octets more
abbrev pub lacks_record : MemoryDisk → ℕ → ℕ → Bool
lacks_record disk calls octets =
    nat_lt disk.room.calls (vec_len disk.log.deeds + calls) || nat_lt disk.room.written
    (vec_len disk.log.octets + octets)

-- for a call of this file that takes so many places of the record and writes so many octets
abbrev pub lacks_room : MemoryDisk → ℕ → ℕ → ℕ → Bool
lacks_room disk n calls octets = lacks_file disk n || lacks_record disk calls octets

-- in the file, for so many octets at a place, or for one write more before its next sync
abbrev pub lacks_octets : MemoryDisk → ℕ → ℕ → ℕ → Bool
lacks_octets disk n at count =
    nat_lt disk.room.octets (at + count) || nat_le disk.room.calls (length (held_of (story_of disk) n).touched)

-- The call is refused: nothing changed but the count of failures.
pub record IsRefused (old new : MemoryDisk) : Type 0 where
  pub files : new.files ≡ old.files
  pub spare : new.spare ≡ old.spare
  pub log : new.log ≡ old.log
