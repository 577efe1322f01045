-- A stop of stored files.
use Rattle.std.specs.Prelude.{◌≡◌, ℕ, ◌+◌, ◌<◌, ◌≤◌, true, false, List, length, get_or}
use Rattle.std.specs.List.{All}
use Rattle.flow_disk.specs.Disk.{settled_at}
use Rattle.flow_memory_disk.specs.declared.choice.Choice.{Choice}
use Rattle.flow_memory_disk.specs.declared.choice.Choice.TheVariants.{Kept, Settled, Filled, Longer}
use Rattle.flow_memory_disk.specs.declared.stored.StoredFile.{StoredFile}
use Rattle.flow_memory_disk.specs.Stored.{held_in, first_in, marks_in, room_in}
use Rattle.flow_memory_disk.specs.Stopped.{image_of}

-- a stop may leave this of the file: `Filled` needs an octet, and where its end is loose those of `Longer` must fit its
-- room
abbrev pub CanStop : StoredFile → Choice → Type 0
CanStop file Kept = Unit {0}
CanStop file Settled = Unit {0}
CanStop file (Filled octets) = 0 < length octets.now
CanStop file (Longer octets) = file.loose ≡ true → file.fast + length octets.now ≤ file.room

-- a stop may leave this of each file
pub record CanCrash (files : List StoredFile) (choice : Choice) : Type 0 where
  pub each : All (λ file. CanStop file choice) files

-- the file as a stop left it
pub record IsStopped (choice : Choice) (was to : StoredFile) : Type 0 where
  pub number : to.number ≡ was.number
  pub room : room_in to ≡ room_in was
  pub held : held_in to ≡ settled_at (image_of choice (held_in was))
  pub first : first_in to ≡ image_of choice (held_in was)
  pub marks : marks_in to ≡ record {
    size = length (image_of choice (held_in was));
    settled = true;
    frozen =
        false;
    listed = was.listed;
  }

pub record AllStopped (choice : Choice) (old new : List StoredFile) : Type 0 where
  pub long : length new ≡ length old
  pub each : (k : ℕ) (d : StoredFile) → k < length old → IsStopped choice (get_or old k d) (get_or new k d)
