-- How an archive begins: it is made on a disk without files, or opened.
use Rattle.std.specs.Prelude.{◌≡◌, ℕ, ◌*◌, ◌/◌, true, IsTrue, List, Result, Ok, Err}
use Rattle.flow_disk.specs.declared.disk.Disk.{Ghosts}
use Rattle.flow_disk.specs.Disk.{Marks, IsDiskImage, Stays}
use Rattle.flow_disk.specs.Calls.{LeavesOnly}
use Rattle.flow_manifest.specs.Limits.{greatest_width}
use Rattle.flow_manifest.specs.declared.slots.Slot.TheVariants.{First}
use Rattle.flow_manifest.specs.declared.slots.Slots.{Slots}
use Rattle.flow_model.specs.State.{first_manifest}
use Rattle.flow_archive.specs.declared.refusal.ArchiveError.{ArchiveError}
use Rattle.flow_archive.specs.declared.refusal.ArchiveError.TheVariants.{OutOfMemory, NotEmpty, Fault}
use Rattle.flow_archive.specs.declared.refusal.Refused.{Refused}
use Rattle.flow_archive.specs.Seen.{Seen}

-- ---- a disk that is taken

-- the disk after a call that takes one: the archive's, or the one that is given back
abbrev pub disk_of : {D E : Type 0} → Result (Seen D) (Refused D E) → D
disk_of (Ok archive) = archive.disk
disk_of (Err refused) = refused.disk

-- what the call answers, without the disk that is given back
abbrev pub answer_of : {D E : Type 0} → Result (Seen D) (Refused D E) → Result (Seen D) E
answer_of (Ok archive) = Ok archive
answer_of (Err refused) = Err refused.error

-- ---- a new archive

-- the greatest multiple of a width up to a day
abbrev pub widest : ℕ → ℕ
widest width = greatest_width / width * width

-- the first manifest is in force, in slot 1, beside one of an older generation
abbrev pub first_slots : ℕ → ℕ → ℕ → Slots
first_slots width wide limit =
    record { current = first_manifest 1 width wide limit; current_slot = First; other_open = true }

-- some file is there
abbrev pub HasFiles : (ℕ → Marks) → Type 0
HasFiles marks = (n : ℕ) × ((marks n).listed ≡ true)

-- The disk is as it was, and a stop at any moment leaves what a stop could leave before.
pub record IsUntouched {D S X : Type 0} (g : Ghosts D S X) (old new : D) : Type 0 where
  pub marks_stay : Stays (g.marks old) (g.marks new)
  pub held_stays : IsTrue (g.honest old) → Stays (g.held old) (g.held new)
  pub any_moment : IsTrue (g.honest old) → LeavesOnly g old new (IsDiskImage (g.held old))

-- Why no archive was made: the disk has files; or memory was refused, before the first write. Both leave the disk as it
-- was. After a fault its files may hold anything.
abbrev pub IsNotMade : {D S X : Type 0} → Ghosts D S X → D → D → ArchiveError → Type 0
IsNotMade g old new NotEmpty = (IsTrue (g.honest old) → HasFiles (g.marks old)) × IsUntouched g old new
IsNotMade g old new OutOfMemory = IsUntouched g old new
IsNotMade g old new Fault = Unit {0}
IsNotMade g old new e = ⊥
