-- A file of a directory, as the system's memory has it, and what of it the device may not have.
use Rattle.std.specs.Prelude.{◌≡◌, ◌⊎◌, ℕ, Bool, true, false}
use Rattle.flow_disk.specs.Disk.{Held}

-- What of a file reaches the device apart from the rest: each octet, the size, and the directory's entry, which gives
-- the file its name.
pub data Part : Type 0 where
  octet : ℕ → Part
  size : Part
  entry : Part

-- what a sync of the file writes: all but its entry, which a sync of the directory writes
abbrev pub IsContent : Part → Type 0
IsContent (octet place) = Unit {0}
IsContent size = Unit {0}
IsContent entry = ⊥

-- A file by its name: what it reads as and what a stop may leave of it; whether the directory has its name, whether
-- its mode lets nobody write it, and whether a value that reads it is lent. A part is dirty where the next sync writes
-- it. It is lost where the device may have it otherwise than the system's memory, and no sync writes it.
pub record File : Type 0 where
  pub held : Held
  pub linked : Bool
  pub read_only : Bool
  pub lent : Bool
  pub dirty : Part → Bool
  pub lost : Part → Bool

-- what each file reads as, and what a stop may leave of it
abbrev pub held_of : (ℕ → File) → ℕ → Held
held_of files n = (files n).held

-- no part is lost
abbrev pub IsWhole : File → Type 0
IsWhole file = (part : Part) → file.lost part ≡ false

-- no octet is dirty or lost, nor the size
abbrev pub IsClean : File → Type 0
IsClean file = (part : Part) → IsContent part → (file.dirty part ≡ false) × (file.lost part ≡ false)

-- the name is durable, or its absence
abbrev pub IsNamed : File → Type 0
IsNamed file = (file.dirty entry ≡ false) × (file.lost entry ≡ false)

-- the part is dirty or lost
abbrev pub IsUnsure : File → Part → Type 0
IsUnsure file part = (file.dirty part ≡ true) ⊎ (file.lost part ≡ true)
