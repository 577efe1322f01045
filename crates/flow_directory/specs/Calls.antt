-- What each system call makes of one file of a directory.
use Rattle.std.specs.Prelude.{◌≡◌, ◌≢◌, ◌⊎◌, ℕ, ◌+◌, ◌<◌, ◌≤◌, Bool, true, false, List, [], length, take}
use Rattle.std.specs.Prelude.{Result, OnOk, OnErr, IfOk}
use Rattle.flow_disk.specs.Disk.{Held, IsWithin, settled_at, touched_at, loosened_at, given_up, put_at}
use Rattle.flow_directory.specs.File.{Part, octet, size, entry, IsContent, File, IsWhole, IsNamed, IsClean}
use Rattle.flow_directory.specs.File.{IsUnsure}

-- the place lies from one place on up to another
abbrev pub IsBetween : ℕ → ℕ → ℕ → Type 0
IsBetween from to place = (from ≤ place) × (place < to)

-- what a write of octets from one place on up to another may make dirty
abbrev pub IsPut : ℕ → ℕ → Part → Type 0
IsPut from to (octet place) = IsBetween from to place
IsPut from to size = Unit {0}
IsPut from to entry = ⊥

-- what a cut may
abbrev pub IsSize : Part → Type 0
IsSize (octet place) = ⊥
IsSize size = Unit {0}
IsSize entry = ⊥

-- what a change of a name may
abbrev pub IsEntry : Part → Type 0
IsEntry (octet place) = ⊥
IsEntry size = ⊥
IsEntry entry = Unit {0}

-- and a call that writes nothing
abbrev pub IsNothing : Part → Type 0
IsNothing part = ⊥

-- these parts may be dirty now, and no other that wasn't; no part is lost that wasn't
pub record Dirties (was now : File) (parts : Part → Type 0) : Type 0 where
  pub dirty : (part : Part) → now.dirty part ≡ true → (was.dirty part ≡ true) ⊎ parts part
  pub lost : (part : Part) → now.lost part ≡ true → was.lost part ≡ true

-- what was dirty may be lost now; nothing else is dirty or lost that wasn't, and the name is as it was
pub record Loses (was now : File) : Type 0 where
  pub each : (part : Part) → IsUnsure now part → IsUnsure was part
  pub dirty_entry : now.dirty entry ≡ true → was.dirty entry ≡ true
  pub lost_entry : now.lost entry ≡ true → was.lost entry ≡ true

-- name, mode and lending are as they were
pub record KeepsStatus (was now : File) : Type 0 where
  pub linked : now.linked ≡ was.linked
  pub read_only : now.read_only ≡ was.read_only
  pub lent : now.lent ≡ was.lent

-- A write (pwrite). Where it fails some of its octets may be written. After Ok none of those places is lost any more.
pub record Writing {T E : Type 0} (was now : File) (at : ℕ) (octets : List ℕ) (result : Result T E) : Type 0 where
  pub done : OnOk result (now.held ≡ touched_at was.held at (length octets) (put_at was.held.reads at octets))
  pub failed : OnErr result (IsWithin now.held (touched_at was.held at (length octets) was.held.reads))
  pub mended : OnOk result
      ((place : ℕ) → IsBetween at (at + length octets) place → now.lost (octet place) ≡ false)
  pub parts : Dirties was now (IsPut at (at + length octets))
  pub status : KeepsStatus was now

-- A write of octets that the file has there (pwrite). Equal octets over equal octets can't tear: a stop leaves nothing
-- else than before.
pub record Rewriting {T E : Type 0} (was now : File) (at count : ℕ) (result : Result T E) : Type 0 where
  pub held : now.held ≡ was.held
  pub mended : OnOk result ((place : ℕ) → IsBetween at (at + count) place → now.lost (octet place) ≡ false)
  pub parts : Dirties was now (IsPut at (at + count))
  pub status : KeepsStatus was now

-- A cut (ftruncate). After Ok the next sync writes the size.
pub record Truncating {T E : Type 0} (was now : File) (count : ℕ) (result : Result T E) : Type 0 where
  pub done : OnOk result (now.held ≡ loosened_at was.held count (take count was.held.reads))
  pub failed : OnErr result (IsWithin now.held (loosened_at was.held count was.held.reads))
  pub mended : OnOk result (now.lost size ≡ false)
  pub parts : Dirties was now IsSize
  pub status : KeepsStatus was now

-- A cut to the size that the file has (ftruncate): all is as it was, but that after Ok the next sync writes the size.
pub record Retruncating {T E : Type 0} (was now : File) (result : Result T E) : Type 0 where
  pub held : now.held ≡ was.held
  pub mended : OnOk result (now.lost size ≡ false)
  pub parts : Dirties was now IsSize
  pub status : KeepsStatus was now

-- A sync of a file (fsync). Answered Ok, the device has all that was dirty; where no part was lost before, and the name
-- is durable, it has just what the file reads as. Answered by a failure, each dirty part may be lost: no later sync
-- writes it; and the file may read as what the device has, unless nothing was dirty or lost.
pub record Syncing {T E : Type 0} (was now : File) (result : Result T E) : Type 0 where
  pub settled : OnOk result (IsWhole was → was.dirty entry ≡ false → now.held ≡ settled_at was.held.reads)
  pub reads : OnOk result (now.held.reads ≡ was.held.reads)
  pub clean : OnOk result ((part : Part) → IsContent part → now.dirty part ≡ false)
  pub lost : OnOk result ((part : Part) → now.lost part ≡ true → was.lost part ≡ true)
  pub stays : IsClean was → now.held.reads ≡ was.held.reads
  pub within : IsWithin now.held was.held
  pub parts : Loses was now
  pub status : KeepsStatus was now

-- A file is opened (openat). What was dirty may be lost: a write that failed is reported to the handles alone that were
-- open then.
pub record Opening (was now : File) : Type 0 where
  pub held : now.held ≡ was.held
  pub parts : Loses was now
  pub status : KeepsStatus was now

-- A file is made (openat with O_CREAT and O_EXCL). It wasn't there, it has no octets, and its owner may write it. A stop
-- leaves what it might have left before.
pub record Creating {T E : Type 0} (was now : File) (result : Result T E) : Type 0 where
  pub absent : OnOk result (was.linked ≡ false)
  pub linked : OnOk result (now.linked ≡ true)
  pub writable : OnOk result (now.read_only ≡ false)
  pub clean : OnOk result (IsClean now)
  pub mended : OnOk result (now.lost entry ≡ false)
  pub held : now.held ≡ was.held
  pub parts : Dirties was now IsEntry
  pub lent : now.lent ≡ was.lent

-- A name is taken away, where it is there (unlinkat).
pub record Unnaming {E : Type 0} (was now : File) (result : Result Bool E) : Type 0 where
  pub linked : IfOk result (λ there. was.linked ≡ there)
  pub gone : OnOk result (now.linked ≡ false)
  pub mended : IfOk result (λ there. there ≡ true → now.lost entry ≡ false)
  pub parts : Dirties was now IsEntry
  pub lent : now.lent ≡ was.lent

-- It has no octets then, and a stop may leave anything of it,
pub record Unlinking {E : Type 0} (was now : File) (result : Result Bool E) : Type 0 where
  pub name : Unnaming was now result
  pub reads : OnOk result (now.held.reads ≡ [])
  pub within : IsWithin now.held (given_up was.held was.held.reads)

-- but of a file without octets no more than it might have left before.
pub record UnlinkingEmpty {E : Type 0} (was now : File) (result : Result Bool E) : Type 0 where
  pub name : Unnaming was now result
  pub held : now.held ≡ was.held

-- What a sync of the directory (fsync) makes of the parts of each file. Answered Ok, each name that was made is durable,
-- and each that was taken away is gone for good, but for those that were lost before. Answered by a failure, each dirty
-- name may be lost. Octets and sizes wait as they did.
pub record Entering {T E : Type 0} (was now : File) (result : Result T E) : Type 0 where
  pub clean : OnOk result (now.dirty entry ≡ false)
  pub lost : OnOk result (now.lost entry ≡ true → was.lost entry ≡ true)
  pub name : IsUnsure now entry → IsUnsure was entry
  pub dirty_content : (part : Part) → IsContent part → now.dirty part ≡ true → was.dirty part ≡ true
  pub lost_content : (part : Part) → IsContent part → now.lost part ≡ true → was.lost part ≡ true
  pub status : KeepsStatus was now

-- What a stop may leave of a file is looked at again: where its name is durable and nothing of it waits or was lost, the
-- device has just what the file reads as. An absent file is gone for good then, and a new one has no octets.
pub record Settling {T E : Type 0} (was now : File) (result : Result T E) : Type 0 where
  pub settled : OnOk result (IsNamed was → IsClean was → now.held ≡ settled_at was.held.reads)
  pub reads : now.held.reads ≡ was.held.reads
  pub within : IsWithin now.held was.held
  pub parts : Dirties was now IsNothing
  pub status : KeepsStatus was now

-- What a stop may leave of a file is taken to be more than it is: anything may follow the octets that it has.
pub record Loosening {T E : Type 0} (was now : File) (result : Result T E) : Type 0 where
  pub done : OnOk result (now.held ≡ loosened_at was.held (length was.held.reads) was.held.reads)
  pub failed : OnErr result (now.held ≡ was.held)
  pub parts : Dirties was now IsNothing
  pub status : KeepsStatus was now

-- A file's mode is changed (fchmod). Where that fails the mode may be either.
pub record ChangingMode {T E : Type 0} (was now : File) (read_only : Bool) (result : Result T E) : Type 0 where
  pub mode : OnOk result (now.read_only ≡ read_only)
  pub held : now.held ≡ was.held
  pub parts : Dirties was now IsNothing
  pub linked : now.linked ≡ was.linked
  pub lent : now.lent ≡ was.lent

-- A value that reads a file is lent, or taken back.
pub record Lending (was now : File) (to : Bool) : Type 0 where
  pub lent : now.lent ≡ to
  pub held : now.held ≡ was.held
  pub parts : Dirties was now IsNothing
  pub linked : now.linked ≡ was.linked
  pub read_only : now.read_only ≡ was.read_only
