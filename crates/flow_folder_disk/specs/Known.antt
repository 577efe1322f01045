-- What a folder knows of its files, and what its calls make of them.
use Rattle.std.specs.Prelude.{◌≡◌, ◌≢◌, ℕ, Bool, true, false, List, [], Option, Some, Result, OnOk}
use Rattle.flow_disk.specs.Disk.{Held, IsImage, IsWithin, settled_at}
use Rattle.flow_disk.specs.Moments.{Passes}
use Rattle.flow_directory.specs.File.{Part, entry, File, held_of, IsUnsure}
use Rattle.flow_directory.specs.Calls.{KeepsStatus}
use Rattle.flow_pending.specs.declared.pending.Pending.{Pending}
use Rattle.flow_pending.specs.Tracked.{IsChangeable, IsTracked}

-- nothing of it waits, and nothing was lost, not its name either
abbrev pub IsSure : File → Type 0
IsSure file = (part : Part) → IsUnsure file part → ⊥

-- the same, and a stop leaves just what the file reads as
pub record IsSettled (file : File) : Type 0 where
  pub alone : (image : List ℕ) → IsImage file.held image → image ≡ file.held.reads
  pub sure : IsSure file

-- a new file of no octets, whose name is durable
pub record IsMade (file : File) : Type 0 where
  pub writable : file.read_only ≡ false
  pub sure : IsSure file

-- nobody may write it, where it is there: a later value takes it for settled
abbrev pub IsMarked : File → Type 0
IsMarked file = file.linked ≡ true → file.read_only ≡ true

-- it may be changed, and nothing of it waits
pub record IsNew (file : File) : Type 0 where
  pub changeable : IsChangeable file
  pub sure : IsSure file

-- no file of this name: nothing of it waits but its name
pub record IsGone (file : File) : Type 0 where
  pub linked : file.linked ≡ false
  pub reads : file.held.reads ≡ []
  pub mended : file.lost entry ≡ false

-- a file that was changed, or whose last sync failed
pub record IsPending (file : File) (number : ℕ) (pending : Pending) : Type 0 where
  pub number_is : pending.file ≡ number
  pub changeable : IsChangeable file
  pub tracked : IsTracked file pending

-- What is known of all files: each pending one is tracked; where no name is said to wait, none does; and where none is
-- said to be lost, none is.
pub record IsKnown (files : ℕ → File) (pending : ℕ → Option Pending) (names_pending names_lost : Bool) : Type 0 where
  pub each : (n : ℕ) (p : Pending) → pending n ≡ Some p → IsPending (files n) n p
  pub entered : names_pending ≡ false → (n : ℕ) → (files n).dirty entry ≡ false
  pub found : names_lost ≡ false → (n : ℕ) → (files n).lost entry ≡ false

-- a call left its octets and its status, and nothing waits or is lost that didn't wait and wasn't
pub record IsSeen (was now : File) : Type 0 where
  pub held : now.held ≡ was.held
  pub unsure : (part : Part) → IsUnsure now part → IsUnsure was part
  pub status : KeepsStatus was now

-- the same, but for its mode
pub record IsReached (was now : File) : Type 0 where
  pub held : now.held ≡ was.held
  pub unsure : (part : Part) → IsUnsure now part → IsUnsure was part
  pub linked : now.linked ≡ was.linked
  pub lent : now.lent ≡ was.lent

-- A call on one file: the others are as they were, and a stop inside it leaves this.
pub record Leaves {D : Type 0} (files : D → ℕ → File) (moment : D → ℕ) (left : D → ℕ → (ℕ → List ℕ) → Type 0)
    (old new : D) (file : ℕ) (during : ℕ → Held) : Type 0 where
  pub others : (n : ℕ) → n ≢ file → IsSeen (files old n) (files new n)
  pub time : Passes moment left old new during

-- A sync: after Ok a stop leaves what the file reads as. Where it fails a stop leaves what it might have left before.
pub record IsSynced {T E : Type 0} (was now : File) (result : Result T E) : Type 0 where
  pub done : OnOk result (now.held ≡ settled_at was.held.reads)
  pub sure : OnOk result (IsSure now)
  pub within : IsWithin now.held was.held

-- A removal: after Ok there is no such file.
pub record IsRemoved {T E : Type 0} (now : File) (result : Result T E) : Type 0 where
  pub done : OnOk result (now.held ≡ settled_at [])
  pub sure : OnOk result (IsSure now)
  pub linked : OnOk result (now.linked ≡ false)
  pub lent : now.lent ≡ false

-- Whether names may be lost is as it was where the call answers Ok. No call takes it back.
pub record KeepsLost {T E : Type 0} (old new : Bool) (result : Result T E) : Type 0 where
  pub done : OnOk result (new ≡ old)
  pub still : old ≡ true → new ≡ true

-- Octets, names and all that a stop may leave are as they were, also inside the call.
pub record KeepsAll {D : Type 0} (files : D → ℕ → File) (moment : D → ℕ) (left : D → ℕ → (ℕ → List ℕ) → Type 0)
    (old new : D) : Type 0 where
  pub held : (n : ℕ) → (files new n).held ≡ (files old n).held
  pub linked : (n : ℕ) → (files new n).linked ≡ (files old n).linked
  pub time : Passes moment left old new (held_of (files old))
