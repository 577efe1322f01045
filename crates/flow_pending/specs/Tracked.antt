-- What a pending file remembers of its parts.
use Rattle.std.specs.Prelude.{◌≡◌, ◌≢◌, ◌⊎◌, ℕ, ◌<◌, ◌≤◌, true, false, List, length, Result, OnOk, OnErr}
use Rattle.flow_disk.specs.Disk.{Held, IsWithin, settled_at}
use Rattle.flow_disk.specs.Moments.{Passes}
use Rattle.flow_directory.specs.File.{Part, octet, size, entry, File, held_of, IsNamed, IsUnsure, IsWhole}
use Rattle.flow_directory.specs.Calls.{IsBetween, IsPut, Dirties, KeepsStatus}
use Rattle.flow_pending.specs.Written.{IsWritten}
use Rattle.flow_pending.specs.declared.pending.Pending.{Pending}
use Rattle.flow_pending.specs.declared.pending.Stage.TheVariants.{Doubtful}

-- it may be changed: its name is durable, its owner may write it, and it isn't lent
pub record IsChangeable (file : File) : Type 0 where
  pub name : IsNamed file
  pub writable : file.read_only ≡ false
  pub free : file.lent ≡ false

-- each octet that is dirty or lost is remembered: one that isn't remembered is neither
abbrev pub IsRemembered : File → Pending → Type 0
IsRemembered file pending =
    (place : ℕ) → (IsWritten pending.written.ranges.items place → ⊥) → IsUnsure file (octet place) → ⊥

-- and where the file isn't doubtful nothing is lost
pub record IsTracked (file : File) (pending : Pending) : Type 0 where
  pub remembered : IsRemembered file pending
  pub sure : pending.stage ≢ Doubtful → IsWhole file

-- nothing is lost
abbrev pub IsWholeAgain : File → Type 0
IsWholeAgain file = IsWhole file

-- its size isn't lost
abbrev pub IsMended : File → Type 0
IsMended file = file.lost size ≡ false

-- One file was written over itself: nothing that is read differs, nor anything that a stop may leave.
pub record Repairs {D : Type 0} (files : D → ℕ → File) (moment : D → ℕ) (left : D → ℕ → (ℕ → List ℕ) → Type 0)
    (old new : D) (file : ℕ) : Type 0 where
  pub held : (files new file).held ≡ (files old file).held
  pub status : KeepsStatus (files old file) (files new file)
  pub lost : (part : Part) → (files new file).lost part ≡ true → (files old file).lost part ≡ true
  pub name : (files new file).dirty entry ≡ true → (files old file).dirty entry ≡ true
  pub others : (n : ℕ) → n ≢ file → files new n ≡ files old n
  pub time : Passes moment left old new (held_of (files old))

-- octets from one place on up to another were written over themselves
pub record Copies {D T X : Type 0} (files : D → ℕ → File) (moment : D → ℕ) (left : D → ℕ → (ℕ → List ℕ) → Type 0)
    (old new : D) (file from to : ℕ) (result : Result T X) : Type 0 where
  pub repairs : Repairs files moment left old new file
  pub dirty : (part : Part) → (files new file).dirty part ≡ true
      → ((files old file).dirty part ≡ true) ⊎ IsPut from to part
  pub mended : OnOk result ((place : ℕ) → IsBetween from to place → (files new file).lost (octet place) ≡ false)

-- A sync, with all that it takes. Where it fails a stop leaves what it might have left before.
pub record Settles {T E : Type 0} (was now : File) (result : Result T E) : Type 0 where
  pub settled : OnOk result (now.held ≡ settled_at was.held.reads)
  pub clean : OnOk result ((part : Part) → IsUnsure now part → ⊥)
  pub within : IsWithin now.held was.held
  pub status : KeepsStatus was now
