-- How what a disk has reported agrees with its folder.
use Rattle.std.specs.Prelude.{◌≡◌, ℕ, true, false, Option, is_some}
use Rattle.flow_disk.specs.Disk.{Marks}
use Rattle.flow_directory.specs.File.{File}
use Rattle.flow_pending.specs.declared.pending.Pending.{Pending}
use Rattle.flow_folder_disk.specs.Known.{IsSettled}

-- a file that is reported as settled isn't pending,
abbrev pub AreUnchanged : (ℕ → Marks) → (ℕ → Option Pending) → Type 0
AreUnchanged marks pending = (n : ℕ) → (marks n).settled ≡ true → is_some (pending n) ≡ false

-- and it is settled
abbrev pub AreSettled : (ℕ → Marks) → (ℕ → File) → Type 0
AreSettled marks files = (n : ℕ) → (marks n).settled ≡ true → IsSettled (files n)

-- a file that is lent is reported as frozen, and as settled
abbrev pub AreFrozen : (ℕ → Marks) → (ℕ → File) → Type 0
AreFrozen marks files = (n : ℕ) → (files n).lent ≡ true → ((marks n).frozen ≡ true) × ((marks n).settled ≡ true)
