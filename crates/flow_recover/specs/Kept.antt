-- What holds of an archive that is open, on its disk.
use Rattle.std.specs.Prelude.{◌≡◌, ◌⊎◌, ℕ, ◌+◌, ◌≤◌, Bool, true, false, IsTrue, List, [], ◌∷◌, length}
use Rattle.flow_disk.specs.Disk.{Held, Marks, AllImages}
use Rattle.flow_manifest.specs.declared.manifest.Entry.{Entry}
use Rattle.flow_manifest.specs.declared.slots.Slot.{Slot}
use Rattle.flow_manifest.specs.declared.slots.Slots.{Slots}
use Rattle.flow_manifest.specs.Manifest.{IsValidManifest}
use Rattle.flow_manifest.specs.Slots.{file_of}
use Rattle.flow_manifest.specs.Following.{active_of, messages_of}
use Rattle.flow_model.specs.State.{State, end_of}
use Rattle.flow_model.specs.Standing.{IsKnown, IsWithinLimits}

-- What is counted of a state, whatever the disk: its last entry, the end of its messages, how many there are in all.
pub record IsCounted (s : State) (active_entry : Entry) (end total : ℕ) : Type 0 where
  pub valid : IsValidManifest s.manifest
  pub next : s.manifest.next ≤ s.next
  pub active_entry_is : active_entry ≡ active_of s.manifest
  pub end_is : end ≡ end_of s
  pub long : 1 ≤ length s.active.messages → active_entry.prefix + 16 ≤ end
  pub total_is : total ≡ messages_of s.manifest.entries + length s.active.messages
  pub within : IsWithinLimits s

-- What is known of the files whatever the disk: the slots and the active file are settled and long enough, they and the
-- next files are not frozen.
pub record IsReadyFor (marks : ℕ → Marks) (active next end : ℕ) : Type 0 where
  pub slot_room : (slot : Slot) → 1 ≤ (marks (file_of slot)).size
  pub slot_settled : (slot : Slot) → (marks (file_of slot)).settled ≡ true
  pub slot_thawed : (slot : Slot) → (marks (file_of slot)).frozen ≡ false
  pub room : end + 2 ≤ (marks active).size
  pub settled : (marks active).settled ≡ true
  pub thawed : (n : ℕ) → (n ≡ active) ⊎ (next ≤ n) → (marks n).frozen ≡ false

-- and on an honest disk each image is known
pub record IsKept {D : Type 0} (honest : D → Bool) (marks : D → ℕ → Marks) (held : D → ℕ → Held) (disk : D)
    (slots : Slots) (active_entry : Entry) (end total : ℕ) (s : State) : Type 0 where
  pub counted : IsCounted s active_entry end total
  pub ready : IsReadyFor (marks disk) active_entry.file s.next end
  pub known : IsTrue (honest disk) → AllImages (held disk) (IsKnown slots s)

-- A file of this disk, as an entry names it: whatever the disk, it has this number and at least these octets.
pub record IsFileOf {S : Type 0} (number size : S → ℕ) (is_honest : S → Bool) (honest : Bool) (entry : Entry)
    (file : S) : Type 0 where
  pub number_is : number file ≡ entry.file
  pub long : entry.length ≤ size file
  pub honest_is : is_honest file ≡ honest

-- one for each of these entries
abbrev pub AreFilesOf : {S : Type 0} → (S → ℕ) → (S → ℕ) → (S → Bool) → Bool → List Entry → List S → Type 0
AreFilesOf number size is_honest honest [] [] = Unit {0}
AreFilesOf number size is_honest honest [] (x ∷ files) = ⊥
AreFilesOf number size is_honest honest (entry ∷ entries) [] = ⊥
AreFilesOf number size is_honest honest (entry ∷ entries) (file ∷ files) =
    IsFileOf number size is_honest honest entry file × AreFilesOf number size is_honest honest entries files
