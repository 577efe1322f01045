-- The two slots: a gate octet, and a manifest's octets after it.
use Rattle.std.specs.Prelude.{◌≡◌, ◌≢◌, ◌⊎◌, ℕ, ◌+◌, ◌<◌, ◌≤◌, Bool, true, false, List, ◌∷◌, ◌++◌, length, take, drop}
use Rattle.std.specs.Prelude.{get_or}
use Rattle.flow_manifest.specs.declared.manifest.Manifest.{Manifest}
use Rattle.flow_manifest.specs.declared.slots.Slot.{Slot}
use Rattle.flow_manifest.specs.declared.slots.Slot.TheVariants.{First, Second}
use Rattle.flow_manifest.specs.declared.slots.Slots.{Slots}
use Rattle.flow_manifest.specs.Manifest.{IsBody, IsValidManifest, manifest_octets}
use Rattle.flow_disk.specs.Disk.{Held}

abbrev pub file_of : Slot → ℕ
file_of First = 1
file_of Second = 2

abbrev pub other : Slot → Slot
other First = Second
other Second = First

-- the octet of an open gate: A5
abbrev pub open_gate : ℕ
open_gate = 165

-- an open slot
abbrev pub IsOpen : List ℕ → Type 0
IsOpen octets = get_or octets 0 0 ≡ open_gate

-- a closed one: any other octet
pub record IsClosed (octets : List ℕ) : Type 0 where
  pub gate : 1 ≤ length octets
  pub shut : get_or octets 0 0 ≢ open_gate

-- whether a slot is open
abbrev pub HasGate : Bool → List ℕ → Type 0
HasGate false octets = IsClosed octets
HasGate true octets = IsOpen octets

-- an open gate, a valid manifest's octets, and nothing more
pub record Holds (octets : List ℕ) (m : Manifest) : Type 0 where
  pub gate : IsOpen octets
  pub body : IsBody (drop 1 octets) m

-- beside the slot that counts: a closed one, or an open one with an older manifest
abbrev pub IsOlder : Bool → Manifest → List ℕ → Type 0
IsOlder false m octets = IsClosed octets
IsOlder true m octets = (older : Manifest) × Holds octets older × (older.generation < m.generation)

-- the slots are as this says
pub record AreSlots (slots : Slots) (image : ℕ → List ℕ) : Type 0 where
  pub current : Holds (image (file_of slots.current_slot)) slots.current
  pub beside : IsOlder slots.other_open slots.current (image (file_of (other slots.current_slot)))

-- a manifest is ready to be opened: its octets, and nothing more, are after the closed gate of the slot beside the
-- current one, whose generation it follows
pub record IsReady (slots : Slots) (m : Manifest) (image : ℕ → List ℕ) : Type 0 where
  pub current : Holds (image (file_of slots.current_slot)) slots.current
  pub closed : IsClosed (image (file_of (other slots.current_slot)))
  pub behind : drop 1 (image (file_of (other slots.current_slot))) ≡ manifest_octets m
  pub valid : IsValidManifest m
  pub follows : m.generation ≡ slots.current.generation + 1

-- a body is the octets of a valid manifest that follows the current one
pub record IsNextBody (slots : Slots) (m : Manifest) (body : List ℕ) : Type 0 where
  pub valid : IsValidManifest m
  pub follows : m.generation ≡ slots.current.generation + 1
  pub is : body ≡ manifest_octets m

-- the slots once this manifest is in force, in the one that wasn't
abbrev pub swapped : Slots → Manifest → Slots
swapped slots m = record { current = m; current_slot = other slots.current_slot; other_open = true }

-- what each file reads as
abbrev pub reads_of : (ℕ → Held) → ℕ → List ℕ
reads_of files n = (files n).reads

-- The manifest in force: each slot has a gate, one at least is open, each open one holds a valid manifest, and of two
-- the one with the greater generation counts.
abbrev pub IsInForce : (ℕ → List ℕ) → Manifest → Type 0
IsInForce image m = (slots : Slots) × (slots.current ≡ m) × AreSlots slots image

-- ---- what a swap does to a slot: the octets before and after

-- while a gate is written: some octet in its place, and the octets after it as they were
abbrev pub HasSomeGate : List ℕ → List ℕ → Type 0
HasSomeGate before after = after ≡ get_or after 0 0 ∷ drop 1 before

-- this gate, and the octets after it as they were
abbrev pub SetsGate : ℕ → List ℕ → List ℕ → Type 0
SetsGate gate before after = after ≡ gate ∷ drop 1 before

-- while it is closed: it is as it was, or closed
abbrev pub MayClose : List ℕ → List ℕ → Type 0
MayClose before after = (after ≡ before) ⊎ IsClosed after

-- closed where it was open, and nothing else changed
abbrev pub Closes : Bool → List ℕ → List ℕ → Type 0
Closes false before after = after ≡ before
Closes true before after = SetsGate 0 before after

-- while a body is written: the gate stays
abbrev pub KeepsGate : List ℕ → List ℕ → Type 0
KeepsGate before after = take 1 after ≡ take 1 before

-- the gate and the body, and nothing more
abbrev pub HasBody : List ℕ → List ℕ → List ℕ → Type 0
HasBody body before after = after ≡ take 1 before ++ body

-- a closed gate and the body, and nothing more
pub record IsPrepared (body before after : List ℕ) : Type 0 where
  pub closed : IsClosed after
  pub behind : drop 1 after ≡ body

-- while it is opened: closed, or open with the octets after the gate as they were
abbrev pub MayOpen : List ℕ → List ℕ → Type 0
MayOpen before after = IsClosed after ⊎ SetsGate open_gate before after

-- opened, and nothing else changed
abbrev pub Opens : List ℕ → List ℕ → Type 0
Opens before after = SetsGate open_gate before after

-- while it is swapped: as it was, closed, or an open gate and the body, and nothing more
abbrev pub MaySwap : List ℕ → List ℕ → List ℕ → Type 0
MaySwap body before after = (after ≡ before) ⊎ IsClosed after ⊎ (after ≡ open_gate ∷ body)

-- swapped: an open gate and the body, and nothing more
abbrev pub IsSwapped : List ℕ → List ℕ → List ℕ → Type 0
IsSwapped body before after = after ≡ open_gate ∷ body
