-- What the two slots hold, and why no manifest may be in force.
use Rattle.std.specs.Prelude.{◌≡◌, ◌⊎◌, ℕ, ◌<◌, true, List, length, drop, Option, Some, None}
use Rattle.flow_disk.specs.declared.error.DiskError.{DiskError}
use Rattle.flow_disk.specs.declared.error.DiskError.TheVariants as disk
use Rattle.flow_refusals.specs.declared.read_refusal.ReadRefusal.{ReadRefusal}
use Rattle.flow_refusals.specs.declared.read_refusal.ReadRefusal.TheVariants as read
use Rattle.flow_manifest.specs.declared.manifest.Manifest.{Manifest}
use Rattle.flow_manifest.specs.declared.error.ManifestError.{ManifestError}
use Rattle.flow_manifest.specs.declared.error.ManifestError.TheVariants as manifest
use Rattle.flow_manifest.specs.declared.error.OpenError.{OpenError}
use Rattle.flow_manifest.specs.declared.error.OpenError.TheVariants.{Damaged, Format, Entries, Cut, NoArchive, Fault}
use Rattle.flow_manifest.specs.declared.error.OpenError.TheVariants.{OutOfMemory}
use Rattle.flow_manifest.specs.declared.slots.Slot.{Slot}
use Rattle.flow_manifest.specs.declared.slots.Slot.TheVariants.{First, Second}
use Rattle.flow_manifest.specs.declared.slots.Slots.{Slots}
use Rattle.flow_manifest.specs.Fault.{IsFault}
use Rattle.flow_manifest.specs.Slots.{file_of, IsOpen, IsClosed, Holds}

-- a disk's refusal, as one of an opening
abbrev pub told : DiskError → OpenError
told disk.Fault = Fault
told disk.OutOfMemory = OutOfMemory

-- why a file isn't read, as a refusal of an opening
abbrev pub of_file : ReadRefusal → OpenError
of_file (read.Damaged file at) = Damaged file at
of_file read.Fault = Fault
of_file read.OutOfMemory = OutOfMemory

-- the fault of a manifest, as one of its slot
abbrev pub in_slot : Slot → ManifestError → OpenError
in_slot slot manifest.Format = Format (file_of slot)
in_slot slot manifest.Entries = Entries (file_of slot)
in_slot slot manifest.Cut = Cut (file_of slot)
in_slot slot manifest.OutOfMemory = OutOfMemory

-- what a slot with a gate holds
abbrev pub IsHeld : List ℕ → Option Manifest → Type 0
IsHeld octets (Some m) = Holds octets m
IsHeld octets None = IsClosed octets

-- of two open slots the one of the greater generation counts
pub record IsNewerOf (one two : Manifest) (slots : Slots) : Type 0 where
  pub beside : slots.other_open ≡ true
  pub current : ((slots.current_slot ≡ First) × (slots.current ≡ one) × (two.generation < one.generation))
      ⊎ ((slots.current_slot ≡ Second) × (slots.current ≡ two) × (one.generation < two.generation))

-- a slot without octets, or an open one whose body has this first fault
abbrev pub IsSlotFault : Slot → List ℕ → OpenError → Type 0
IsSlotFault slot octets fault = ((length octets ≡ 0) × (fault ≡ Cut (file_of slot)))
    ⊎ (IsOpen octets × (f : ManifestError) × IsFault (drop 1 octets) f × (fault ≡ in_slot slot f))

-- No slot is open; else the fault of slot 1; else that of slot 2; else both are open with one generation.
abbrev pub IsOpenFault : (ℕ → List ℕ) → OpenError → Type 0
IsOpenFault image fault =
    ((IsOpen (image 1) → ⊥) × (IsOpen (image 2) → ⊥) × (fault ≡ NoArchive))
    ⊎ ((IsOpen (image 1) ⊎ IsOpen (image 2)) × IsSlotFault First (image 1) fault)
    ⊎ ((IsOpen (image 1) ⊎ IsOpen (image 2)) × (held : Option Manifest) × IsHeld (image 1) held
    × IsSlotFault Second (image 2) fault)
    ⊎ ((m : Manifest) × (n : Manifest) × Holds (image 1) m × Holds (image 2) n × (m.generation ≡ n.generation)
    × (fault ≡ Damaged 2 3))

-- a refusal names the slot that is at fault, 2 and the place of its generation where both have the same
abbrev pub NamesSlot : OpenError → Type 0
NamesSlot (Damaged file at) = (file ≡ 2) × (at ≡ 3)
NamesSlot (Format file) = (file ≡ 1) ⊎ (file ≡ 2)
NamesSlot (Entries file) = (file ≡ 1) ⊎ (file ≡ 2)
NamesSlot (Cut file) = (file ≡ 1) ⊎ (file ≡ 2)
NamesSlot NoArchive = Unit {0}
NamesSlot Fault = Unit {0}
NamesSlot OutOfMemory = Unit {0}

-- one octet more than the longest slot has: a gate, a head, and 4,096 entries
unfoldable pub enough : ℕ
enough = 131124
