-- Opening an archive, and why it may be refused.
use Rattle.std.specs.Prelude.{◌≡◌, ◌⊎◌, ℕ, ◌+◌, Bool, true, IsTrue, List, [], ◌∷◌, length}
use Rattle.std.specs.List.{AllByRecursion}
use Rattle.flow_disk.specs.Disk.{AllImages, Held, Marks}
use Rattle.flow_manifest.specs.declared.error.OpenError.{OpenError}
use Rattle.flow_manifest.specs.declared.manifest.Entry.{Entry}
use Rattle.flow_manifest.specs.declared.manifest.Manifest.{Manifest}
use Rattle.flow_model.specs.Chain.{HandsOn, IsSegment}
use Rattle.flow_segment.specs.Carry.{Carry}
use Rattle.flow_manifest.specs.declared.error.OpenError.TheVariants.{Fault, OutOfMemory}
use Rattle.flow_model.specs.State.{Part, State, at_rest}
use Rattle.flow_model.specs.Standing.{HoldsFiles, IsActiveAt, IsKnown, IsWithinLimits, PartsStand}
use Rattle.flow_model.specs.Standing.{StandsAs, StandsFor}
use Rattle.flow_measure.specs.declared.span.PartSpan.{PartSpan}
use Rattle.flow_recover.specs.Kept.{AreFilesOf, IsCounted, IsReadyFor}
use Rattle.flow_recover.specs.Spans.{AreSpansOf}
use Rattle.flow_manifest.specs.Following.{active_of, front_of}
use Rattle.flow_manifest.specs.Slots.{AreSlots}
use Rattle.flow_manifest.specs.declared.slots.Slots.{Slots}

-- the refusals that say nothing of what the disk holds
abbrev pub IsDeviceOrMemory : OpenError → Type 0
IsDeviceOrMemory e = (e ≡ Fault) ⊎ (e ≡ OutOfMemory)

-- an image that represents no state
abbrev pub StandsForNone : (ℕ → List ℕ) → Type 0
StandsForNone image = (s : State) → StandsFor image s → ⊥

-- The files that the manifest names hold this, whether or not their messages are accepted and chained.
pub record FilesStand (image : ℕ → List ℕ) (s : State) : Type 0 where
  pub parts : PartsStand image (front_of s.manifest) s.parts
  pub active : IsActiveAt (image (active_of s.manifest).file) (active_of s.manifest) s.active
  pub within : IsWithinLimits s

-- What is read, and what is known of each image.
pub record IsRead (files : ℕ → Held) (reads : ℕ → List ℕ) (slots : Slots) (s : State) (carry : Carry) : Type 0 where
  pub slots_are : AreSlots slots reads
  pub holds : HoldsFiles reads s
  pub hands_on : HandsOn s carry
  pub known : AllImages files (IsKnown slots s)

-- files are settled, and nothing else
pub record OnlySettles (old new : ℕ → Marks) : Type 0 where
  pub size : (n : ℕ) → (new n).size ≡ (old n).size
  pub settled : (n : ℕ) → (old n).settled ≡ true → (new n).settled ≡ true

-- what every disk keeps of a file that was cut to so many octets and is frozen
abbrev pub shut_at : ℕ → Marks
shut_at size = record { size = size; settled = true; frozen = true; listed = true }

-- Files end where they are to: each but the active one after as many octets as its entry says, and the active one after
-- its trailer, two octets after the end of its messages.
pub record AreCutTo (size : ℕ → ℕ) (m : Manifest) (end : ℕ) : Type 0 where
  pub parts : AllByRecursion (λ e. size e.file ≡ e.length) (front_of m)
  pub active : size (active_of m).file ≡ end + 2

-- Frozen files hold what these parts say.
abbrev pub FrozenStand : {S : Type 0} → (S → List ℕ) → List Entry → List Part → List S → Type 0
FrozenStand octets [] [] [] = Unit {0}
FrozenStand octets [] [] (x ∷ frozen) = ⊥
FrozenStand octets [] (part ∷ parts) frozen = ⊥
FrozenStand octets (entry ∷ entries) [] frozen = ⊥
FrozenStand octets (entry ∷ entries) (part ∷ parts) [] = ⊥
FrozenStand octets (entry ∷ entries) (part ∷ parts) (x ∷ frozen) =
    StandsAs entry.kind (octets x) entry part × FrozenStand octets entries parts frozen

-- What an opening has found: a state whose numbers are counted on every disk, whose active segment is one of accepted
-- messages, and whose files before the active one are frozen, each a file of this disk. On an honest disk what was read
-- represents it, its files are an archive's, each image is known to hold it, the frozen files hold its parts, and the
-- spans are those of what was read.
pub record IsRecovered {D S : Type 0} (honest : D → Bool) (marks : D → ℕ → Marks) (held : D → ℕ → Held)
    (octets : S → List ℕ) (number size : S → ℕ) (is_honest : S → Bool) (reads : ℕ → List ℕ) (disk : D) (slots : Slots)
    (active_entry : Entry) (end total : ℕ) (active : Part) (carry : Carry) (frozen : List S) (spans : List PartSpan)
    : Type 0 where
  pub parts : List Part
  pub counted : IsCounted (at_rest slots.current parts active) active_entry end total
  pub ready : IsReadyFor (marks disk) active_entry.file slots.current.next end
  pub all : length frozen ≡ length (front_of slots.current)
  pub files : AreFilesOf number size is_honest (honest disk) (front_of slots.current) frozen
  pub are_frozen : AllByRecursion (λ e. (marks disk e.file).frozen ≡ true) (front_of slots.current)
  pub segment : IsSegment active carry
  pub hands_on : IsTrue (honest disk) → HandsOn (at_rest slots.current parts active) carry
  pub read : IsTrue (honest disk) → StandsFor reads (at_rest slots.current parts active)
  pub known : IsTrue (honest disk) → AllImages (held disk) (IsKnown slots (at_rest slots.current parts active))
  pub frozen_stand : IsTrue (honest disk) → FrozenStand octets (front_of slots.current) parts frozen
  pub spanned : IsTrue (honest disk) → AreSpansOf reads slots.current (front_of slots.current) spans
