-- What an image represents.
use Rattle.std.specs.Prelude.{◌≡◌, ◌⊎◌, ℕ, ◌+◌, ◌<◌, ◌≤◌, ◌==◌, ◌||◌, Bool, true, List, [], ◌∷◌, length, take}
use Rattle.std.specs.List.{list_any}
use Rattle.flow_manifest.specs.Limits.{too_many_messages}
use Rattle.flow_gate.specs.Gate.{StandInRow, IsGated, octet_sum}
use Rattle.flow_manifest.specs.declared.manifest.Kind.{Kind}
use Rattle.flow_manifest.specs.declared.manifest.Kind.TheVariants.{Wide, Rolled, Sealed, Active}
use Rattle.flow_manifest.specs.declared.manifest.Entry.{Entry}
use Rattle.flow_manifest.specs.declared.manifest.Manifest.{Manifest}
use Rattle.flow_manifest.specs.declared.slots.Slots.{Slots}
use Rattle.flow_manifest.specs.Slots.{AreSlots, IsInForce}
use Rattle.flow_manifest.specs.Following.{active_of, front_of, messages_of}
use Rattle.flow_model.specs.State.{Part, State, reopened}
use Rattle.flow_model.specs.Chain.{IsChained}

-- A rolled or wide file begins with its octets.
pub record IsRolledAt (octets : List ℕ) (entry : Entry) (part : Part) : Type 0 where
  pub long : entry.length ≤ length octets
  pub front : take entry.length octets ≡ part.front
  pub messages : part.messages ≡ []

-- A sealed file begins with its prefix and its messages.
pub record IsSealedAt (octets : List ℕ) (entry : Entry) (part : Part) : Type 0 where
  pub long : entry.length ≤ length octets
  pub front : take entry.prefix octets ≡ part.front
  pub row : StandInRow octets entry.prefix part.messages
  pub count : entry.prefix + octet_sum part.messages ≡ entry.length
  pub messages : length part.messages ≡ entry.messages

-- The active file is its prefix, and then a gated list.
pub record IsActiveAt (octets : List ℕ) (entry : Entry) (part : Part) : Type 0 where
  pub front : take entry.prefix octets ≡ part.front
  pub gated : IsGated octets entry.prefix part.messages

-- a file before the active one holds this part, by the kind of its entry
abbrev pub StandsAs : Kind → List ℕ → Entry → Part → Type 0
StandsAs Wide octets entry part = IsRolledAt octets entry part
StandsAs Rolled octets entry part = IsRolledAt octets entry part
StandsAs Sealed octets entry part = IsSealedAt octets entry part
StandsAs Active octets entry part = ⊥

-- each of these files holds its part
abbrev pub PartsStand : (ℕ → List ℕ) → List Entry → List Part → Type 0
PartsStand image [] [] = Unit {0}
PartsStand image [] (part ∷ parts) = ⊥
PartsStand image (entry ∷ entries) [] = ⊥
PartsStand image (entry ∷ entries) (part ∷ parts) =
    StandsAs entry.kind (image entry.file) entry part × PartsStand image entries parts

-- the limit of a segment, and that of all messages
pub record IsWithinLimits (s : State) : Type 0 where
  pub limit : octet_sum s.active.messages ≤ s.manifest.limit
  pub all : messages_of s.manifest.entries + length s.active.messages < too_many_messages

-- The files that the manifest names hold this state's parts, which are within its limits and chained.
pub record HoldsFiles (image : ℕ → List ℕ) (s : State) : Type 0 where
  pub parts : PartsStand image (front_of s.manifest) s.parts
  pub active : IsActiveAt (image (active_of s.manifest).file) (active_of s.manifest) s.active
  pub within : IsWithinLimits s
  pub chained : IsChained s

-- An image represents a state: its manifest is in force, the files hold what they are to hold, and nothing is under
-- way.
pub record StandsFor (image : ℕ → List ℕ) (s : State) : Type 0 where
  pub force : IsInForce image s.manifest
  pub files : HoldsFiles image s
  pub at_rest : s ≡ reopened s

-- an image represents one of the two
abbrev pub StandsForEither : State → State → (ℕ → List ℕ) → Type 0
StandsForEither a b image = StandsFor image a ⊎ StandsFor image b

-- An image as an open archive knows it, whatever is under way.
pub record IsKnown (slots : Slots) (s : State) (image : ℕ → List ℕ) : Type 0 where
  pub slots_are : AreSlots slots image
  pub current : slots.current ≡ s.manifest
  pub files : HoldsFiles image s

-- the slots, and the files that a manifest names
abbrev pub is_file_of : Manifest → ℕ → Bool
is_file_of m n = (n == 1) || (n == 2) || list_any (λ e. e.file == n) m.entries

-- they are as they were
abbrev pub SameNamed : Manifest → (ℕ → List ℕ) → (ℕ → List ℕ) → Type 0
SameNamed m before after = (n : ℕ) → is_file_of m n ≡ true → after n ≡ before n
