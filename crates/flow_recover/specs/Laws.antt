-- Laws of what images represent.
use Rattle.std.specs.Prelude.{◌≡◌, ℕ, List}
use Rattle.flow_manifest.specs.declared.slots.Slots.{Slots}
use Rattle.flow_model.specs.State.{State, reopened}
use Rattle.flow_model.specs.Standing.{IsKnown, SameNamed, StandsFor}

-- An image represents one state at most.
abbrev pub OneState : Type 0
OneState = (image : ℕ → List ℕ) (a b : State) → StandsFor image a → StandsFor image b → a ≡ b

-- Files that the manifest doesn't name play no part.
abbrev pub UnnamedFilesPlayNoPart : Type 0
UnnamedFilesPlayNoPart = (before after : ℕ → List ℕ) (s : State) → SameNamed s.manifest before after
    → StandsFor before s → StandsFor after s

-- What an open archive knows of an image is that it represents what is left of the archive on a disk.
abbrev pub KnownStands : Type 0
KnownStands = (slots : Slots) (image : ℕ → List ℕ) (s : State) → IsKnown slots s image → StandsFor image (reopened s)
