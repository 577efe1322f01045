-- What is said of how a File that is fed ended.
use Rattle.std.specs.Prelude.{◌≡◌, ◌⊎◌, ℕ, List, Option}
use Rattle.flow_disk.specs.declared.disk.Disk.{Ghosts}
use Rattle.flow_model.specs.Shelf.{Shelf}
use Rattle.flow_feed.specs.declared.batch.Fed.{Fed}
use Rattle.flow_feed.specs.declared.batch.FeedStop.TheVariants as stop
use Rattle.flow_commands.specs.Feeding.{unopened, IsFedFrom}
use Rattle.flow_commands.specs.declared.plan.InputKind.{InputKind}

-- A File was fed by its kind, and ended so: its messages that are reported are acknowledged, in their order, each once,
-- and what comes after them is why there aren't more; and where each step is made they are in the archive's steps. Or
-- it couldn't be opened, and nothing of it was taken in.
abbrev pub EndsBy : {D S X : Type 0} → Ghosts D S X → Shelf → InputKind → Fed → Type 0
EndsBy g opening kind fed =
    (fed ≡ unopened stop.OutOfMemory) ⊎ (fed ≡ unopened stop.Unopened)
    ⊎ ((octets : Option (List ℕ)) × IsFedFrom g opening kind octets fed)

-- A File was fed by the kind by which a File at some path was to be fed, and ended so.
abbrev pub EndsSo : {D S X : Type 0} → Ghosts D S X → Shelf → (List ℕ → InputKind → Type 0) → Fed → Type 0
EndsSo g opening to_feed fed =
    (path : List ℕ) × (kind : InputKind) × ∥ to_feed path kind ∥₁ × EndsBy g opening kind fed
