-- What an archive has, by what an opening finds.
use Rattle.std.proofs.Common.{◌≡◌, ◌∙◌, ap, ℕ, List}
use Rattle.flow_manifest.specs.declared.manifest.Manifest.{Manifest}
use Rattle.flow_model.specs.Standing.{StandsFor}
use Rattle.flow_model.specs.State.{Part, State, at_rest}
use Rattle.flow_archive.specs.Answers.{archive_position}
use Rattle.flow_commands.specs.declared.checking.Standing.{Standing}
use Rattle.flow_commands.specs.Check.{standing_by, standing_of}

pub stands_as : (reads : ℕ → List ℕ) (m : Manifest) (parts : List Part) (active : Part) (t : Standing) (total : ℕ)
    → StandsFor reads (at_rest m parts active) → total ≡ archive_position (at_rest m parts active)
    → t ≡ standing_by m total
    → (s : State) × StandsFor reads s × (t ≡ standing_of s)
stands_as reads m parts active t total stands counted is =
    (at_rest m parts active, stands, is ∙ ap (standing_by m) counted)
