-- Steps with their content.
use Rattle.std.specs.Prelude.{Bool, true}
use Rattle.std.specs.Arc.{arc_value}
use Rattle.flow_disk.specs.declared.sealed.SealedFile.{Ghosts}
use Rattle.flow_snapshot.specs.declared.step.Step.{Step}
use Rattle.flow_snapshot.specs.declared.step.Step.TheVariants.{Added, Sealed, Installed, Merged}
use Rattle.flow_model.specs.Changes.{Change}
use Rattle.flow_model.specs.Changes.Change.{added, sealed, installed, merged}
use Rattle.flow_snapshot.specs.Files.{is_honest, rollup_of, segment_of}

-- the change that a step makes
abbrev pub change_of : {F X : Type 0} {files : Ghosts F X} → Step F X files → Change
change_of (Added messages) = added messages.items
change_of (Sealed part next) = sealed (segment_of (arc_value part)) next
change_of (Installed part k) = installed (rollup_of (arc_value part)) k
change_of (Merged part k) = merged (rollup_of (arc_value part)) k

-- whether its file is on an honest disk
abbrev pub has_honest : {F X : Type 0} {files : Ghosts F X} → Step F X files → Bool
has_honest (Added messages) = true
has_honest (Sealed part next) = is_honest (arc_value part)
has_honest (Installed part k) = (arc_value part).honest
has_honest (Merged part k) = (arc_value part).honest
