use Rattle.std.proofs.Common.{subst, sym}
use Rattle.std.specs.List.Sorted.{IsStrictlyIncreasing}
use Rattle.std.proofs.lemmas.List.Kept.{IsStrictlyIncreasing-filter}
use Rattle.flow_folder_view.proofs.view.FolderViewDisk.files.Goals as goal

pub returns-in-Ok-clause-ascending : goal.returns-in-Ok-clause-ascending
returns-in-Ok-clause-ascending g c =
    subst IsStrictlyIncreasing (sym c.left_of.ensures)
    (IsStrictlyIncreasing-filter _ c.in-Ok.files.items c.in-Ok.ensures.ascending)
