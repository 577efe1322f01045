-- What a directory and a snapshot are seen as.
use Rattle.std.specs.Prelude.{Bool}
use Rattle.flow_model.specs.Shelf.{Shelf}

-- whether all files are on honest disks, which read as they are, and the shelf of these files
pub record ShelfSeen : Type 0 where
  pub honest : Bool
  pub shelf : Shelf
