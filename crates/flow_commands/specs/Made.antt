-- A new archive, by what was asked for.
use Rattle.std.specs.Prelude.{◌≡◌, ◌⊎◌, false, unwrap_or, IsTrue, Result, Ok, Err, IfOk, IfErr, OnOk}
use Rattle.flow_disk.specs.declared.disk.Disk.{Ghosts}
use Rattle.flow_disk.specs.Cause.{HasCause}
use Rattle.flow_disk.specs.Disk.{AllImages}
use Rattle.flow_model.specs.Standing.{StandsFor}
use Rattle.flow_model.specs.State.{State, empty_state}
use Rattle.flow_archive.specs.declared.refusal.ArchiveError.{ArchiveError}
use Rattle.flow_archive.specs.declared.refusal.ArchiveError.TheVariants.{Fault}
use Rattle.flow_archive.specs.declared.refusal.Refused.{Refused}
use Rattle.flow_archive.specs.Beginning.{answer_of, disk_of, widest, HasFiles, IsNotMade}
use Rattle.flow_archive.specs.Seen.{Seen}
use Rattle.flow_folder.specs.declared.system.FolderError.{FolderError}
use Rattle.flow_commands.specs.declared.archive_refusal.ArchiveRefusal.{ArchiveRefusal}
use Rattle.flow_commands.specs.Archives.{of_archive, of_folder}
use Rattle.flow_commands.specs.Plans.{Plan}

-- without messages, and where no wide width was asked for with the greatest
abbrev pub first_state : Plan → State
first_state p = empty_state p.width (unwrap_or p.wide (widest p.width)) p.limit

-- ---- in a folder

-- The folder couldn't be opened.
abbrev pub IsAway : Result (Unit {0}) ArchiveRefusal → Type 0
IsAway result = (why : FolderError) × (result ≡ Err (of_folder why))

-- what is answered, without the archive, or the disk that is given back
abbrev pub created : {D : Type 0} → Result (Seen D) (Refused D ArchiveError) → Result (Unit {0}) ArchiveRefusal
created (Ok archive) = Ok tt
created (Err refused) = Err (of_archive refused.error)

-- The archive that was asked for was made on this disk, or none was.
pub record IsCreated {D S X : Type 0} (g : Ghosts D S X) (p : Plan) (disk : D)
    (given : Result (Seen D) (Refused D ArchiveError)) : Type 0 where
  pub made : IfOk given (λ a. (a.state ≡ first_state p) × (a.closed ≡ false))
  pub stands : IsTrue (g.honest disk)
      → IfOk given (λ a. AllImages (g.held a.disk) (λ image. StandsFor image (first_state p)))
  pub was_empty : IsTrue (g.honest disk) → OnOk given (HasFiles (g.marks disk) → ⊥)
  pub refused : IfErr given (λ r. IsNotMade g disk r.disk r.error)
  pub cause : HasCause Fault (g.faults disk) (g.faults (disk_of given)) (answer_of given)

-- What `create` answers of a folder.
abbrev pub CreatesIn : {D S X : Type 0} → Ghosts D S X → Plan → Result (Unit {0}) ArchiveRefusal → Type 0
CreatesIn {D} g p result =
    ((disk : D) × (given : Result (Seen D) (Refused D ArchiveError)) × IsCreated g p disk given
    × (result ≡ created given))
    ⊎ IsAway result
