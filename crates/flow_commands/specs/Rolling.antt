-- What `roll` and `merge` write.
use Rattle.std.specs.Prelude.{◌≡◌, ◌⊎◌, ℕ, IsTrue, List, [], ◌∷◌, ◌++◌, false, Option, Result, Ok, Err, IsErrAnd, codes}
use Rattle.std.specs.Fmt.{decimal}
use Rattle.std.specs.Io.KnownBytes.{Appends, Keeps}
use Rattle.flow_disk.specs.declared.disk.Disk.{Ghosts}
use Rattle.flow_manifest.specs.declared.following.JobKind.{JobKind}
use Rattle.flow_manifest.specs.declared.following.JobKind.TheVariants.{Roll, Merge}
use Rattle.flow_disk.specs.Cause.{HasCause}
use Rattle.flow_disk.specs.Disk.{AllImages}
use Rattle.flow_manifest.specs.Slots.{reads_of}
use Rattle.flow_manifest.specs.declared.error.OpenError.{OpenError}
use Rattle.flow_manifest.specs.declared.error.OpenError.TheVariants as opening
use Rattle.flow_model.specs.Standing.{StandsFor}
use Rattle.flow_archive.specs.declared.refusal.ArchiveError.{ArchiveError}
use Rattle.flow_archive.specs.declared.refusal.ArchiveError.TheVariants as event
use Rattle.flow_archive.specs.declared.refusal.Refused.{Refused}
use Rattle.flow_archive.specs.Beginning.{disk_of}
use Rattle.flow_archive.specs.Seen.{Seen}
use Rattle.flow_turns.specs.Turns.{files_over, IsCaused, IsJobRun}
use Rattle.flow_report.specs.Writing.{AppendsFront}
use Rattle.flow_commands.specs.declared.archive_refusal.ArchiveRefusal.{ArchiveRefusal}
use Rattle.flow_commands.specs.declared.archive_refusal.ArchiveRefusal.TheVariants.{Folder, Opening, Archive}
use Rattle.flow_commands.specs.declared.archive_refusal.ArchiveRefusal.TheVariants.{Query}
use Rattle.flow_commands.specs.declared.archive_refusal.ArchiveRefusal.TheVariants.{OutOfMemory, Write}
use Rattle.flow_commands.specs.Archives.{of_archive, of_opening}
use Rattle.flow_commands.specs.Asking.{IsUnopened}
use Rattle.flow_commands.specs.Made.{IsAway}
use Rattle.flow_commands.specs.Opened.{KeepsArchive, KeepsFiles}

abbrev pub job_name : JobKind → List ℕ
job_name Roll = codes "rolled"
job_name Merge = codes "merged"

-- how many files were summed
unfoldable pub job_line : JobKind → ℕ → List ℕ
job_line kind count = job_name kind ++ 32 ∷ decimal count ++ 10 ∷ []

abbrev pub IsJobLine : JobKind → List ℕ → Type 0
IsJobLine kind text = (count : ℕ) × (text ≡ job_line kind count)

-- What is written of a job that answered so: its line, or a prefix of it where writing failed; nothing where the job
-- was refused, or memory ran out.
abbrev pub TellsJob : JobKind → Result ℕ ArchiveError → Option (List ℕ) → Option (List ℕ)
    → Result (Unit {0}) ArchiveRefusal → Type 0
TellsJob kind (Err error) old new result = (result ≡ Err (of_archive error)) × Keeps old new
TellsJob kind (Ok count) old new (Ok done) = Appends old new (job_line kind count)
TellsJob kind (Ok count) old new (Err (Write failed)) = AppendsFront old new (job_line kind count)
TellsJob kind (Ok count) old new (Err OutOfMemory) = Keeps old new
TellsJob kind (Ok count) old new (Err (Opening e)) = ⊥
TellsJob kind (Ok count) old new (Err (Archive e)) = ⊥
TellsJob kind (Ok count) old new (Err (Query e)) = ⊥
TellsJob kind (Ok count) old new (Err (Folder why)) = ⊥

-- The files of an archive but the newest were summed as one job, and this was written of it. After Ok no call of the
-- disk failed; where the answer is 30 Fault one has.
pub record IsRolled {D S X : Type 0} (g : Ghosts D S X) (kind : JobKind) (keep : ℕ) (before after : Seen D)
    (old new : Option (List ℕ)) (result : Result (Unit {0}) ArchiveRefusal) : Type 0 where
  pub told : Result ℕ ArchiveError
  pub job : IsJobRun g before after kind (files_over kind keep before.state) told
  pub cause : IsCaused event.Fault (g.faults before.disk) (g.faults after.disk) told
  pub tells : TellsJob kind told old new result

-- ---- of the archive on a disk

-- what is answered, without the archive that is handed on, or the disk that is given back
abbrev pub done_of : {D E : Type 0} → Result (Seen D) (Refused D E) → Result (Unit {0}) E
done_of (Ok archive) = Ok tt
done_of (Err refused) = Err refused.error

-- The archive that was read was rolled or merged, and this was written of it: as it was opened, and as it was then.
pub record IsRolledOn {D S X : Type 0} (g : Ghosts D S X) (kind : JobKind) (keep : ℕ) (disk : D)
    (old new : Option (List ℕ)) (result : Result (Seen D) (Refused D ArchiveRefusal)) : Type 0 where
  pub opened : Seen D
  pub read : IsTrue (g.honest disk) → StandsFor (reads_of (g.held disk)) opened.state
  pub still : g.faults opened.disk ≡ g.faults disk
  pub honest : g.honest opened.disk ≡ g.honest disk
  -- A stop while it was opened left what represents the archive that was there; from then on each image represents the
  -- opened one's state.
  pub any_moment : KeepsArchive g disk opened.disk
  pub is_open : opened.closed ≡ false
  pub stands : IsTrue (g.honest disk) → AllImages (g.held opened.disk) (λ image. StandsFor image opened.state)
  pub rolled : Seen D
  pub disk_is : rolled.disk ≡ disk_of result
  pub done : IsRolled g kind keep opened rolled old new (done_of result)

-- No archive was opened, for this reason, and nothing was written.
pub record IsNotRolled {D S X : Type 0} (g : Ghosts D S X) (disk : D) (old new : Option (List ℕ))
    (refused : Refused D ArchiveRefusal) : Type 0 where
  pub reason : OpenError
  pub error_is : refused.error ≡ of_opening reason
  pub told : IsTrue (g.honest disk) → IsUnopened (reads_of (g.held disk)) reason
  pub cause : HasCause {T = Unit {0}} opening.Fault (g.faults disk) (g.faults refused.disk) (Err reason)
  pub honest : g.honest refused.disk ≡ g.honest disk
  pub any_moment : KeepsArchive g disk refused.disk
  pub unchanged : KeepsFiles g disk refused.disk refused.error
  pub kept : Keeps old new

-- either of both
abbrev pub RollsOn : {D S X : Type 0} → Ghosts D S X → JobKind → ℕ → D → Option (List ℕ) → Option (List ℕ)
    → Result (Seen D) (Refused D ArchiveRefusal) → Type 0
RollsOn g kind keep disk old new result =
    IsRolledOn g kind keep disk old new result ⊎ IsErrAnd result (IsNotRolled g disk old new)

-- ---- of the archive in a folder

-- The folder's disk was rolled on; or the folder couldn't be opened, and nothing was written.
abbrev pub RollsIn : {D S X : Type 0} → Ghosts D S X → JobKind → ℕ → Option (List ℕ) → Option (List ℕ)
    → Result (Unit {0}) ArchiveRefusal → Type 0
RollsIn {D} g kind keep old new result =
    ((disk : D) × (given : Result (Seen D) (Refused D ArchiveRefusal)) × RollsOn g kind keep disk old new given
    × (result ≡ done_of given))
    ⊎ (IsAway result × Keeps old new)
