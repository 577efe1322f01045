-- What `roll` and `merge` write of a job.
use Rattle.std.proofs.Common.{◌≡◌, ℕ, List, Option, refl, sym, subst}
use Rattle.std.specs.Prelude.{Result, Ok, Err, IfErr, OnOk}
use Rattle.std.specs.Io.KnownBytes.{Keeps}
use Rattle.std.proofs.KnownBytes.{Keeps-refl}
use Rattle.flow_manifest.specs.declared.following.JobKind.{JobKind}
use Rattle.flow_archive.specs.declared.refusal.ArchiveError.{ArchiveError}
use Rattle.flow_archive.specs.declared.refusal.ArchiveError.TheVariants as archive
use Rattle.flow_folder.specs.declared.system.FolderError.{FolderError}
use Rattle.flow_folder.specs.declared.system.FolderError.TheVariants as folder
use Rattle.flow_commands.specs.declared.archive_refusal.ArchiveRefusal.{ArchiveRefusal}
use Rattle.flow_commands.specs.declared.archive_refusal.ArchiveRefusal.TheVariants as refusal
use Rattle.flow_commands.specs.Archives.{of_archive, of_folder}
use Rattle.flow_commands.specs.Asking.{IsBeforeWriting, Writes, WritesOrNot}
use Rattle.flow_commands.specs.Rolling.{IsJobLine, TellsJob, job_line}

kept_before : (are : List ℕ → Type 0) (old new : Option (List ℕ)) (e : ArchiveRefusal) → IsBeforeWriting e
    → Keeps old new → WritesOrNot are e old new
kept_before are old new (refusal.Opening e) before kept = kept
kept_before are old new refusal.OutOfMemory before kept = kept
kept_before are old new (refusal.Query e) before kept = kept
kept_before are old new (refusal.Write failed) before kept = absurd before
kept_before are old new (refusal.Archive e) before kept = kept
kept_before are old new (refusal.Folder why) before kept = kept

event_unwritten : (e : ArchiveError) → IsBeforeWriting (of_archive e)
event_unwritten (archive.Message fault) = tt
event_unwritten archive.OutOfMemory = tt
event_unwritten (archive.Damaged file at) = tt
event_unwritten archive.NumbersSpent = tt
event_unwritten archive.NotEmpty = tt
event_unwritten archive.Fault = tt
event_unwritten archive.SourceFault = tt
event_unwritten archive.NoRoom = tt
event_unwritten archive.ManifestFull = tt
event_unwritten archive.NothingToSeal = tt
event_unwritten archive.RollBusy = tt
event_unwritten archive.NoRoll = tt
event_unwritten archive.RollCount = tt
event_unwritten archive.RollNotDone = tt
event_unwritten archive.Pinned = tt
event_unwritten archive.NothingToRetire = tt
event_unwritten archive.Closed = tt

-- a folder that can't be opened
pub folder_unwritten : (are : List ℕ → Type 0) (output : Option (List ℕ)) (e : FolderError)
    → WritesOrNot are (of_folder e) output output
folder_unwritten are output folder.NotThere = Keeps-refl output
folder_unwritten are output folder.NotAFolder = Keeps-refl output
folder_unwritten are output folder.InUse = Keeps-refl output
folder_unwritten are output (folder.NotAFile file) = Keeps-refl output
folder_unwritten are output (folder.NoLock error) = Keeps-refl output
folder_unwritten are output folder.NoHandles = Keeps-refl output
folder_unwritten are output folder.OutOfMemory = Keeps-refl output
folder_unwritten are output (folder.Refused error) = Keeps-refl output

pub job_written : (kind : JobKind) (told : Result ℕ ArchiveError) (old new : Option (List ℕ))
    (r : Result (Unit {0}) ArchiveRefusal) → TellsJob kind told old new r → OnOk r (Writes (IsJobLine kind) old new)
job_written kind (Ok count) old new (Ok done) told = (job_line kind count, (count, refl), told)
job_written kind (Ok count) old new (Err e) told = tt
job_written kind (Err error) old new (Ok done) told = let wrong = told.0 in absurd cc
job_written kind (Err error) old new (Err e) told = tt

pub job_kept : (kind : JobKind) (told : Result ℕ ArchiveError) (old new : Option (List ℕ))
    (r : Result (Unit {0}) ArchiveRefusal) → TellsJob kind told old new r
    → IfErr r (λ e. WritesOrNot (IsJobLine kind) e old new)
job_kept kind told old new (Ok done) tells = tt
job_kept kind (Ok count) old new (Err (refusal.Write failed)) tells = (job_line kind count, (count, refl), tells)
job_kept kind (Ok count) old new (Err refusal.OutOfMemory) tells = tells
job_kept kind (Ok count) old new (Err (refusal.Opening e)) tells = absurd tells
job_kept kind (Ok count) old new (Err (refusal.Archive e)) tells = absurd tells
job_kept kind (Ok count) old new (Err (refusal.Query e)) tells = absurd tells
job_kept kind (Ok count) old new (Err (refusal.Folder why)) tells = absurd tells
job_kept kind (Err error) old new (Err e) tells =
    let is = tells.0 in
    let same : e ≡ of_archive error = cc in
    subst (λ (x : ArchiveRefusal). WritesOrNot (IsJobLine kind) x old new) (sym same)
    (kept_before (IsJobLine kind) old new (of_archive error) (event_unwritten error) tells.1)
