-- Why no request is answered.
use Rattle.std.proofs.Common.{◌≡◌, ℕ, Result, Ok, Err, sym, subst}
use Rattle.std.specs.Prelude.{IsErrAnd}
use Rattle.flow_folder.specs.declared.system.FolderError.{FolderError}
use Rattle.flow_folder.specs.declared.system.FolderError.TheVariants as folder
use Rattle.flow_manifest.specs.declared.error.OpenError.{OpenError}
use Rattle.flow_manifest.specs.declared.error.OpenError.TheVariants as opening
use Rattle.flow_commands.specs.Archives.{of_folder, of_opening}
use Rattle.flow_commands.specs.declared.archive_refusal.ArchiveRefusal.{ArchiveRefusal}
use Rattle.flow_shell.specs.Endings.{IsUnbegun}

-- the archive isn't opened
pub unopened : (e : OpenError) → IsUnbegun (Err (of_opening e))
unopened (opening.Damaged file at) = tt
unopened (opening.Format file) = tt
unopened (opening.Entries file) = tt
unopened (opening.Cut file) = tt
unopened opening.NoArchive = tt
unopened opening.Fault = tt
unopened opening.OutOfMemory = tt

no_folder : (e : FolderError) → IsUnbegun (Err (of_folder e))
no_folder folder.NotThere = tt
no_folder folder.NotAFolder = tt
no_folder folder.InUse = tt
no_folder (folder.NotAFile file) = tt
no_folder (folder.NoLock error) = tt
no_folder folder.NoHandles = tt
no_folder folder.OutOfMemory = tt
no_folder (folder.Refused error) = tt

-- nor is its folder
pub no_folder_passed_on : (result : Result ℕ ArchiveRefusal) (e : FolderError)
    → IsErrAnd result (λ x. x ≡ of_folder e) → IsUnbegun result
no_folder_passed_on (Ok status) e is = absurd is
no_folder_passed_on (Err x) e is = subst (λ (r : ArchiveRefusal). IsUnbegun (Err r)) (sym is) (no_folder e)
