-- The refusals of commands over an archive: how they are printed, and their statuses.
use Rattle.std.specs.Prelude.{ℕ, List, ◌++◌, codes}
use Rattle.flow_archive.specs.declared.refusal.ArchiveError.{ArchiveError}
use Rattle.flow_archive.specs.declared.refusal.ArchiveError.TheVariants as archive
use Rattle.flow_archive.specs.Refusals.{archive_code as event_code, archive_text}
use Rattle.flow_folder.specs.declared.system.FolderError.{FolderError}
use Rattle.flow_folder.specs.declared.system.FolderError.TheVariants as folder
use Rattle.flow_folder.specs.Naming.{name_of}
use Rattle.flow_manifest.specs.declared.error.OpenError.{OpenError}
use Rattle.flow_manifest.specs.declared.error.OpenError.TheVariants as opening
use Rattle.flow_manifest.specs.Printed.{opening_code, opening_text}
use Rattle.flow_refusals.specs.declared.read_refusal.ReadRefusal.{ReadRefusal}
use Rattle.flow_refusals.specs.declared.read_refusal.ReadRefusal.TheVariants as query
use Rattle.flow_refusals.specs.Printed.{read_code, read_text}
use Rattle.flow_refusals.specs.Table.{code_text, row_of}
use Rattle.flow_refusals.specs.declared.code.RefusalCode.{RefusalCode}
use Rattle.flow_refusals.specs.declared.code.RefusalCode.TheVariants as code
use Rattle.flow_report.specs.declared.text_error.TextError.{TextError}
use Rattle.flow_report.specs.declared.text_error.TextError.TheVariants as text
use Rattle.flow_commands.specs.declared.archive_refusal.ArchiveRefusal.{ArchiveRefusal}
use Rattle.flow_commands.specs.declared.archive_refusal.ArchiveRefusal.TheVariants.{Folder, Opening, Archive}
use Rattle.flow_commands.specs.declared.folder_fault.FolderFault.{FolderFault}
use Rattle.flow_commands.specs.declared.folder_fault.FolderFault.TheVariants.{NotThere, NotAFolder, Refused, InUse, NotAFile}
use Rattle.flow_commands.specs.declared.folder_fault.FolderFault.TheVariants.{NoLock, NoHandles, NoClock}
use Rattle.flow_commands.specs.declared.archive_refusal.ArchiveRefusal.TheVariants.{Query}
use Rattle.flow_commands.specs.declared.archive_refusal.ArchiveRefusal.TheVariants.{OutOfMemory, Write}

-- A second line says that the folder isn't there, is none, is in use or can't be locked, which name in it isn't a
-- file's, or what the system lacks.
abbrev pub fault_printed : FolderFault → List ℕ
fault_printed NotThere = code_text code.Fault ++ codes "\nflowvault: there is no such folder"
fault_printed NotAFolder =
    code_text code.Fault ++ codes "\nflowvault: that is a file, and DIR is the folder of an archive"
fault_printed Refused =
    code_text code.Fault ++ codes "\nflowvault: the system refused the folder: may this user read, write and enter it?"
fault_printed InUse = code_text code.Fault ++ codes "\nflowvault: the folder is in use, by a flowvault that still runs"
fault_printed (NotAFile file) =
    code_text code.Fault
    ++ (codes "\nflowvault: "
    ++ (name_of file ++ codes " in the folder is a link, a folder, a pipe or a device, and not a file"))
fault_printed NoLock =
    code_text code.Fault ++ codes "\nflowvault: the system can't lock the folder: has its file system locks?"
fault_printed NoHandles =
    code_text code.Fault ++ codes "\nflowvault: the system's list of open files, /proc/self/fd, isn't there"
fault_printed NoClock = code_text code.Fault ++ codes "\nflowvault: the system's clock can't be read"

-- the number, the name and what the refusal carries
abbrev pub archive_printed : ArchiveRefusal → List ℕ
archive_printed (Folder fault) = fault_printed fault
archive_printed (Opening e) = opening_text e
archive_printed (Archive e) = archive_text e
archive_printed (Query e) = read_text e
archive_printed OutOfMemory = code_text code.OutOfMemory
archive_printed (Write failed) = code_text code.Write

-- ---- numbers and statuses

abbrev pub archive_code : ArchiveRefusal → RefusalCode
archive_code (Folder fault) = code.Fault
archive_code (Opening e) = opening_code e
archive_code (Archive e) = event_code e
archive_code (Query e) = read_code e
archive_code OutOfMemory = code.OutOfMemory
archive_code (Write failed) = code.Write

abbrev pub archive_status : ArchiveRefusal → ℕ
archive_status refusal = (row_of (archive_code refusal)).status

-- ---- from the refusals of the layers below

abbrev pub of_opening : OpenError → ArchiveRefusal
of_opening opening.OutOfMemory = OutOfMemory
of_opening e = Opening e

abbrev pub of_archive : ArchiveError → ArchiveRefusal
of_archive archive.OutOfMemory = OutOfMemory
of_archive e = Archive e

abbrev pub of_query : ReadRefusal → ArchiveRefusal
of_query query.OutOfMemory = OutOfMemory
of_query e = Query e

abbrev pub of_text : TextError → ArchiveRefusal
of_text text.OutOfMemory = OutOfMemory
of_text (text.Write failed) = Write failed

abbrev pub of_folder : FolderError → ArchiveRefusal
of_folder folder.NotThere = Folder NotThere
of_folder folder.NotAFolder = Folder NotAFolder
of_folder folder.InUse = Folder InUse
of_folder (folder.NotAFile file) = Folder (NotAFile file)
of_folder (folder.NoLock error) = Folder NoLock
of_folder folder.NoHandles = Folder NoHandles
of_folder folder.OutOfMemory = OutOfMemory
of_folder (folder.Refused error) = Folder Refused
