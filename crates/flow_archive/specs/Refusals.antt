-- The refusals of an archive, and how they are printed: the number, the name, and what they carry.
use Rattle.std.specs.Prelude.{ℕ, List}
use Rattle.flow_codec.specs.declared.error.MessageError.{MessageError}
use Rattle.flow_codec.specs.declared.error.MessageError.TheVariants as message
use Rattle.flow_codec.specs.Printed.{message_code, message_text}
use Rattle.flow_disk.specs.declared.error.DiskError.{DiskError}
use Rattle.flow_disk.specs.declared.error.DiskError.TheVariants as disk
use Rattle.flow_refusals.specs.Printed.{damage_text}
use Rattle.flow_refusals.specs.Table.{code_text}
use Rattle.flow_refusals.specs.declared.code.RefusalCode.{RefusalCode}
use Rattle.flow_refusals.specs.declared.code.RefusalCode.TheVariants as code
use Rattle.flow_archive.specs.declared.refusal.ArchiveError.{ArchiveError}
use Rattle.flow_archive.specs.declared.refusal.ArchiveError.TheVariants as refusal

abbrev pub archive_code : ArchiveError → RefusalCode
archive_code (refusal.Message fault) = message_code fault
archive_code refusal.OutOfMemory = code.OutOfMemory
archive_code (refusal.Damaged file at) = code.Damaged
archive_code refusal.NumbersSpent = code.NumbersSpent
archive_code refusal.NotEmpty = code.NotEmpty
archive_code refusal.Fault = code.Fault
archive_code refusal.SourceFault = code.Fault
archive_code refusal.NoRoom = code.NoRoom
archive_code refusal.ManifestFull = code.ManifestFull
archive_code refusal.NothingToSeal = code.NothingToSeal
archive_code refusal.RollBusy = code.RollBusy
archive_code refusal.NoRoll = code.NoRoll
archive_code refusal.RollCount = code.RollCount
archive_code refusal.RollNotDone = code.RollNotDone
archive_code refusal.Pinned = code.Pinned
archive_code refusal.NothingToRetire = code.NothingToRetire
archive_code refusal.Closed = code.Closed

abbrev pub archive_text : ArchiveError → List ℕ
archive_text (refusal.Message fault) = message_text fault
archive_text (refusal.Damaged file at) = damage_text file at
archive_text e = code_text (archive_code e)

-- the fault of a message, as a refusal
abbrev pub refusal_of : MessageError → ArchiveError
refusal_of message.OutOfMemory = refusal.OutOfMemory
refusal_of fault = refusal.Message fault

-- the fault of a disk
abbrev pub of_disk : DiskError → ArchiveError
of_disk disk.Fault = refusal.Fault
of_disk disk.OutOfMemory = refusal.OutOfMemory
