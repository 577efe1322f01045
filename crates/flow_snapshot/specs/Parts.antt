-- A file with kept messages, as it is there.
use Rattle.std.specs.Prelude.{Bool, true}
use Rattle.flow_disk.specs.declared.sealed.SealedFile.{Ghosts}
use Rattle.flow_snapshot.specs.declared.by_file.KeptPart.{KeptPart}
use Rattle.flow_snapshot.specs.declared.by_file.KeptPart.TheVariants.{Sealed, Active}
use Rattle.flow_snapshot.specs.Files.{is_honest, segment_of}
use Rattle.flow_snapshot.specs.Found.{kept_file, KeptFile}

-- its prefix and its messages
abbrev pub file_of : {F X : Type 0} {files : Ghosts F X} → KeptPart F X files → KeptFile
file_of (Sealed part) = kept_file (segment_of part.now)
file_of (Active prefix messages) = record { prefix = prefix.now; messages = messages.now }

-- whether it is on an honest disk, which reads as it is; what is in memory is as it was added
abbrev pub is_honest_part : {F X : Type 0} {files : Ghosts F X} → KeptPart F X files → Bool
is_honest_part (Sealed part) = is_honest part.now
is_honest_part (Active prefix messages) = true
