use Rattle.std.proofs.Common.{◌≡◌, drop}
use Rattle.flow_commands.specs.ArchiveFiles.{last_start}
use Rattle.flow_commands.proofs.archive_files.starts_of.Given as goal

-- the last start of what is left is that of all
abbrev pub invariant-loop-other : goal.invariant-loop-other
invariant-loop-other l = last_start l.last (drop l.other-index l.others) ≡ last_start l.first l.others
