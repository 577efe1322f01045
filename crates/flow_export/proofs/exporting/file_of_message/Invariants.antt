use Rattle.std.proofs.Common.{◌≡◌, ◌+◌, length, take}
use Rattle.flow_snapshot.specs.Found.{kept_by_file}
use Rattle.flow_export.specs.Export.{messages_of}
use Rattle.flow_export.proofs.exporting.file_of_message.Given as goal

-- the files so far are passed over
abbrev pub invariant-loop-at : goal.invariant-loop-at
invariant-loop-at g l = record {
  place : l.fn.skip ≡ length (messages_of (take l.at (kept_by_file l.fn.snapshot.shelf))) + l.left;
}
