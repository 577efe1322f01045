use Rattle.std.proofs.Common.{◌≡◌, ◌≤◌, length, take, vec_len}
use Rattle.std.specs.Prelude.{vec_capacity}
use Rattle.flow_archive.specs.declared.refusal.ArchiveError.TheVariants as ArchiveError
use Rattle.flow_archive.specs.Runs.{AreCaused, IsRun}
use Rattle.flow_archive.proofs.event.run.Given as goal

abbrev pub invariant-events : goal.invariant-events
invariant-events g l = record {
  run : IsRun g.D.Disk l.fn.archive (take l.event-index l.events)
      l.answers.items l.archive;
  cause : AreCaused ArchiveError.Fault (g.D.Disk.faults l.fn.archive.disk) (g.D.Disk.faults l.archive.disk)
      l.answers.items;
  unread : AreCaused ArchiveError.SourceFault l.fn.faults l.faults l.answers.items;
  room : length l.events ≤ vec_capacity l.answers;
  count : vec_len l.answers ≡ l.event-index;
}
