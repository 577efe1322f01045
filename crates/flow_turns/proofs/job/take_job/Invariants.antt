use Rattle.std.proofs.Common.{◌≡◌, List, Result, take}
use Rattle.flow_archive.specs.declared.event.Answer.{Answer}
use Rattle.flow_archive.specs.declared.refusal.ArchiveError.{ArchiveError}
use Rattle.flow_archive.specs.declared.refusal.ArchiveError.TheVariants.{Fault, SourceFault}
use Rattle.flow_archive.specs.Runs.{IsRun}
use Rattle.flow_turns.specs.Turns.{job_told, IsCaused}
use Rattle.flow_turns.proofs.job.take_job.Given as goal

abbrev pub invariant-events : goal.invariant-events
invariant-events g l = record {
  run : (answers : List (Result Answer ArchiveError))
      × IsRun g.D.Disk l.fn.archive (take l.event-index l.events) answers
      l.archive × (l.told ≡ job_told l.fn.count answers);
  cause : IsCaused Fault (g.D.Disk.faults l.fn.archive.disk) (g.D.Disk.faults l.archive.disk) l.told;
  unread : IsCaused SourceFault l.fn.faults l.faults l.told;
}
