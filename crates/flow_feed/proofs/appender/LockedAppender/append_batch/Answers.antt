use Rattle.flow_gate.specs.Steps.{slices}
use Rattle.flow_archive.specs.declared.refusal.ArchiveError.TheVariants.{Fault}
use Rattle.flow_feed.specs.Given.{IsGivenLocked}
use Rattle.flow_feed.proofs.Taking.{refused_as, refused_cause}
use Rattle.flow_feed.proofs.appender.LockedAppender.append_batch.Goals as goal

pub returns-in_err-receipt : goal.returns-in_err-receipt
returns-in_err-receipt g c =
    let D = g.D.Disk in
    let given = c.in_err-receipt.ensures in
    refused_as c.from_residual.result c.in_err-receipt.field-0.0
    (λ r. IsGivenLocked D c.args.self.now c.append_batch.new.self
    (slices c.args.messages.now) r) c.from_residual.ensures.1 (record {
      steps = given.calls.0;
      appends = given.calls.1;
      steps_are = given.calls.2;
      room = given.room;
      cause = refused_cause Fault c.in_err-receipt.field-0.0 (D.faults c.args.self.now.core.disk)
          (D.faults c.append_batch.new.self.core.disk) given.cause;
    })
