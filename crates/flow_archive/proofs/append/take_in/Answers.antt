use Rattle.std.proofs.Common.{◌≡◌, ◌⊎◌}
use Rattle.flow_codec.specs.declared.error.MessageError.{MessageError}
use Rattle.flow_gate.specs.Steps.{slices}
use Rattle.flow_segment.proofs.Carrying.{err_of}
use Rattle.flow_segment.specs.Batch.{IsFirstFault}
use Rattle.flow_archive.specs.declared.refusal.ArchiveError.TheVariants.{Message, OutOfMemory}
use Rattle.flow_archive.proofs.Answering.{refused_as}
use Rattle.flow_archive.proofs.append.take_in.Goals as goal

pub returns-in_err-take_all-clause-refused : goal.returns-in_err-take_all-clause-refused
returns-in_err-take_all-clause-refused c =
    let ms = slices c.args.messages.now in
    let before = c.args.carry.now.templates in
    err_of c.from_residual.result _
    (λ r. (r ≡ OutOfMemory) ⊎ ((x : MessageError) × IsFirstFault ms before x × (r ≡ Message x)))
    c.from_residual.ensures.1
    (refused_as ms before c.in_err-take_all.field-0.0 c.in_err-take_all.ensures.refused)
