use Rattle.std.proofs.Common.{◌≡◌, ◌⊎◌, subst}
use Rattle.flow_codec.specs.declared.error.MessageError.{MessageError}
use Rattle.flow_codec.specs.declared.error.MessageError.TheVariants as message
use Rattle.flow_gate.specs.Steps.{slices}
use Rattle.flow_segment.proofs.Carrying.{err_of}
use Rattle.flow_segment.specs.Carry.{Carry}
use Rattle.flow_segment.specs.Batch.{IsFirstFault}
use Rattle.flow_archive.specs.declared.refusal.ArchiveError.TheVariants.{Message, OutOfMemory}
use Rattle.flow_archive.proofs.Answering.{refused_as}
use Rattle.flow_archive.proofs.append.carried.Goals as goal

pub returns-in_err-take_all-clause-refused : goal.returns-in_err-take_all-clause-refused
returns-in_err-take_all-clause-refused c =
    let ms = slices c.args.messages.now in
    let before = c.args.carry.now.templates in
    let e = c.in_err-take_all.field-0.0 in
    err_of c.from_residual-in_err-take_all.result _
    (λ r. (r ≡ OutOfMemory) ⊎ ((x : MessageError) × IsFirstFault ms before x × (r ≡ Message x)))
    c.from_residual-in_err-take_all.ensures.1
    (refused_as ms before e
    (subst (λ (k : Carry). (e ≡ message.OutOfMemory) ⊎ IsFirstFault ms k.templates e) c.in_ok-new.ensures
    c.in_err-take_all.ensures.refused))
