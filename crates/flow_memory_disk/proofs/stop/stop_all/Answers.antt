use Rattle.std.proofs.Common.{arith, sym, subst}
use Rattle.flow_memory_disk.specs.declared.stored.StoredFile.{StoredFile}
use Rattle.flow_memory_disk.specs.Stopping.{CanStop}
use Rattle.flow_memory_disk.proofs.stop.stop_all.Goals as goal

pub stop-requires : goal.stop-requires
stop-requires c =
    let i = c.loop-stored.stored-index in
    let item = c.stored-item.result in
    subst (λ (f : StoredFile). CanStop f c.args.choice) (sym (c.loop-stored.invariant.rest i item (omega arith)))
    (c.requires i item (omega arith))
