use Rattle.flow_pending.proofs.pending.Pending.copy_over.Goals as goal
