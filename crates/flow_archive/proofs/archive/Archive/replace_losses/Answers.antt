use Rattle.flow_archive.proofs.archive.Archive.replace_losses.Goals as goal

pub invariant_of-self : goal.invariant_of-self
invariant_of-self g c = rw c.replace_losses.ensures c.self.invariant
