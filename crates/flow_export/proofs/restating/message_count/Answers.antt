use Rattle.std.proofs.Common.{sym}
use Rattle.flow_snapshot.proofs.PartMessages.{cut_count}
use Rattle.flow_export.proofs.restating.message_count.Goals as goal

pub returns-in-Sealed : goal.returns-in-Sealed
returns-in-Sealed g c = rw c.in-Sealed.is (sym (cut_count c.in-Sealed.part.now.messages _))
