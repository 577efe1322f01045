use Rattle.std.proofs.Common.{◌∙◌, sym}
use Rattle.flow_shared.specs.UnderLock.{LockState}
use Rattle.flow_shared.proofs.Known.{sound_of}
use Rattle.flow_shared.proofs.shared.SharedArchive.rolled_count.Goals as goal

pub returns : goal.returns
returns g c =
    let now : LockState g.row.D.Denot = c.deref-2.result.now in record {
      calls = (
        now,
        sound_of g.D.Disk g.J.Naming.opening c.deref.result.now now (c.deref.ensures ∙ sym c.deref-2.ensures)
            c.facts.ensures.under_lock,
        c.rolled_count.ensures,
      );
    }
