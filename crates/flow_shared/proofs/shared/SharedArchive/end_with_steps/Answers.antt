use Rattle.std.proofs.Common.{ap}
use Rattle.flow_shared.specs.UnderLock.{LockState}
use Rattle.flow_shared.proofs.shared.SharedArchive.end_with_steps.Goals as goal

pub returns : goal.returns
returns g c =
    let last : LockState g.row.D.Denot = c.into_inner-locked.result in record {
      calls = (
        last,
        c.facts.ensures.under_lock,
        (
          ap (λ (h : LockState g.row.D.Denot). h.core) c.locked.view_is,
          ap (λ (h : LockState g.row.D.Denot). h.made) c.locked.view_is,
        ),
      );
    }
