use Rattle.left_right.specs.Handles.{published}
use Rattle.flow_shared.proofs.Known.{under_lock_of}
use Rattle.flow_shared.proofs.locked.Locked.facts.Goals as goal

pub returns : goal.returns
returns g c =
    let inside = c.self.inside in record {
      under_lock = under_lock_of g.D.Disk g.J.Naming.opening g.J.Naming.honest inside.archive
          (published inside.writer) inside.told inside.backlog c.args.self.now c.self.view_is c.self.invariant.2
          c.files.ensures.files c.files.ensures.all c.is_closed-closed.ensures.stands;
    }
