use Rattle.std.proofs.Common.{subst, sym, IsTrue}
use Rattle.flow_pending.proofs.Going.{elapses_then, fewer}
use Rattle.flow_pending.proofs.pending.Pending.sync.Goals as goal

pub returns-in-Err-clause-time : goal.returns-in-Err-clause-time
returns-in-Err-clause-time g c honest =
    let later = subst IsTrue (sym c.settle.ensures.honest) honest in
    elapses_then _ _ _ _ _ _ _ _ (c.settle.ensures.time honest) (c.settle-in-Err.ensures.time later)
    (fewer g.D.Directory.files g.D.Directory.moment g.D.Directory.left_since c.args.dir.now c.settle.new.dir
    c.args.self.now.file (c.settle.ensures.settles honest).within (c.settle.ensures.others honest))
