use Rattle.std.proofs.Common.{subst, sym, IsTrue}
use Rattle.flow_pending.proofs.Going.{doubtful_after, repaired_changeable, synced_changeable, then_time}
use Rattle.flow_pending.proofs.pending.Pending.settle.Goals as goal

pub returns-in_err-sync-clause-time : goal.returns-in_err-sync-clause-time
returns-in_err-sync-clause-time g c honest =
    let later = subst IsTrue (sym c.mend-mended.ensures.honest) honest in
    then_time g.D.Directory.files g.D.Directory.moment g.D.Directory.left_since c.args.dir.now c.mend-mended.new.dir
    c.sync.new.self c.args.self.now.file (c.mend-mended.ensures.repairs honest) (c.sync.ensures.others later)
    (c.sync.ensures.time later)

pub returns-in_err-sync-clause-tracked : goal.returns-in_err-sync-clause-tracked
returns-in_err-sync-clause-tracked g c honest =
    let later = subst IsTrue (sym c.mend-mended.ensures.honest) honest in
    let file = c.args.self.now.file in
    doubtful_after (g.D.Directory.files c.mend-mended.new.dir file) (g.D.Directory.files c.sync.new.self file)
    (c.sync.ensures.synced later).parts c.args.self.now (c.mend-mended.ensures.remembered honest)

pub returns-in_err-sync-clause-changeable : goal.returns-in_err-sync-clause-changeable
returns-in_err-sync-clause-changeable g c honest =
    let later = subst IsTrue (sym c.mend-mended.ensures.honest) honest in
    synced_changeable g.D.Directory.files g.D.Directory.moment g.D.Directory.left_since c.mend-mended.new.dir
    c.sync.new.self c.args.self.now.file c.sync.result (c.sync.ensures.synced later)
    (repaired_changeable g.D.Directory.files g.D.Directory.moment g.D.Directory.left_since c.args.dir.now
    c.mend-mended.new.dir c.args.self.now.file (c.mend-mended.ensures.repairs honest) (c.requires.changeable honest))

pub returns-clause-time : goal.returns-clause-time
returns-clause-time g c honest =
    let later = subst IsTrue (sym c.mend-mended.ensures.honest) honest in
    then_time g.D.Directory.files g.D.Directory.moment g.D.Directory.left_since c.args.dir.now c.mend-mended.new.dir
    c.sync.new.self c.args.self.now.file (c.mend-mended.ensures.repairs honest) (c.sync.ensures.others later)
    (c.sync.ensures.time later)
