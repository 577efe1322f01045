use Rattle.std.proofs.Common.{length}
use Rattle.flow_directory.specs.Calls.{IsPut}
use Rattle.flow_pending.proofs.Tracking.{still_changeable, still_tracked, writes_by}
use Rattle.flow_pending.proofs.pending.Pending.write.Goals as goal

pub returns-clause-changeable : goal.returns-clause-changeable
returns-clause-changeable g c h = still_changeable _ _ _ (c.write.ensures.written h).parts (c.write.ensures.written h).status
    (λ is. is) (c.requires.changeable h)

pub returns-clause-tracked : goal.returns-clause-tracked
returns-clause-tracked g c h = still_tracked _ _ _ (c.write.ensures.written h).parts c.args.self.now _
    c.add.ensures.before (λ place is. c.add.ensures.now place is)
    (λ other is. other (c.changed-self.ensures.doubtful.1 is)) (c.requires.tracked h)

pub returns-clause-held : goal.returns-clause-held
returns-clause-held g c h = writes_by (g.D.Directory.files c.args.dir.now) (g.D.Directory.files c.write.new.self)
    c.args.self.now.file c.args.at c.args.octets.now c.write.result (c.write.ensures.written h) (c.write.ensures.others h)
