use Rattle.flow_pending.proofs.Tracking.{still_changeable, still_tracked, cuts_by}
use Rattle.flow_pending.proofs.pending.Pending.cut.Goals as goal

pub returns-clause-changeable : goal.returns-clause-changeable
returns-clause-changeable g c h = still_changeable _ _ _ (c.truncate.ensures.cut h).parts (c.truncate.ensures.cut h).status
    (λ is. is) (c.requires.changeable h)

pub returns-clause-tracked : goal.returns-clause-tracked
returns-clause-tracked g c h = still_tracked _ _ _ (c.truncate.ensures.cut h).parts c.args.self.now _
    (λ place is. is) (λ place is. absurd is)
    (λ other is. other (c.changed-self.ensures.doubtful.1 is)) (c.requires.tracked h)

pub returns-clause-held : goal.returns-clause-held
returns-clause-held g c h = cuts_by (g.D.Directory.files c.args.dir.now) (g.D.Directory.files c.truncate.new.self)
    c.args.self.now.file c.args.count c.truncate.result (c.truncate.ensures.cut h) (c.truncate.ensures.others h)
