use Rattle.flow_snapshot.proofs.Joining.{cause_added}
use Rattle.flow_snapshot.proofs.shares.answer_of.Goals as goal

pub returns-clause-cause : goal.returns-clause-cause
returns-clause-cause g c =
    cause_added c.args.worker.faults c.args.faults.now c.add.new.self c.args.worker.sums c.requires c.add.ensures.none
    c.add.ensures.risen c.add.ensures.later
