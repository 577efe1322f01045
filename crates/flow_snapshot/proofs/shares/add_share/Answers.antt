use Rattle.flow_snapshot.proofs.Joining.{cause_of_share}
use Rattle.flow_snapshot.proofs.shares.add_share.Goals as goal

pub returns-clause-cause : goal.returns-clause-cause
returns-clause-cause g c =
    cause_of_share c.args.first c.args.sums.now c.add_answer.new.sums c.args.share.sums c.args.share.faults
    c.args.faults.now c.add.new.self c.add_answer.result c.requires c.add.ensures.none c.add.ensures.risen
    c.add.ensures.later c.add_answer.ensures.given
