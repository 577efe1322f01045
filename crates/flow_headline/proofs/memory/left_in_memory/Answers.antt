use Rattle.flow_headline.proofs.Stopping.{left_by_choice}
use Rattle.flow_headline.proofs.memory.left_in_memory.Goals as goal

pub returns-clause-left : goal.returns-clause-left
returns-clause-left c =
    left_by_choice c.args.disk c.crash.result c.args.choice c.crash.ensures.story c.crash.ensures.image
    c.crash.ensures.thawed
