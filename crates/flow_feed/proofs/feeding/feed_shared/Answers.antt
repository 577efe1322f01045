use Rattle.flow_feed.proofs.Sharing.{fed_steps}
use Rattle.flow_feed.proofs.feeding.feed_shared.Goals as goal

pub returns-clause-steps : goal.returns-clause-steps
returns-clause-steps g c whole =
    fed_steps g.D.Disk g.J.Naming.opening c.args.first c.args.appender.now c.feed.new.appender _ c.feed.result
    c.feed.ensures.fed whole
