use Rattle.flow_feed.proofs.Sharing.{fed_until_steps}
use Rattle.flow_feed.proofs.until.feed_shared_until.Goals as goal

pub returns-clause-steps : goal.returns-clause-steps
returns-clause-steps g c whole =
    fed_until_steps g.D.Disk g.J.Naming.opening (g.F.FeedWatch.asked c.feed_until.new.watch) c.args.first
    c.args.appender.now c.feed_until.new.appender (g.R.Read.remaining c.args.input.now)
    (g.R.Read.remaining c.feed_until.new.input) c.feed_until.result c.feed_until.ensures whole
