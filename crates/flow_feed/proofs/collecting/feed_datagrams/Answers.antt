use Rattle.flow_feed.specs.Datagrams.{reading}
use Rattle.flow_feed.specs.Shared.{IsGivenShared}
use Rattle.flow_feed.proofs.EachGiven.{read_from}
use Rattle.flow_feed.proofs.Sharing.{collected_steps}
use Rattle.flow_feed.proofs.collecting.feed_datagrams.Goals as goal

pub returns-clause-collected : goal.returns-clause-collected
returns-clause-collected g c =
    read_from (λ r. reading (g.R.Read.remaining r.input.now) r.reads.empty r.reads.most_empty)
    (IsGivenShared g.D.Disk g.J.Naming.opening) c.args.is_socket c.args.appender.now c.collect.new.appender
    c.new-receiver.result c.collect.new.source (g.R.Read.remaining c.args.input.now) c.collect.result
    c.new-receiver.ensures c.collect.ensures

pub returns-clause-steps : goal.returns-clause-steps
returns-clause-steps g c whole =
    collected_steps g.D.Disk g.J.Naming.opening c.args.is_socket c.args.appender.now c.collect.new.appender
    (g.R.Read.remaining c.args.input.now) c.collect.result
    (read_from (λ r. reading (g.R.Read.remaining r.input.now) r.reads.empty r.reads.most_empty)
    (IsGivenShared g.D.Disk g.J.Naming.opening) c.args.is_socket c.args.appender.now c.collect.new.appender
    c.new-receiver.result c.collect.new.source (g.R.Read.remaining c.args.input.now) c.collect.result
    c.new-receiver.ensures c.collect.ensures) whole
