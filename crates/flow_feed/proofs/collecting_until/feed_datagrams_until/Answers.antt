use Rattle.std.proofs.Common.{Some, refl}
use Rattle.flow_feed.specs.declared.batch.FeedStop.TheVariants.{OutOfMemory}
use Rattle.flow_feed.specs.declared.collecting.Tally.{Tally}
use Rattle.flow_feed.specs.Datagrams.{unread, IsRead, IsUnread}
use Rattle.flow_feed.specs.Shared.{IsGivenShared}
use Rattle.flow_feed.specs.Until.{IsOverOr}
use Rattle.flow_feed.proofs.EachGiven.{ends_here, none_collected}
use Rattle.flow_feed.proofs.Sharing.{until_steps}
use Rattle.flow_feed.proofs.collecting_until.feed_datagrams_until.Goals as goal

pub returns-in_default-clause-collected : goal.returns-in_default-clause-collected
returns-in_default-clause-collected g c =
    let tally : Tally = record { messages = 0; refused = c.none-refused.result } in
    let appends = IsGivenShared g.D.Disk g.J.Naming.opening in
    let start = unread c.args.is_socket (g.R.Read.remaining c.args.input.now) in
    let asked = g.F.FeedWatch.asked c.args.watch.now in
    rw c.ended.ensures
    (record {
      after = start;
      left_is = refl;
      collected_are = ends_here appends IsRead c.args.appender.now c.args.appender.now start start start tally 0
          (none_collected appends IsRead c.args.appender.now start c.none-refused.result.counts c.none-refused.ensures)
          (IsOverOr asked) IsUnread (Some OutOfMemory) refl (refl, refl);
    })

pub returns-in_default-clause-steps : goal.returns-in_default-clause-steps
returns-in_default-clause-steps g c whole =
    until_steps g.D.Disk g.J.Naming.opening (g.F.FeedWatch.asked c.args.watch.now) c.args.is_socket
    c.args.appender.now c.args.appender.now (g.R.Read.remaining c.args.input.now)
    (g.R.Read.remaining c.args.input.now) c.ended.result (returns-in_default-clause-collected g c) whole

pub returns-clause-steps : goal.returns-clause-steps
returns-clause-steps g c whole =
    until_steps g.D.Disk g.J.Naming.opening (g.F.FeedWatch.asked c.collect_until.new.watch) c.args.is_socket
    c.args.appender.now c.collect_until.new.appender (g.R.Read.remaining c.args.input.now)
    (g.R.Read.remaining c.collect_until.new.input) c.collect_until.result c.collect_until.ensures whole
