use Rattle.std.proofs.Common.{Some, None, refl, arith}
use Rattle.flow_codec.specs.declared.stream.StreamError.TheVariants as stream
use Rattle.flow_feed.specs.declared.batch.FeedStop.TheVariants.{File, Unreceived}
use Rattle.flow_feed.proofs.EachGiven.{collects, ends_at_one, ends_here, none_collected}
use Rattle.flow_feed.proofs.collecting.collect_into.Goals as goal

pub loop-init : goal.loop-init
loop-init g c = (
  none_collected g.A.Appender.appends g.S.Datagrams.gives c.args.appender.now c.args.source.now
      c.none-refused.result.counts c.none-refused.ensures,
  c.requires,
)

pub returns-in-Ok-None : goal.returns-in-Ok-None
returns-in-Ok-None g c =
    rw c.ended-in-Ok-None.ensures
    (ends_here g.A.Appender.appends g.S.Datagrams.gives c.args.appender.now c.loop.appender c.args.source.now
    c.loop.source c.receive.new.self c.loop.tally c.loop.counter c.loop.invariant.0 g.S.Datagrams.ends g.S.Datagrams.fails None refl
    (rw c.in-Ok-None.field-0-is at c.in-Ok-None.ensures.received))

pub returns-in-Err : goal.returns-in-Err
returns-in-Err g c =
    rw c.ended-in-Err.ensures
    (ends_here g.A.Appender.appends g.S.Datagrams.gives c.args.appender.now c.loop.appender c.args.source.now
    c.loop.source c.receive.new.self c.loop.tally c.loop.counter c.loop.invariant.0 g.S.Datagrams.ends g.S.Datagrams.fails
    (Some (Unreceived c.in-Err.failed)) refl c.in-Err.ensures.received)

pub returns-in-Err-take_datagram : goal.returns-in-Err-take_datagram
returns-in-Err-take_datagram g c =
    rw c.ended.ensures
    (ends_at_one g.A.Appender.appends g.S.Datagrams.gives c.args.appender.now c.loop.appender
    c.take_datagram.new.appender c.args.source.now c.loop.source c.receive.new.self c.loop.tally c.loop.counter
    c.loop.invariant.0 _ (rw c.in-Ok-Some.field-0-is at c.in-Ok-Some.ensures.received) g.S.Datagrams.ends g.S.Datagrams.fails
    c.in-Err-take_datagram.error c.in-Err-take_datagram.ensures)

pub loop-preserved : goal.loop-preserved
loop-preserved g c = (
  collects g.A.Appender.appends g.S.Datagrams.gives c.args.appender.now c.loop.appender c.take_datagram.new.appender
      c.args.source.now c.loop.source c.receive.new.self c.loop.tally c.loop.counter c.loop.invariant.0 _
      (rw c.in-Ok-Some.field-0-is at c.in-Ok-Some.ensures.received) c.in-Ok.fault c.note.new.self
      (let more = c.loop-test.true in omega (arith, more)) c.in-Ok.ensures c.note.ensures,
  omega (arith, c.receive.auto.buffer, c.loop.invariant.1),
)

pub returns : goal.returns
returns g c =
    rw c.ended-2.ensures
    (ends_here g.A.Appender.appends g.S.Datagrams.gives c.args.appender.now c.loop.appender c.args.source.now
    c.loop.source c.loop.source c.loop.tally c.loop.counter c.loop.invariant.0 g.S.Datagrams.ends g.S.Datagrams.fails
    (Some (File stream.NumbersSpent)) refl
    (let last = c.loop-test.false in omega (arith, last, c.loop.auto.counter-end), refl))
