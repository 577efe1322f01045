use Rattle.std.proofs.Common.{ap₂, inl, inr, ℕ, Some, None, refl, sym, arith, subst}
use Rattle.std.proofs.KnownBytes.{Keeps-refl}
use Rattle.flow_codec.specs.declared.stream.StreamError.TheVariants as stream
use Rattle.flow_feed.specs.declared.batch.FeedStop.TheVariants.{File, Unreceived}
use Rattle.flow_feed.specs.Datagrams.{reading, unread, IsRead, IsUnread, Reading}
use Rattle.flow_feed.specs.Until.{IsOverOr}
use Rattle.flow_feed.proofs.EachGiven.{collects, ends_at_one, ends_here, none_collected, IsCollecting}
use Rattle.flow_feed.proofs.collecting_until.collect_until.Goals as goal

pub loop-init : goal.loop-init
loop-init g c =
    let appends = g.A.Appender.appends in
    let known = g.R.Read.remaining c.args.input.now in
    let start = unread c.args.is_socket known in (
      subst (λ (r : Reading). IsCollecting appends IsRead c.args.appender.now c.args.appender.now start r 0
          c.none-refused.result.counts 0)
          (ap₂ (λ (n m : ℕ). reading known n m) (sym c.new-reads.ensures.none) (sym c.new-reads.ensures.most))
          (none_collected appends IsRead c.args.appender.now start c.none-refused.result.counts c.none-refused.ensures),
      c.requires,
    )

pub returns-then-is_asked : goal.returns-then-is_asked
returns-then-is_asked g c =
    let known = g.R.Read.remaining in
    let at = reading (known c.loop.input) c.loop.reads.empty c.loop.reads.most_empty in
    let asked = g.F.FeedWatch.asked c.is_asked.new.self in
    rw c.ended.ensures
    (record {
      after = at;
      left_is = refl;
      collected_are = ends_here g.A.Appender.appends IsRead c.args.appender.now c.loop.appender
          (unread c.args.is_socket (known c.args.input.now)) at at c.loop.tally c.loop.counter c.loop.invariant.0
          (IsOverOr asked) IsUnread None refl
          (inr (c.is_asked.ensures c.if-is_asked.true, Keeps-refl (known c.loop.input)));
    })

pub returns-in-Err-take_datagram : goal.returns-in-Err-take_datagram
returns-in-Err-take_datagram g c =
    let known = g.R.Read.remaining in
    let at = reading (known c.loop.input) c.loop.reads.empty c.loop.reads.most_empty in
    let after = reading (known c.receive.new.input) c.receive.new.self.empty c.receive.new.self.most_empty in
    let asked = g.F.FeedWatch.asked c.note_read.new.self in
    rw c.ended-in-Err-take_datagram.ensures
    (record {
      after = after;
      left_is = refl;
      collected_are = ends_at_one g.A.Appender.appends IsRead c.args.appender.now c.loop.appender
          c.take_datagram.new.appender (unread c.args.is_socket (known c.args.input.now)) at after c.loop.tally
          c.loop.counter c.loop.invariant.0 _ (rw c.in-Ok-Some.field-0-is at c.in-Ok-Some.ensures.received)
          (IsOverOr asked) IsUnread c.in-Err-take_datagram.error c.in-Err-take_datagram.ensures;
    })

pub returns-in-Ok-None : goal.returns-in-Ok-None
returns-in-Ok-None g c =
    let known = g.R.Read.remaining in
    let at = reading (known c.loop.input) c.loop.reads.empty c.loop.reads.most_empty in
    let after = reading (known c.receive.new.input) c.receive.new.self.empty c.receive.new.self.most_empty in
    let asked = g.F.FeedWatch.asked c.is_asked.new.self in
    rw c.ended-in-Ok-None.ensures
    (record {
      after = after;
      left_is = refl;
      collected_are = ends_here g.A.Appender.appends IsRead c.args.appender.now c.loop.appender
          (unread c.args.is_socket (known c.args.input.now)) at after c.loop.tally c.loop.counter c.loop.invariant.0
          (IsOverOr asked) IsUnread None refl
          (inl (rw c.in-Ok-None.field-0-is at c.in-Ok-None.ensures.received));
    })

pub returns-in-Err : goal.returns-in-Err
returns-in-Err g c =
    let known = g.R.Read.remaining in
    let at = reading (known c.loop.input) c.loop.reads.empty c.loop.reads.most_empty in
    let after = reading (known c.receive.new.input) c.receive.new.self.empty c.receive.new.self.most_empty in
    let asked = g.F.FeedWatch.asked c.is_asked.new.self in
    rw c.ended-in-Err.ensures
    (record {
      after = after;
      left_is = refl;
      collected_are = ends_here g.A.Appender.appends IsRead c.args.appender.now c.loop.appender
          (unread c.args.is_socket (known c.args.input.now)) at after c.loop.tally c.loop.counter c.loop.invariant.0
          (IsOverOr asked) IsUnread (Some (Unreceived c.in-Err.failed)) refl c.in-Err.ensures.received;
    })

pub loop-preserved : goal.loop-preserved
loop-preserved g c =
    let known = g.R.Read.remaining in
    let at = reading (known c.loop.input) c.loop.reads.empty c.loop.reads.most_empty in
    let after = reading (known c.receive.new.input) c.receive.new.self.empty c.receive.new.self.most_empty in (
      collects g.A.Appender.appends IsRead c.args.appender.now c.loop.appender c.take_datagram.new.appender
          (unread c.args.is_socket (known c.args.input.now)) at after c.loop.tally c.loop.counter c.loop.invariant.0 _
          (rw c.in-Ok-Some.field-0-is at c.in-Ok-Some.ensures.received) c.in-Ok.fault c.note.new.self
          (let more = c.loop-test.true in omega (arith, more)) c.in-Ok.ensures c.note.ensures,
      omega (arith, c.receive.auto.buffer, c.loop.invariant.1),
    )

pub returns : goal.returns
returns g c =
    let known = g.R.Read.remaining in
    let at = reading (known c.loop.input) c.loop.reads.empty c.loop.reads.most_empty in
    let asked = g.F.FeedWatch.asked c.loop.watch in
    rw c.ended-2.ensures
    (record {
      after = at;
      left_is = refl;
      collected_are = ends_here g.A.Appender.appends IsRead c.args.appender.now c.loop.appender
          (unread c.args.is_socket (known c.args.input.now)) at at c.loop.tally c.loop.counter c.loop.invariant.0
          (IsOverOr asked) IsUnread (Some (File stream.NumbersSpent)) refl
          (let last = c.loop-test.false in omega (arith, last, c.loop.auto.counter-end), refl);
    })
