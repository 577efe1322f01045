use Rattle.std.proofs.Common.{inl, inr, Bool, Option, arith, take, subst}
use Rattle.flow_archive.specs.declared.refusal.ArchiveError.{ArchiveError}
use Rattle.flow_feed.specs.Feed.{batch_of, AreRead}
use Rattle.flow_feed.specs.Given.{AreGivenInTurn, HasTaken}
use Rattle.flow_feed.specs.Whole.{reached}
use Rattle.flow_feed.proofs.Batches.{ends_early, ends_last, ends_refused, fed_nothing, fed_passed, feeds_on, started}
use Rattle.flow_feed.proofs.Wholes.{ends_asked, none_held, whole_opened}
use Rattle.flow_feed.proofs.until.feed_until.Goals as goal

pub returns-in_default : goal.returns-in_default
returns-in_default g c =
    inl (fed_nothing g.A.Appender.appends c.args.first c.args.appender.now (g.R.Read.remaining c.args.input.now))

pub returns-in-Some : goal.returns-in-Some
returns-in-Some g c =
    let known = g.R.Read.remaining in
    inl (fed_passed g.A.Appender.appends c.args.first c.args.appender.now (known c.args.input.now)
    (reached c.in-Ok.reader (known c.args.input.now)) (reached c.pass_whole.new.reader (known c.pass_whole.new.input))
    c.in-Some.ended (whole_opened c.in-Ok.reader (known c.args.input.now) c.in-Ok.ensures) c.in-Some.ensures)

pub batches-init : goal.batches-init
batches-init g c =
    let known = g.R.Read.remaining in
    started g.A.Appender.appends c.args.first c.args.appender.now (known c.args.input.now)
    (reached c.in-Ok.reader (known c.args.input.now)) (reached c.pass_whole.new.reader (known c.pass_whole.new.input))
    (whole_opened c.in-Ok.reader (known c.args.input.now) c.in-Ok.ensures) c.in_default-pass_whole.ensures

pub returns-then-is_asked : goal.returns-then-is_asked
returns-then-is_asked g c =
    let known = g.R.Read.remaining in
    let mid = reached c.batches.reader (known c.batches.input) in
    rw c.count-before.ensures.value
    (inr (
      c.is_asked.ensures c.if-is_asked.true,
      ends_asked g.A.Appender.appends c.args.first c.args.appender.now c.batches.appender (known c.args.input.now) mid
          c.batches.reader.count (known c.batches.input) c.batches.invariant
          (none_held c.batches.reader (known c.batches.input) (c.holds_none.ensures.none c.if-holds_none.true)),
    ))

pub returns-in_default-give : goal.returns-in_default-give
returns-in_default-give g c =
    let known = g.R.Read.remaining in
    rw c.count-before.ensures.value
    (inl (ends_early g.A.Appender.appends c.args.first c.args.appender.now c.batches.appender c.give.new.appender
    (known c.args.input.now) (reached c.batches.reader (known c.batches.input))
    (reached c.read_whole-batch.new.reader (known c.read_whole-batch.new.input)) c.batches.reader.count
    c.batches.invariant c.in_default-give.ensures.refused))

pub returns-in-Some-stop : goal.returns-in-Some-stop
returns-in-Some-stop g c =
    let known = g.R.Read.remaining in
    let appends = g.A.Appender.appends in
    let mid = c.batches.appender in
    let new = c.give.new.appender in
    let batch = c.read_whole-batch.result in
    let n = c.in-Ok-give.taken.count in
    let told = subst (λ (o : Option ArchiveError). HasTaken appends (AreGivenInTurn (batch_of batch.messages)) mid new
    (take n batch.messages) o) c.in-Some-stop.is c.in-Ok-give.ensures.taken in
    let fewer = rw c.in-Some-stop.is at c.in-Ok-give.ensures.fewer in
    rw c.count-before.ensures.value
    (inl (ends_refused appends c.args.first c.args.appender.now mid new (known c.args.input.now)
    (reached c.batches.reader (known c.batches.input))
    (reached c.read_whole-batch.new.reader (known c.read_whole-batch.new.input)) c.batches.reader.count
    c.batches.invariant batch.messages n c.read_whole-batch.ensures.few
    batch.is_last batch.stop c.in-Some-stop.error c.read_whole-batch.ensures.read
    fewer told))

pub returns-then-batch : goal.returns-then-batch
returns-then-batch g c =
    let known = g.R.Read.remaining in
    let appends = g.A.Appender.appends in
    let mid = c.batches.appender in
    let new = c.give.new.appender in
    let batch = c.read_whole-batch.result in
    let items = batch.messages in
    let n = c.in-Ok-give.taken.count in
    let before = reached c.batches.reader (known c.batches.input) in
    let after = reached c.read_whole-batch.new.reader (known c.read_whole-batch.new.input) in
    let told = subst (λ (o : Option ArchiveError). HasTaken appends (AreGivenInTurn (batch_of items)) mid new
    (take n items) o) c.in_default-stop.is c.in-Ok-give.ensures.taken in
    rw c.count-before.ensures.value
    (inl (ends_last appends c.args.first c.args.appender.now mid new (known c.args.input.now) before after
    c.batches.reader.count c.batches.invariant items n
    c.read_whole-batch.ensures.few
    (rw c.in_default-stop.is at c.in-Ok-give.ensures.all) told batch.stop
    (subst (λ (l : Bool). AreRead before items l batch.stop after) c.if-batch.true c.read_whole-batch.ensures.read)))

pub batches-smaller : goal.batches-smaller
batches-smaller g c =
    let known = g.R.Read.remaining in
    let batch = c.read_whole-batch.result in
    let more = c.read_whole-batch.ensures.read.more c.if-batch.false in
    let some = c.read_whole-batch.ensures.some c.if-batch.false in
    let room = c.read_whole-batch.new.reader.counted in
    let count = more.3 in
    omega (arith, some, room, count)

pub batches-preserved : goal.batches-preserved
batches-preserved g c =
    let known = g.R.Read.remaining in
    let appends = g.A.Appender.appends in
    let mid = c.batches.appender in
    let new = c.give.new.appender in
    let batch = c.read_whole-batch.result in
    let items = batch.messages in
    let n = c.in-Ok-give.taken.count in
    let before = reached c.batches.reader (known c.batches.input) in
    let after = reached c.read_whole-batch.new.reader (known c.read_whole-batch.new.input) in
    let told = subst (λ (o : Option ArchiveError). HasTaken appends (AreGivenInTurn (batch_of items)) mid new
    (take n items) o) c.in_default-stop.is c.in-Ok-give.ensures.taken in
    feeds_on appends c.args.first c.args.appender.now mid new (known c.args.input.now) before after
    c.batches.reader.count c.batches.invariant items n
    c.read_whole-batch.ensures.few
    (rw c.in_default-stop.is at c.in-Ok-give.ensures.all) told batch.stop
    (subst (λ (l : Bool). AreRead before items l batch.stop after) c.if-batch.false c.read_whole-batch.ensures.read)
