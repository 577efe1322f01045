use Rattle.std.proofs.Common.{Bool, Option, take, subst}
use Rattle.flow_codec.specs.Stream.{progress}
use Rattle.flow_archive.specs.declared.refusal.ArchiveError.{ArchiveError}
use Rattle.flow_feed.specs.Feed.{batch_of, AreRead}
use Rattle.flow_feed.specs.Given.{AreGivenInTurn, HasTaken}
use Rattle.flow_feed.proofs.Batches.{ends_early, ends_last, ends_refused, fed_nothing, fed_passed, feeds_on, opened}
use Rattle.flow_feed.proofs.Batches.{started}
use Rattle.flow_feed.proofs.feeding.feed.Goals as goal

pub returns-in_default-clause-fed : goal.returns-in_default-clause-fed
returns-in_default-clause-fed g c =
    fed_nothing g.A.Appender.appends c.args.first c.args.appender.now (g.R.Read.remaining c.args.input.now)

pub returns-in_default-give-clause-fed : goal.returns-in_default-give-clause-fed
returns-in_default-give-clause-fed g c =
    let known = g.R.Read.remaining in
    rw c.count-before.ensures.value
    (ends_early g.A.Appender.appends c.args.first c.args.appender.now c.batches.appender c.give.new.appender
    (known c.args.input.now) (progress c.batches.reader (known c.batches.input))
    (progress c.read_batch-batch.new.reader (known c.read_batch-batch.new.input)) c.batches.reader.count
    c.batches.invariant c.in_default-give.ensures.refused)

pub returns-in-Some-clause-fed : goal.returns-in-Some-clause-fed
returns-in-Some-clause-fed g c =
    let known = g.R.Read.remaining in
    fed_passed g.A.Appender.appends c.args.first c.args.appender.now (known c.args.input.now)
    (progress c.in-Ok.reader (known c.args.input.now)) (progress c.pass.new.reader (known c.pass.new.input)) c.in-Some.ended
    (opened c.in-Ok.reader (known c.args.input.now) c.in-Ok.ensures) c.in-Some.ensures.passed

pub batches-init : goal.batches-init
batches-init g c =
    let known = g.R.Read.remaining in
    started g.A.Appender.appends c.args.first c.args.appender.now (known c.args.input.now)
    (progress c.in-Ok.reader (known c.args.input.now)) (progress c.pass.new.reader (known c.pass.new.input))
    (opened c.in-Ok.reader (known c.args.input.now) c.in-Ok.ensures) c.in_default-pass.ensures.passed

pub returns-in-Some-stop-clause-fed : goal.returns-in-Some-stop-clause-fed
returns-in-Some-stop-clause-fed g c =
    let known = g.R.Read.remaining in
    let appends = g.A.Appender.appends in
    let mid = c.batches.appender in
    let new = c.give.new.appender in
    let batch = c.read_batch-batch.result in
    let n = c.in-Ok-give.taken.count in
    let told = subst (λ (o : Option ArchiveError). HasTaken appends (AreGivenInTurn (batch_of batch.messages)) mid new
    (take n batch.messages) o) c.in-Some-stop.is c.in-Ok-give.ensures.taken in
    let fewer = rw c.in-Some-stop.is at c.in-Ok-give.ensures.fewer in
    rw c.count-before.ensures.value
    (ends_refused appends c.args.first c.args.appender.now mid new (known c.args.input.now)
    (progress c.batches.reader (known c.batches.input))
    (progress c.read_batch-batch.new.reader (known c.read_batch-batch.new.input)) c.batches.reader.count
    c.batches.invariant batch.messages n c.read_batch-batch.ensures.few
    batch.is_last batch.stop c.in-Some-stop.error
    c.read_batch-batch.ensures.read
    fewer told)

pub returns-then-batch-clause-fed : goal.returns-then-batch-clause-fed
returns-then-batch-clause-fed g c =
    let known = g.R.Read.remaining in
    let appends = g.A.Appender.appends in
    let mid = c.batches.appender in
    let new = c.give.new.appender in
    let batch = c.read_batch-batch.result in
    let items = batch.messages in
    let n = c.in-Ok-give.taken.count in
    let before = progress c.batches.reader (known c.batches.input) in
    let after = progress c.read_batch-batch.new.reader (known c.read_batch-batch.new.input) in
    let told = subst (λ (o : Option ArchiveError). HasTaken appends (AreGivenInTurn (batch_of items)) mid new
    (take n items) o) c.in_default-stop.is c.in-Ok-give.ensures.taken in
    rw c.count-before.ensures.value
    (ends_last appends c.args.first c.args.appender.now mid new (known c.args.input.now) before after c.batches.reader.count
    c.batches.invariant items n c.read_batch-batch.ensures.few
    (rw c.in_default-stop.is at c.in-Ok-give.ensures.all) told batch.stop
    (subst (λ (l : Bool). AreRead before items l batch.stop after) c.if-batch.true c.read_batch-batch.ensures.read))

pub batches-preserved : goal.batches-preserved
batches-preserved g c =
    let known = g.R.Read.remaining in
    let appends = g.A.Appender.appends in
    let mid = c.batches.appender in
    let new = c.give.new.appender in
    let batch = c.read_batch-batch.result in
    let items = batch.messages in
    let n = c.in-Ok-give.taken.count in
    let before = progress c.batches.reader (known c.batches.input) in
    let after = progress c.read_batch-batch.new.reader (known c.read_batch-batch.new.input) in
    let told = subst (λ (o : Option ArchiveError). HasTaken appends (AreGivenInTurn (batch_of items)) mid new
    (take n items) o) c.in_default-stop.is c.in-Ok-give.ensures.taken in
    feeds_on appends c.args.first c.args.appender.now mid new (known c.args.input.now) before after c.batches.reader.count
    c.batches.invariant items n c.read_batch-batch.ensures.few
    (rw c.in_default-stop.is at c.in-Ok-give.ensures.all) told batch.stop
    (subst (λ (l : Bool). AreRead before items l batch.stop after) c.if-batch.false c.read_batch-batch.ensures.read)
