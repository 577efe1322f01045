use Rattle.flow_feed.specs.Whole.{reached}
use Rattle.flow_feed.proofs.Readings.{counted_one, read_all}
use Rattle.flow_feed.proofs.Wholes.{held_one, read_over, read_stopped}
use Rattle.flow_feed.proofs.until.read_whole.Goals as goal

pub returns-in-Ok-None-clause-read : goal.returns-in-Ok-None-clause-read
returns-in-Ok-None-clause-read g c =
    let known = g.R.Read.remaining in
    rw c.last_batch.ensures
    (read_over (reached c.args.reader.now (known c.args.input.now)) (reached c.loop.reader (known c.loop.input))
    (reached c.find.new.self (known c.find.new.input)) c.loop.messages c.loop.invariant.0
    (rw c.in-Ok-None.field-0-is at c.in-Ok-None.ensures.found))

pub returns-in-Err-clause-read : goal.returns-in-Err-clause-read
returns-in-Err-clause-read g c =
    let known = g.R.Read.remaining in
    rw c.last_batch-in-Err.ensures
    (read_stopped (reached c.args.reader.now (known c.args.input.now)) (reached c.loop.reader (known c.loop.input))
    (reached c.find.new.self (known c.find.new.input)) c.loop.messages c.in-Err.stop c.loop.invariant.0
    c.in-Err.ensures.found)

pub returns-then-holds_none-clause-read : goal.returns-then-holds_none-clause-read
returns-then-holds_none-clause-read g c =
    let known = g.R.Read.remaining in
    let old = reached c.args.reader.now (known c.args.input.now) in
    let held = c.push.new.self in
    rw c.next_batch.ensures
    (read_all old (reached c.take.new.self (known c.find.new.input)) held
    (held_one old c.loop.messages c.loop.reader c.find.new.self c.take.new.self (known c.loop.input)
    (known c.find.new.input) c.in-Ok-Some.size c.front.result.now held c.loop.invariant.0
    (rw c.in-Ok-Some.field-0-is at c.in-Ok-Some.ensures.found) c.in-Ok-Some.ensures.same c.front.ensures
    c.in-Ok.ensures.held c.take.ensures.taken c.take.ensures.count c.take.ensures.place))

pub loop-preserved : goal.loop-preserved
loop-preserved g c =
    let known = g.R.Read.remaining in
    let old = reached c.args.reader.now (known c.args.input.now) in
    let held = c.push.new.self in (
      held_one old c.loop.messages c.loop.reader c.find.new.self c.take.new.self (known c.loop.input)
          (known c.find.new.input) c.in-Ok-Some.size c.front.result.now held c.loop.invariant.0
          (rw c.in-Ok-Some.field-0-is at c.in-Ok-Some.ensures.found) c.in-Ok-Some.ensures.same c.front.ensures
          c.in-Ok.ensures.held c.take.ensures.taken c.take.ensures.count c.take.ensures.place,
      counted_one c.loop.messages c.push.new.self c.front.result.now c.loop.counter c.in-Ok.ensures.held
          c.loop.invariant.1,
    )
