use Rattle.flow_codec.specs.Stream.{progress}
use Rattle.flow_feed.proofs.Readings.{counted_one, read_all, read_held, read_stop}
use Rattle.flow_feed.proofs.reading.read_batch.Goals as goal

pub returns-in-Err-clause-read : goal.returns-in-Err-clause-read
returns-in-Err-clause-read g c =
    let known = g.R.Read.remaining in
    rw c.last_batch-in-Err.ensures
    (read_stop (progress c.args.reader.now (known c.args.input.now)) (progress c.loop.reader (known c.loop.input))
    (progress c.advance.new.self (known c.advance.new.input)) c.loop.messages c.in-Err.error
    c.loop.invariant.0 c.in-Err.ensures.step)

pub returns-then-not-has_read_next-clause-read : goal.returns-then-not-has_read_next-clause-read
returns-then-not-has_read_next-clause-read g c =
    let known = g.R.Read.remaining in
    let old = progress c.args.reader.now (known c.args.input.now) in
    let new = progress c.advance.new.self (known c.advance.new.input) in
    let held = c.push.new.self in
    let step = rw c.in-Ok-true.field-0-test at c.in-Ok-true.ensures.step in
    rw c.next_batch.ensures
    (read_all old new held
    (read_held old (progress c.loop.reader (known c.loop.input)) new c.loop.messages held
    c.message.result.now c.loop.invariant.0 step c.message.ensures.value c.in-Ok.ensures.held))

pub loop-preserved : goal.loop-preserved
loop-preserved g c =
    let known = g.R.Read.remaining in
    let old = progress c.args.reader.now (known c.args.input.now) in
    let new = progress c.advance.new.self (known c.advance.new.input) in
    let step = rw c.in-Ok-true.field-0-test at c.in-Ok-true.ensures.step in (
      read_held old (progress c.loop.reader (known c.loop.input)) new c.loop.messages
          c.push.new.self c.message.result.now c.loop.invariant.0 step c.message.ensures.value
          c.in-Ok.ensures.held,
      counted_one c.loop.messages c.push.new.self c.message.result.now c.loop.counter c.in-Ok.ensures.held
          c.loop.invariant.1,
    )
