use Rattle.std.proofs.Common.{refl, arith, ap, ℕ, ◌+◌, [], ◌∷◌, ◌++◌, ◌∙◌, take, length-append}
use Rattle.flow_feed.specs.Whole.{ahead, reached}
use Rattle.flow_feed.proofs.Readings.{read_none}
use Rattle.flow_feed.proofs.Wholes.{read_over, read_stopped, taken_one}
use Rattle.flow_feed.proofs.until.pass_whole.Goals as goal

pub loop-init : goal.loop-init
loop-init g c = ([], refl, read_none (reached c.args.reader.now (g.R.Read.remaining c.args.input.now)) refl)

pub returns-in-Ok-None : goal.returns-in-Ok-None
returns-in-Ok-None g c =
    let known = g.R.Read.remaining in
    let passed = c.loop.invariant.0 in (
      passed,
      omega (arith, c.loop.invariant.1, c.loop-test.true),
      read_over (reached c.args.reader.now (known c.args.input.now)) (reached c.loop.reader (known c.loop.input))
          (reached c.find.new.self (known c.find.new.input)) passed c.loop.invariant.2
          (rw c.in-Ok-None.field-0-is at c.in-Ok-None.ensures.found),
      c.count.ensures.value ∙ c.in-Ok-None.ensures.same.0 ∙ c.loop.invariant.2.count,
    )

pub returns-in-Err : goal.returns-in-Err
returns-in-Err g c =
    let known = g.R.Read.remaining in
    let passed = c.loop.invariant.0 in (
      passed,
      omega (arith, c.loop.invariant.1, c.loop-test.true),
      read_stopped (reached c.args.reader.now (known c.args.input.now)) (reached c.loop.reader (known c.loop.input))
          (reached c.find.new.self (known c.find.new.input)) passed c.in-Err.stop c.loop.invariant.2
          c.in-Err.ensures.found,
      c.count-in-Err.ensures.value ∙ c.in-Err.ensures.same.0 ∙ c.loop.invariant.2.count,
    )

pub loop-preserved : goal.loop-preserved
loop-preserved g c =
    let known = g.R.Read.remaining in
    let passed = c.loop.invariant.0 in
    let next = take c.in-Ok-Some.size (ahead c.find.new.self) in (
      passed ++ next ∷ [],
      length-append passed (next ∷ []) ∙ ap (λ (n : ℕ). n + 1) c.loop.invariant.1,
      taken_one (reached c.args.reader.now (known c.args.input.now)) passed c.loop.reader c.find.new.self c.take.new.self
          (known c.loop.input) (known c.find.new.input) c.in-Ok-Some.size c.loop.invariant.2
          (rw c.in-Ok-Some.field-0-is at c.in-Ok-Some.ensures.found) c.in-Ok-Some.ensures.same c.take.ensures.taken
          c.take.ensures.count c.take.ensures.place,
    )
