use Rattle.std.proofs.Common.{ℕ, ◌+◌, [], ◌∷◌, ◌++◌, ◌∙◌, ap, length-append}
use Rattle.flow_codec.specs.Stream.{progress}
use Rattle.flow_feed.proofs.Readings.{read_more}
use Rattle.flow_feed.proofs.feeding.pass.Goals as goal

pub loop-preserved : goal.loop-preserved
loop-preserved g c =
    let known = g.R.Read.remaining in
    let new = progress c.advance.new.self (known c.advance.new.input) in
    let passed = c.loop.invariant.0 in (
      passed ++ new.message ∷ [],
      length-append passed (new.message ∷ []) ∙ ap (λ (n : ℕ). n + 1) c.loop.invariant.1,
      read_more (progress c.args.reader.now (known c.args.input.now)) (progress c.loop.reader (known c.loop.input)) new
          passed c.loop.invariant.2 (rw c.in-Ok-true.field-0-test at c.in-Ok-true.ensures.step),
    )
