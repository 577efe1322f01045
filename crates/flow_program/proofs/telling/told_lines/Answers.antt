use Rattle.std.specs.Prelude.{string_bytes}
use Rattle.std.proofs.lemmas.Result.{IfOk-weaker}
use Rattle.flow_program.proofs.Told.{two_lines}
use Rattle.flow_program.proofs.telling.told_lines.Goals as goal

pub returns : goal.returns
returns c =
    IfOk-weaker c.format.result _ _ (λ lines e. two_lines c.args.text.now c.first_word-number.result.now
    (string_bytes lines) e c.first_word-number.ensures) c.format.ensures.ok
