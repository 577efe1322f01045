use Rattle.std.specs.Prelude.{string_bytes}
use Rattle.std.proofs.lemmas.Result.{IfOk-weaker}
use Rattle.flow_program.proofs.Told.{field_told}
use Rattle.flow_program.proofs.refusing.field_line.Goals as goal

pub returns : goal.returns
returns c =
    IfOk-weaker c.format.result _ _ (λ line e. field_told c.text-name.result.now c.args.name.now (string_bytes line) e
    c.text-name.ensures) c.format.ensures.ok
