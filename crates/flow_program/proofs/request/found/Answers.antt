use Rattle.std.proofs.Common.{◌∙◌}
use Rattle.std.proofs.lemmas.Result.{IfOk-weaker}
use Rattle.flow_program.proofs.Answered.{asked_by}
use Rattle.flow_program.proofs.request.found.Goals as goal

pub returns-in-Some : goal.returns-in-Some
returns-in-Some c =
    IfOk-weaker c.requested.result _ _
    (λ r h. h ∙ asked_by c.args.matches.now _ _ c.in-Some.ensures.name c.in-Some.ensures.rows) c.requested.ensures
