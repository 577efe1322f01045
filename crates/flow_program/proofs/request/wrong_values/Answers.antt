use Rattle.std.proofs.Common.{◌∙◌}
use Rattle.flow_program.proofs.Answered.{values_named}
use Rattle.flow_program.proofs.request.wrong_values.Goals as goal

pub returns-in-Some : goal.returns-in-Some
returns-in-Some c =
    c.wrong_values_in.ensures ∙ values_named c.args.matches.now _ _ c.in-Some.ensures.name c.in-Some.ensures.rows
