use Rattle.std.proofs.Common.{ap, ◌∙◌}
use Rattle.flow_shell.specs.Asked.{request_in}
use Rattle.flow_shell.proofs.lines.Lines.request.Goals as goal

pub returns-in-Ok-clause-value : goal.returns-in-Ok-clause-value
returns-in-Ok-clause-value g c text =
    c.request_of.ensures ∙ ap request_in (c.in-Ok.ensures.cases.0 ∙ c.as_slice.ensures.value)
