use Rattle.std.proofs.Common.{◌∙◌, ap₂}
use Rattle.flow_shell.specs.Asked.{by_name}
use Rattle.flow_shell.proofs.Names.{other_line}
use Rattle.flow_shell.proofs.asked.request_of.Goals as goal

pub returns-in_default : goal.returns-in_default
returns-in_default c =
    c.by_name.ensures ∙ ap₂ by_name c.divided.ensures.name c.divided.ensures.rest
    ∙ other_line c.args.line.now c.in_default.not-check c.in_default.not-losses c.in_default.not-wait c.in_default.not-quit
