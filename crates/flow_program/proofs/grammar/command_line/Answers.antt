use Rattle.std.proofs.Common.{ap₂, ◌∙◌}
use Rattle.std.proofs.lemmas.Result.{IfOk-weaker}
use Rattle.clap.specs.Simple.{with_subcommand}
use Rattle.flow_program.proofs.grammar.command_line.Goals as goal

pub returns : goal.returns
returns c =
    IfOk-weaker c.subcommand.result _ _ (λ m h. h.shape c.in_ok-explain_command.ensures.own
    ∙ ap₂ with_subcommand c.in_ok-with_rolling.ensures c.in_ok-explain_command.ensures.shape) c.subcommand.ensures
