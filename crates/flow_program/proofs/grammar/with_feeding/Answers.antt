use Rattle.std.proofs.Common.{ap₂, ◌≡◌, ◌∙◌}
use Rattle.std.proofs.lemmas.Result.{IfOk-weaker}
use Rattle.clap.specs.Simple.{app_of, with_subcommand}
use Rattle.flow_program.specs.CommandLine.{feed_shape, with_exports}
use Rattle.flow_program.proofs.grammar.with_feeding.Goals as goal

pub returns : goal.returns
returns c =
    let one_is : app_of c.in_ok-subcommand.field-0 ≡ with_subcommand with_exports feed_shape =
    c.in_ok-subcommand.ensures.shape c.in_ok-feed_command.ensures.own
    ∙ ap₂ with_subcommand c.in_ok-with_exports.ensures c.in_ok-feed_command.ensures.shape in
    IfOk-weaker c.subcommand-2.result _ _ (λ m h. h.shape c.in_ok-shell_command.ensures.own
    ∙ ap₂ with_subcommand one_is c.in_ok-shell_command.ensures.shape) c.subcommand-2.ensures
