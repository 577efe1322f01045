use Rattle.std.proofs.Common.{ap₂, ◌≡◌, ◌∙◌, codes}
use Rattle.std.proofs.lemmas.Result.{IfOk-weaker}
use Rattle.clap.specs.Simple.{app_of, with_subcommand}
use Rattle.flow_program.specs.CommandLine.{keep_shape, with_feeding}
use Rattle.flow_program.proofs.grammar.with_rolling.Goals as goal

pub returns : goal.returns
returns c =
    let one_is : app_of c.in_ok-subcommand.field-0 ≡ with_subcommand with_feeding (keep_shape (codes "roll")) =
    c.in_ok-subcommand.ensures.shape c.in_ok-keep_command.ensures.own
    ∙ ap₂ with_subcommand c.in_ok-with_feeding.ensures c.in_ok-keep_command.ensures.shape in
    IfOk-weaker c.subcommand-2.result _ _ (λ m h. h.shape c.in_ok-keep_command-2.ensures.own
    ∙ ap₂ with_subcommand one_is c.in_ok-keep_command-2.ensures.shape) c.subcommand-2.ensures
