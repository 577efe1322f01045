use Rattle.std.proofs.Common.{ap₂, ◌≡◌, ◌∙◌}
use Rattle.std.proofs.lemmas.Result.{IfOk-weaker}
use Rattle.clap.specs.Simple.{app_of, with_subcommand}
use Rattle.flow_program.specs.CommandLine.{dump_shape, measure_shape, program}
use Rattle.flow_program.proofs.grammar.with_streams.Goals as goal

pub returns : goal.returns
returns c =
    let one_is : app_of c.in_ok-subcommand.field-0 ≡ with_subcommand program measure_shape =
    c.in_ok-subcommand.ensures.shape c.in_ok-measure_command.ensures.own
    ∙ ap₂ with_subcommand c.program.ensures c.in_ok-measure_command.ensures.shape in
    let two_are : app_of c.in_ok-subcommand-2.field-0 ≡ with_subcommand (with_subcommand program measure_shape) dump_shape =
    c.in_ok-subcommand-2.ensures.shape c.dump_command.ensures.own
    ∙ ap₂ with_subcommand one_is c.dump_command.ensures.shape in
    IfOk-weaker c.subcommand-3.result _ _ (λ m h. h.shape c.in_ok-inspect_command.ensures.own
    ∙ ap₂ with_subcommand two_are c.in_ok-inspect_command.ensures.shape) c.subcommand-3.ensures
