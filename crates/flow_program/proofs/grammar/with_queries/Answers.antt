use Rattle.std.proofs.Common.{ap₂, ◌≡◌, ◌∙◌, codes}
use Rattle.std.proofs.lemmas.Result.{IfOk-weaker}
use Rattle.clap.specs.Simple.{app_of, with_subcommand}
use Rattle.flow_program.specs.CommandLine.{asking_shape, totals_shape, with_archives}
use Rattle.flow_program.proofs.grammar.with_queries.Goals as goal

pub returns : goal.returns
returns c =
    let one_is : app_of c.in_ok-subcommand.field-0 ≡ with_subcommand with_archives totals_shape =
    c.in_ok-subcommand.ensures.shape c.in_ok-totals_command.ensures.own
    ∙ ap₂ with_subcommand c.in_ok-with_archives.ensures c.in_ok-totals_command.ensures.shape in
    let two_is : app_of c.in_ok-subcommand-2.field-0
    ≡ with_subcommand (with_subcommand with_archives totals_shape) (asking_shape (codes "flows")) =
    c.in_ok-subcommand-2.ensures.shape c.in_ok-asking_command.ensures.own
    ∙ ap₂ with_subcommand one_is c.in_ok-asking_command.ensures.shape in
    IfOk-weaker c.subcommand-3.result _ _ (λ m h. h.shape c.in_ok-records_command.ensures.own
    ∙ ap₂ with_subcommand two_is c.in_ok-records_command.ensures.shape) c.subcommand-3.ensures
