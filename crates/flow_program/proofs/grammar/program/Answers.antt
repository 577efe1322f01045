use Rattle.std.proofs.Common.{ap, ◌∙◌, true}
use Rattle.clap.specs.Simple.{app_of_fields, on_top}
use Rattle.flow_program.proofs.grammar.program.Goals as goal

pub returns : goal.returns
returns c =
    let new_is = ap app_of_fields c.about.ensures ∙ c.new.ensures.app in
    let version_is = ap app_of_fields c.version.ensures ∙ ap (on_top (λ s. record s { has_version = true })) new_is in
    let help_is = ap app_of_fields c.after_help.ensures ∙ version_is in
    ap app_of_fields c.subcommand_required.ensures ∙ ap (on_top (λ s. record s { subcommand_required = true })) help_is
