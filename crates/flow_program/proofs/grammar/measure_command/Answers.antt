use Rattle.std.proofs.Common.{ap, ◌∙◌, ◌∷◌, ◌++◌, []}
use Rattle.clap.specs.Simple.{Shape}
use Rattle.flow_program.specs.CommandLine.{format_rules, width_rule}
use Rattle.flow_program.proofs.Adding.{none_more, one_more, one_not_global, with_one}
use Rattle.flow_program.proofs.grammar.measure_command.Goals as goal

pub returns-clause-shape : goal.returns-clause-shape
returns-clause-shape c =
    one_more _ _ _ _ c.arg-2.result (c.in_ok-in_formats.ensures.shape
    ∙ ap (λ (s : Shape). record s { rules = s.rules ++ format_rules })
    (with_one _ _ _ _ c.width_argument.ensures.own c.width_argument.ensures.rule c.in_ok-command.ensures
    ∙ ap (λ (s : Shape). record s { rules = s.rules ++ width_rule ∷ [] }) c.titled.ensures.shape))
    c.flag.ensures.own c.flag.ensures.rule c.arg-2.ensures

pub returns-clause-own : goal.returns-clause-own
returns-clause-own c =
    one_not_global _ _ c.arg-2.result (c.in_ok-in_formats.ensures.own
    ∙ none_more _ _ _ c.width_argument.ensures.own c.in_ok-command.ensures ∙ c.titled.ensures.own)
    c.flag.ensures.own c.arg-2.ensures
