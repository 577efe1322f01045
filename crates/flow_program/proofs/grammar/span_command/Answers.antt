use Rattle.flow_program.proofs.Adding.{none_global, three_more}
use Rattle.flow_program.proofs.grammar.span_command.Goals as goal

pub returns-clause-shape : goal.returns-clause-shape
returns-clause-shape c =
    three_more _ _ _ _ _ _ _ _ c.with_three.result c.titled.ensures.shape
    c.folder_argument.ensures.rule c.optional.ensures.rule c.optional-2.ensures.rule c.with_three.ensures.shape

pub returns-clause-own : goal.returns-clause-own
returns-clause-own c = none_global _ c.with_three.result c.titled.ensures.own c.with_three.ensures.own
