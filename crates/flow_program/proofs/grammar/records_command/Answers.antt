use Rattle.flow_program.proofs.Adding.{none_global, three_more}
use Rattle.flow_program.proofs.grammar.records_command.Goals as goal

pub returns-clause-shape : goal.returns-clause-shape
returns-clause-shape c =
    three_more _ _ _ _ _ _ _ _ c.with_three.result c.in_ok-moments_command.ensures.shape
    c.option.ensures.rule c.flag.ensures.rule c.flag-2.ensures.rule c.with_three.ensures.shape

pub returns-clause-own : goal.returns-clause-own
returns-clause-own c = none_global _ c.with_three.result c.in_ok-moments_command.ensures.own c.with_three.ensures.own
