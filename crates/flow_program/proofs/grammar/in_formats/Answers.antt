use Rattle.std.proofs.Common.{refl}
use Rattle.flow_program.proofs.Adding.{three_more}
use Rattle.flow_program.proofs.grammar.in_formats.Goals as goal

pub returns-clause-shape : goal.returns-clause-shape
returns-clause-shape c =
    three_more _ _ _ _ _ _ _ _ c.with_three.result refl
    c.flag.ensures.rule c.flag-2.ensures.rule c.flag-3.ensures.rule c.with_three.ensures.shape
