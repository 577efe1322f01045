use Rattle.flow_program.proofs.Adding.{same_globals, with_three}
use Rattle.flow_program.proofs.grammar.with_three.Goals as goal

pub returns-clause-shape : goal.returns-clause-shape
returns-clause-shape c =
    with_three _ _ _ _ _ _ c.arg-3.result c.in_ok-arg.ensures c.in_ok-arg-2.ensures c.arg-3.ensures c.requires

pub returns-clause-own : goal.returns-clause-own
returns-clause-own c =
    same_globals _ _ _ _ _ _ c.arg-3.result c.in_ok-arg.ensures c.in_ok-arg-2.ensures c.arg-3.ensures c.requires
