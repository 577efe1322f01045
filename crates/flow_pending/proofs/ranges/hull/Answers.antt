use Rattle.std.proofs.Common.{rules, inl, inr, arith, ⊎_elim}
use Rattle.std.proofs.lemmas.Bool.{cases_lt}
use Rattle.flow_pending.proofs.Joined.{read_there}
use Rattle.flow_pending.proofs.ranges.hull.Goals as goal

pub others-preserved : goal.others-preserved
others-preserved c = (
  λ k other place lt is within. ⊎_elim
      (λ early. c.joined-hull.ensures place (inl (c.others.invariant.0 k other place early is within)))
      (λ late. c.joined-hull.ensures place (inr (read_there c.args.ranges.now c.others.other-index k other _
      (omega (arith, lt, late)) c.others-test.true is place within)))
      (cases_lt k c.others.other-index),
  λ place within. c.joined-hull.ensures place (inl (c.others.invariant.1 place within)),
)

pub returns-clause-others : goal.returns-clause-others
returns-clause-others c place written =
    c.others.invariant.0 written.0 written.1 place (search (rules, written.2)) written.3 written.4
