use Rattle.flow_measure.proofs.ViewLaws.{totals_same, flows_same, message_same}
use Rattle.flow_measure.proofs.laws.queries_by_view.Goals as goal

pub returns-clause-totals : goal.returns-clause-totals
returns-clause-totals c = λ h counts from to is all. totals_same h counts is all from to

pub returns-clause-flows : goal.returns-clause-flows
returns-clause-flows c = λ h counts from to is all. flows_same h counts is all from to

pub returns-clause-message : goal.returns-clause-message
returns-clause-message c = λ h counts n is all. message_same h counts is all n
