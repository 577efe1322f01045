use Rattle.flow_export.proofs.Between.{span_is}
use Rattle.flow_export.proofs.Spanning.{leaves_templates, span_flows, span_read}
use Rattle.flow_export.proofs.laws.exported_spans.Goals as goal

pub returns-clause-file : goal.returns-clause-file
returns-clause-file c = λ s v from to text view is. span_read from to s v text view is

pub returns-clause-flows : goal.returns-clause-flows
returns-clause-flows c = λ from to v. span_flows from to v

pub returns-clause-others : goal.returns-clause-others
returns-clause-others c = λ octets none. leaves_templates octets none

pub returns-clause-between : goal.returns-clause-between
returns-clause-between c = λ from to kept. span_is from to kept
