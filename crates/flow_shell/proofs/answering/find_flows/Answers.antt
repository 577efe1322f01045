use Rattle.std.proofs.Common.{◌∙◌, ap₂}
use Rattle.flow_measure.specs.Query.{flows_in_view}
use Rattle.flow_shell.specs.Answers.{view_after}
use Rattle.flow_shell.proofs.Shown.{shown_view}
use Rattle.flow_shell.proofs.answering.find_flows.Goals as goal

pub returns-clause-flows : goal.returns-clause-flows
returns-clause-flows g c honest h has =
    let opening = g.J.Naming.opening in
    let shown = c.in_ok-snapshot.ensures in
    let v = view_after opening h c.snapshot.new.self in
    c.in_ok-flows.ensures.given (shown.honest honest) v
    (shown_view opening _ h c.snapshot.new.self shown.shelf (shown.view honest h has))
    ∙ ap₂ (λ from to. flows_in_view from to v) c.from.ensures c.to.ensures
