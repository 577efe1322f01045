use Rattle.std.proofs.Common.{◌∙◌, ap}
use Rattle.flow_shell.specs.Answers.{message_line, view_after}
use Rattle.flow_shell.proofs.Shown.{shown_view}
use Rattle.flow_shell.proofs.answering.find_message.Goals as goal

pub returns-clause-line : goal.returns-clause-line
returns-clause-line g c honest h has =
    let opening = g.J.Naming.opening in
    let shown = c.in_ok-snapshot.ensures in
    c.in_ok-line.ensures
    ∙ ap message_line (c.in_ok-message.ensures.given (shown.honest honest) (view_after opening h c.snapshot.new.self)
    (shown_view opening _ h c.snapshot.new.self shown.shelf (shown.view honest h has)))
