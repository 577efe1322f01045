use Rattle.std.proofs.Common.{subst}
use Rattle.flow_model.specs.Shelf.{Shelf}
use Rattle.flow_commands.specs.Asking.{AreReadRows}
use Rattle.flow_shell.specs.Answers.{view_after}
use Rattle.flow_shell.proofs.Shown.{shown_view}
use Rattle.flow_shell.proofs.answering.find_rows.Goals as goal

pub returns-clause-rows : goal.returns-clause-rows
returns-clause-rows g c honest h has =
    let opening = g.J.Naming.opening in
    let shown = c.in_ok-snapshot.ensures in
    c.in_ok-rows.ensures.given (shown.honest honest) (view_after opening h c.snapshot.new.self)
    (shown_view opening _ h c.snapshot.new.self shown.shelf (shown.view honest h has))

pub returns-clause-found : goal.returns-clause-found
returns-clause-found g c honest =
    let shown = c.in_ok-snapshot.ensures in
    subst (λ (s : Shelf). AreReadRows s c.args.span.now c.in_ok-rows.rows.items) shown.shelf
    (c.in_ok-rows.ensures.found (shown.honest honest))
