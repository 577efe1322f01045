use Rattle.std.proofs.Common.{subst, sym}
use Rattle.flow_snapshot.specs.ShelfSeen.{ShelfSeen}
use Rattle.flow_commands.specs.Asking.{IsReadAs}
use Rattle.flow_commands.proofs.OpenedAnswers.{read_as}
use Rattle.flow_commands.proofs.asking.to_ask.Goals as goal

pub returns-clause-read : goal.returns-clause-read
returns-clause-read g c h reads stands =
    let read = read_as reads c.in_ok-directory.directory c.width-width.result _ stands c.width-width.ensures
    c.one_view_of_a_state.ensures.there (c.in_ok-directory.ensures.shown h) in
    subst (λ (s : ShelfSeen). IsReadAs reads s c.width-width.result) (sym c.into_snapshot-snapshot.ensures) read
