use Rattle.std.proofs.Common.{◌≡◌, false, refl, sym, subst}
use Rattle.flow_disk.proofs.Results.{if_ok_by}
use Rattle.flow_model.specs.Changes.{new_history}
use Rattle.flow_model.specs.State.{State, empty_state}
use Rattle.flow_model.specs.Shelved.{HasHistory}
use Rattle.flow_archive.specs.Beginning.{widest}
use Rattle.flow_headline.proofs.Opened.{empty_history, made_ready}
use Rattle.flow_headline.proofs.openings.create_archive.Goals as goal

pub returns-clause-ready : goal.returns-clause-ready
returns-clause-ready g c = λ h.
    made_ready g.D.Disk c.create.result c.args.disk
    (empty_state c.args.width (widest c.args.width) c.args.limit) c.create.ensures.honest h c.create.ensures.made
    (c.create.ensures.stands h) refl

pub returns-clause-history : goal.returns-clause-history
returns-clause-history g c =
    let width = c.args.width in
    let made = empty_state width (widest width) c.args.limit in
    if_ok_by c.create.result (λ a. (a.state ≡ made) × (a.closed ≡ false))
    (λ a. HasHistory a.state (new_history width (widest width)))
    (λ a is. subst (λ (s : State). HasHistory s (new_history width (widest width))) (sym is.0)
    (empty_history width c.args.limit c.requires.width_from c.requires.width_to))
    c.create.ensures.made
