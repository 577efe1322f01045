-- What a reader is shown, by the history of the opening files.
use Rattle.std.proofs.Common.{◌≡◌, List, subst}
use Rattle.flow_measure.specs.History.{History}
use Rattle.flow_measure.specs.View.{view_of}
use Rattle.flow_model.specs.Changes.{Change, counts_of}
use Rattle.flow_model.specs.Shelf.{Shelf}
use Rattle.flow_model.specs.Views.{IsViewOf}
use Rattle.flow_shared.specs.Meaning.{history_behind, HasView}
use Rattle.flow_shared.specs.Told.{after}
use Rattle.flow_shell.specs.Answers.{view_after}

-- the view of what is shown
pub shown_view : (opening shelf : Shelf) (h : History) (steps : List Change) → shelf ≡ after opening steps
    → HasView shelf (history_behind h steps) → IsViewOf shelf (view_after opening h steps)
shown_view opening shelf h steps is has =
    subst (λ (s : Shelf). IsViewOf shelf (view_of (history_behind h steps) (counts_of s))) is has.1
