-- Lives of archives.
use Rattle.std.proofs.Common.{◌≡◌, List, [], ◌∷◌, take, sym, subst}
use Rattle.flow_measure.specs.History.{Accepted, History}
use Rattle.flow_measure.specs.View.{view_of}
use Rattle.flow_segment.specs.Carry.{octets_of}
use Rattle.flow_model.specs.Changes.{counts_of}
use Rattle.flow_model.specs.Shelf.{Shelf}
use Rattle.flow_model.specs.State.{State}
use Rattle.flow_model.specs.Shelved.{HasHistory, shelf_of}
use Rattle.flow_model.specs.Views.{IsViewOf}
use Rattle.flow_headline.specs.Front.{all_added, grown}
use Rattle.flow_headline.specs.Lives.{IsLife, Round, answers_in, events_in, messages_of}
use Rattle.flow_headline.proofs.Growing.{IsGrown, more_then, same_history}

-- an archive with the same files has the same history
same_files : (s other : State) (h : History) → shelf_of other ≡ shelf_of s → HasHistory s h → HasHistory other h
same_files s other h same has = record {
  history = has.history;
  view = subst (λ (x : Shelf). IsViewOf x (view_of h (counts_of x))) (sym same) has.view;
}

grown_in : (first last : State) (rounds : List Round) (h : History) (life : IsLife first rounds last)
    → HasHistory first h → IsGrown h (messages_of first rounds last life) last
grown_in first last [] h life has = same_history first last h life has
grown_in first last (round ∷ rounds) h (found, same, prefix, rest) has =
    let own = prefix.history h (same_files first round.start h same has) in
    more_then h (all_added (take prefix.taken (events_in round)) (take prefix.taken (answers_in round)))
    (messages_of found rounds last rest) found last
    (record { more = own.more; octets = own.octets; history = own.history })
    (λ g given. grown_in found last rounds g rest given)

pub histories_of_lives : (first last : State) (rounds : List Round) (h : History) (life : IsLife first rounds last)
    → HasHistory first h → (more : List Accepted) × (octets_of more ≡ messages_of first rounds last life)
    × HasHistory last (grown h more last)
histories_of_lives first last rounds h life has =
    let is = grown_in first last rounds h life has in (is.more, is.octets, is.history)
