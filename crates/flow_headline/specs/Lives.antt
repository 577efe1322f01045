-- The life of an archive: it is made, and then run, stopped and opened, again and again.
use Rattle.std.specs.Prelude.{◌≡◌, ℕ, ◌+◌, List, [], ◌∷◌, ◌++◌, take, Result}
use Rattle.flow_measure.specs.History.{Accepted, History}
use Rattle.flow_segment.specs.Carry.{octets_of}
use Rattle.flow_model.specs.State.{State}
use Rattle.flow_model.specs.Shelved.{HasHistory, shelf_of}
use Rattle.flow_archive.specs.declared.event.Answer.{Answer}
use Rattle.flow_archive.specs.declared.event.Event.{Event}
use Rattle.flow_archive.specs.declared.refusal.ArchiveError.{ArchiveError}
use Rattle.flow_headline.specs.Front.{IsPrefix, all_added, grown}

-- a run from a state, stopped while event `begun` (from 0) was under way, or after the last one
pub record Round : Type 0 where
  pub start : State
  pub events : List Event
  pub answers : List (Result Answer ArchiveError)
  pub begun : ℕ

-- the events of a round that had begun when it was stopped, and their answers
abbrev pub events_in : Round → List Event
events_in round = take (round.begun + 1) round.events

abbrev pub answers_in : Round → List (Result Answer ArchiveError)
answers_in round = take (round.begun + 1) round.answers

-- From one state to another, round after round: each run starts with the files of the archive that was made or found
-- before it, and what is found after it is a prefix of its events, with all that were acknowledged.
abbrev pub IsLife : State → List Round → State → Type 0
IsLife first [] last = last ≡ first
IsLife first (round ∷ rounds) last =
    (found : State) × (shelf_of round.start ≡ shelf_of first)
    × IsPrefix round.start (events_in round) (answers_in round) round.begun found × IsLife found rounds last

-- the messages of all these prefixes, in their order
abbrev pub messages_of : (first : State) (rounds : List Round) (last : State) → IsLife first rounds last → List (List ℕ)
messages_of first [] last life = []
messages_of first (round ∷ rounds) last (found, same, prefix, rest) =
    all_added (take prefix.taken (events_in round)) (take prefix.taken (answers_in round)) ++
    messages_of found rounds last rest

-- An archive that has a history when a life begins has one when it ends: that history with the messages of all prefixes
-- after it, each once, in their order, and no other.
abbrev pub LivesHaveHistories : Type 0
LivesHaveHistories = (first last : State) (rounds : List Round) (h : History) (life : IsLife first rounds last)
    → HasHistory first h → (more : List Accepted) × (octets_of more ≡ messages_of first rounds last life)
    × HasHistory last (grown h more last)
