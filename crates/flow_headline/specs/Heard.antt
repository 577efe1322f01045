-- A run whose answers are heard, each at the moment at which it is given.
use Rattle.std.specs.Prelude.{◌≡◌, ℕ, zero, suc, true, false, IsTrue, List, [], ◌∷◌, map, Result}
use Rattle.flow_disk.specs.declared.disk.Disk.{Ghosts}
use Rattle.flow_archive.specs.declared.event.Answer.{Answer}
use Rattle.flow_archive.specs.declared.event.Event.{Event}
use Rattle.flow_archive.specs.declared.refusal.ArchiveError.{ArchiveError}
use Rattle.flow_archive.specs.Answers.{Answers, Takes}
use Rattle.flow_archive.specs.Seen.{IsStep, Seen}
use Rattle.flow_headline.specs.Front.{StopsBetween}

-- an answer, the archive at the moment at which it was given, and who heard it after that
pub record Heard (D L : Type 0) : Type 0 where
  pub archive : Seen D
  pub answer : Result Answer ArchiveError
  pub listener : L

abbrev pub heard_by : {D L : Type 0} → Seen D → Result Answer ArchiveError → L → Heard D L
heard_by archive answer listener = record { archive = archive; answer = answer; listener = listener }

abbrev pub answers_of : {D L : Type 0} → List (Heard D L) → List (Result Answer ArchiveError)
answers_of heard = map (λ h. h.answer) heard

-- the archive when event i (from 0) begins: as it was when the answer before that was heard
abbrev pub moment_in : {D L : Type 0} → Seen D → List (Heard D L) → ℕ → Seen D
moment_in old heard zero = old
moment_in old [] (suc i) = old
moment_in old (h ∷ heard) (suc i) = moment_in h.archive heard i

-- these events, one step each, from one archive that was heard to the next
abbrev pub AreHeard : {D S X L : Type 0} → Ghosts D S X → Seen D → List Event → List (Heard D L) → Seen D → Type 0
AreHeard g old [] [] new = new ≡ old
AreHeard g old [] (h ∷ heard) new = ⊥
AreHeard g old (event ∷ events) [] new = ⊥
AreHeard g old (event ∷ events) (h ∷ heard) new =
    Answers (g.honest old.disk) old.closed old.state event h.answer h.archive.state
    × IsStep g old h.archive (Takes true old.state event) h.answer × AreHeard g h.archive events heard new

-- the listener heard just these, one after the other
abbrev pub HasHeard : {D L : Type 0} → (L → Seen D → Result Answer ArchiveError → L → Type 0) → L
    → List (Heard D L) → L → Type 0
HasHeard hears old [] new = new ≡ old
HasHeard hears old (h ∷ heard) new = hears old h.archive h.answer h.listener × HasHeard hears h.listener heard new

-- The listener heard one answer to each event, and nothing else. On an honest disk, in an archive that was open, a stop
-- at any moment leaves a prefix of the events, with all whose acknowledgement was heard by then.
pub record IsHeardRun {D S X L : Type 0} (g : Ghosts D S X)
    (hears : L → Seen D → Result Answer ArchiveError → L → Type 0) (old new : Seen D) (events : List Event)
    (before after : L) : Type 0 where
  pub heard : List (Heard D L)
  pub run : AreHeard g old events heard new
  pub by : HasHeard hears before heard after
  pub stops : IsTrue (g.honest old.disk) → old.closed ≡ false
      → StopsBetween g old new events (answers_of heard) (moment_in old heard)
