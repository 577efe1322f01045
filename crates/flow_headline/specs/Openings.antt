-- From a stop of a run to the opening that answers Ok, on any honest disk.
use Rattle.std.specs.Prelude.{◌≡◌, ℕ, ◌+◌, ◌<◌, ◌^◌, false, IsTrue, List, [], ◌∷◌, take, drop, Result, None}
use Rattle.flow_disk.specs.declared.disk.Disk.{Ghosts}
use Rattle.flow_disk.specs.Disk.{AllImages}
use Rattle.flow_disk.specs.Calls.{LeavesOnly}
use Rattle.flow_model.specs.State.{State, reopened}
use Rattle.flow_model.specs.Standing.{StandsFor, StandsForEither}
use Rattle.flow_archive.specs.declared.event.Answer.{Answer}
use Rattle.flow_archive.specs.declared.event.Event.{Event}
use Rattle.flow_archive.specs.declared.refusal.ArchiveError.{ArchiveError}
use Rattle.flow_archive.specs.Runs.{IsAfter, IsRun}
use Rattle.flow_archive.specs.Seen.{Seen}

-- The answers of events lead to one state.
abbrev pub AnswersLeadToOneState : Type 0
AnswersLeadToOneState = (s a b : State) (events : List Event) (answers : List (Result Answer ArchiveError))
    → s.manifest.width < 2 ^ 32 → IsAfter s events answers a → IsAfter s events answers b → a ≡ b

-- ---- a stop

-- A stop left this disk, at some moment from one disk on, up to another: nothing of it is frozen, and each of its
-- images is one that a stop then leaves.
pub record IsLeftBy {D S X : Type 0} (g : Ghosts D S X) (early late left : D) : Type 0 where
  pub honest : IsTrue (g.honest left)
  pub thawed : (n : ℕ) → (g.marks left n).frozen ≡ false
  pub images : AllImages (g.held left) (λ image. g.left_since late (g.moment early) image)

-- A stop of this run left the disk: while event `begun` (from 0) was under way, or after the last one. `early` is the
-- archive when that event began, which is when the one before it was answered, and `late` when it is answered itself,
-- if nothing stops it.
pub record IsStopped {D S X : Type 0} (g : Ghosts D S X) (old : Seen D) (events : List Event)
    (answers : List (Result Answer ArchiveError)) (begun : ℕ) (early late : Seen D) (left : D) : Type 0 where
  pub before : IsRun g old (take begun events) (take begun answers) early
  pub under_way : IsRun g early (drop begun (take (begun + 1) events)) (drop begun (take (begun + 1) answers)) late
  pub stop : IsLeftBy g early.disk late.disk left

-- ---- openings

-- An opening of the disk `given`, which is `after` when it ends, if nothing stops it: where each image represented one of
-- two states, a stop at any moment leaves one that does. Each opening is so, whatever it answers (`Archive::open`,
-- any_moment).
abbrev pub IsOpening : {D S X : Type 0} → Ghosts D S X → D → D → Type 0
IsOpening g given after = (s t : State) → AllImages (g.held given) (StandsForEither s t)
    → LeavesOnly g given after (StandsForEither s t)

-- Openings one after the other, each stopped: the first is of this disk, each later one of what the stop within the one
-- before left, and the last of these stops left that disk.
abbrev pub AreStoppedOpenings : {D S X : Type 0} → Ghosts D S X → D → List D → D → Type 0
AreStoppedOpenings g first [] left = left ≡ first
AreStoppedOpenings {D} g first (after ∷ others) left =
    (next : D) × IsOpening g first after × IsLeftBy g first after next × AreStoppedOpenings g next others left

-- An archive that was made or opened on an honest disk: no fault has closed it, no job is under way, and each image
-- represents it.
pub record IsReady {D S X : Type 0} (g : Ghosts D S X) (archive : Seen D) : Type 0 where
  pub honest : IsTrue (g.honest archive.disk)
  pub still_open : archive.closed ≡ false
  pub no_job : archive.state.job ≡ None
  pub stands : AllImages (g.held archive.disk) (λ image. StandsFor image (reopened archive.state))

-- A run of an archive that was ready was stopped within event `begun`, and then any number of openings were stopped.
-- This disk is left.
pub record IsLeftOfRun {D S X : Type 0} (g : Ghosts D S X) (old : Seen D) (events : List Event)
    (answers : List (Result Answer ArchiveError)) (begun : ℕ) (early late : Seen D) (left : D) : Type 0 where
  pub ready : IsReady g old
  pub first : D
  pub stopped : IsStopped g old events answers begun early late first
  pub openings : List D
  pub opened : AreStoppedOpenings g first openings left
