-- What a whole job makes of an archive, and which turns make one.
use Rattle.std.specs.Prelude.{◌≡◌, ◌≢◌, ℕ, ◌+◌, ◌*◌, ◌<◌, ◌≤◌, min, Bool, false, IsTrue, List, [], ◌∷◌, ◌++◌, length}
use Rattle.std.specs.Prelude.{take, drop, map, Some, None, Result, Ok}
use Rattle.std.specs.List.{slice_get, AllByRecursion}
use Rattle.std.specs.Result.{IsOk}
use Rattle.flow_disk.specs.declared.disk.Disk.{Ghosts}
use Rattle.flow_manifest.specs.declared.following.JobKind.{JobKind}
use Rattle.flow_manifest.specs.declared.following.JobKind.TheVariants.{Roll, Merge}
use Rattle.flow_manifest.specs.declared.manifest.Entry.{Entry}
use Rattle.flow_manifest.specs.Following.{count_of, cut_by, made_of, messages_of, second_cut_by, source_of}
use Rattle.flow_manifest.specs.Manifest.{IsValidManifest}
use Rattle.flow_model.specs.State.{Job, State}
use Rattle.flow_model.specs.Jobs.{replaced_parts}
use Rattle.flow_archive.specs.declared.event.Answer.{Answer}
use Rattle.flow_archive.specs.declared.event.Event.{Event}
use Rattle.flow_archive.specs.declared.event.Event.TheVariants.{Retire}
use Rattle.flow_archive.specs.declared.refusal.ArchiveError.{ArchiveError}
use Rattle.flow_archive.specs.Answers.{archive_position}
use Rattle.flow_archive.specs.JobAnswers.{IsJobFile}
use Rattle.flow_archive.specs.Runs.{IsRun}
use Rattle.flow_archive.specs.Seen.{Seen}
use Rattle.flow_turns.specs.declared.turn.Turn.{Turn}
use Rattle.flow_turns.specs.Turns.{due, files_over, job_events, removal_by, IsJobRun, IsTurn}

-- ---- one file in place of several

-- a job over so many files that has read them all
abbrev pub all_read : JobKind → ℕ → Job
all_read kind count = record { kind = kind; sources = count; read = count; staged = None }

-- The oldest files of the kind that a job sums, so many, are named no more, and one file of the kind that it makes is
-- named in their place. Of the files that waited for their removal before, and then these, the first `removed` wait no
-- more.
pub record IsReplacement (honest : Bool) (kind : JobKind) (count removed : ℕ) (old new : State) : Type 0 where
  -- the entries before those of the sources, those of the sources, and the later ones
  pub before : List Entry
  pub sources : List Entry
  pub later : List Entry
  pub entries : old.manifest.entries ≡ before ++ (sources ++ later)
  pub many : length sources ≡ count
  pub of_kind : AllByRecursion (λ e. e.kind ≡ source_of kind) sources
  pub oldest : AllByRecursion (λ e. e.kind ≢ source_of kind) before
  -- the entry of the one file, which has the next number, and the messages of all of them
  pub made : Entry
  pub long : ℕ
  pub made_is : made ≡ record {
    kind = made_of kind;
    prefix = 0;
    file = old.next;
    length = long;
    messages = messages_of sources;
  }
  pub manifest : new.manifest ≡ record old.manifest {
    generation = old.manifest.generation + 1;
    next = old.next + 1;
    rolled = old.manifest.rolled + cut_by kind (messages_of sources);
    second = old.manifest.second + second_cut_by kind (messages_of sources);
    entries = before ++ made ∷ later;
  }
  -- Its octets are in the place of its sources' parts. On an honest disk they are the file of the sources' sums.
  pub octets : List ℕ
  pub parts : new.parts ≡ replaced_parts kind count octets old.manifest.entries old.parts
  pub sums : IsTrue honest → (long ≡ length octets) × IsJobFile old (all_read kind count) octets
  -- there are as many messages as before: in all files that are named, in the active segment, and together
  pub all : messages_of new.manifest.entries ≡ messages_of old.manifest.entries
  pub active : new.active ≡ old.active
  pub position : archive_position new ≡ archive_position old
  -- what is under way
  pub next : new.next ≡ old.next + 1
  pub shared : new.shared ≡ old.shared
  pub no_job : new.job ≡ None
  pub waiting : new.waiting ≡ drop removed (old.waiting ++ map (λ e. e.file) sources)

-- ---- whole jobs

-- The events of a job over so many files up to its install, all of them taken, put one file in their place. No file is
-- removed yet.
abbrev pub JobInstalled : {D S X : Type 0} → Ghosts D S X → Type 0
JobInstalled {D} g = (old new : Seen D) (kind : JobKind) (count : ℕ)
    (answers : List (Result Answer ArchiveError)) → IsValidManifest old.state.manifest → 1 ≤ count
    → IsRun g old (take (count + 3) (job_events kind count)) answers new
    → AllByRecursion IsOk answers → IsReplacement (g.honest old.disk) kind count 0 old.state new.state

-- All events of a job over so many files, all of them taken, remove as many files besides, the first that wait. So
-- where none waited before, none waits then.
abbrev pub WholeJob : {D S X : Type 0} → Ghosts D S X → Type 0
WholeJob {D} g = (old new : Seen D) (kind : JobKind) (count : ℕ)
    (answers : List (Result Answer ArchiveError)) → IsValidManifest old.state.manifest → 1 ≤ count
    → IsRun g old (job_events kind count) answers new → AllByRecursion IsOk answers
    → IsReplacement (g.honest old.disk) kind count count old.state new.state
    × (old.state.waiting ≡ [] → new.state.waiting ≡ [])

-- A job that answers Ok answers how many files it was over. With none, nothing has changed; else one file is in their
-- place. Files that readers have too may still wait for their removal: of an archive that isn't shared as many are
-- removed as were summed.
abbrev pub JobAnswered : {D S X : Type 0} → Ghosts D S X → Type 0
JobAnswered {D} g = (old new : Seen D) (kind : JobKind) (count summed : ℕ)
    → IsValidManifest old.state.manifest → IsJobRun g old new kind count (Ok summed)
    → (summed ≡ count) × (count ≡ 0 → new ≡ old) × (1 ≤ count → (removed : ℕ) × (removed ≤ count)
    × IsReplacement (g.honest old.disk) kind count removed old.state new.state
    × (old.state.shared ≡ false → (removed ≡ count) × (old.state.waiting ≡ [] → new.state.waiting ≡ [])))

-- A job over all files of its kind but the newest `keep` that answers Ok leaves `keep` of the kind, or all where there
-- were fewer.
abbrev pub JobKeeps : {D S X : Type 0} → Ghosts D S X → Type 0
JobKeeps {D} g = (old new : Seen D) (kind : JobKind) (keep summed : ℕ)
    → IsValidManifest old.state.manifest
    → IsJobRun g old new kind (files_over kind keep old.state) (Ok summed)
    → count_of (source_of kind) new.state.manifest.entries
    ≡ min keep (count_of (source_of kind) old.state.manifest.entries)

-- ---- turns

-- Turns of jobs of this kind, one after the other, with their answers: each takes the event that is due.
abbrev pub AreTurns : {D S X : Type 0} → Ghosts D S X → JobKind → ℕ → Seen D
    → List (Result Turn ArchiveError) → Seen D → Type 0
AreTurns g kind keep old [] new = new ≡ old
AreTurns {D} g kind keep old (turn ∷ turns) new =
    (mid : Seen D) × IsTurn g old mid (due kind keep old.state) turn
    × AreTurns g kind keep mid turns new

-- The events of a job that turns take: no turn of merging removes a file.
abbrev pub turn_events : JobKind → ℕ → List Event
turn_events Roll count = job_events Roll count
turn_events Merge count = take (count + 3) (job_events Merge count)

-- Without a job, and with files to sum, the events of one job over them are due in turn: after so many of them, all of
-- them taken, the next one.
abbrev pub DueInTurn : {D S X : Type 0} → Ghosts D S X → Type 0
DueInTurn {D} g = (old mid : Seen D) (kind : JobKind) (keep count i : ℕ)
    (answers : List (Result Answer ArchiveError)) → IsValidManifest old.state.manifest → old.state.job ≡ None
    → count ≡ files_over kind keep old.state → 1 ≤ count → i < length (turn_events kind count)
    → IsRun g old (take i (turn_events kind count)) answers mid → AllByRecursion IsOk answers
    → due kind keep mid.state ≡ slice_get (turn_events kind count) i

-- Without a job, and with files to sum, the next turns, three more than files, take the events of one job over them up
-- to its install, if none of them is refused. Then no other job is due.
abbrev pub TurnsOfAJob : {D S X : Type 0} → Ghosts D S X → Type 0
TurnsOfAJob {D} g = (old new : Seen D) (kind : JobKind) (keep count : ℕ)
    (turns : List (Result Turn ArchiveError)) → IsValidManifest old.state.manifest → old.state.job ≡ None
    → count ≡ files_over kind keep old.state → 1 ≤ count → length turns ≡ count + 3
    → AreTurns g kind keep old turns new → AllByRecursion IsOk turns
    → ((answers : List (Result Answer ArchiveError))
    × IsRun g old (take (count + 3) (job_events kind count)) answers new
    × AllByRecursion IsOk answers) × (due kind keep new.state ≡ removal_by kind)

-- Of turns of rolling as many more as there are files take its removals: all of them are a whole job. Then a removal is
-- due.
abbrev pub TurnsOfARoll : {D S X : Type 0} → Ghosts D S X → Type 0
TurnsOfARoll {D} g = (old new : Seen D) (keep count : ℕ)
    (turns : List (Result Turn ArchiveError)) → IsValidManifest old.state.manifest → old.state.job ≡ None
    → count ≡ files_over Roll keep old.state → 1 ≤ count → length turns ≡ 2 * count + 3
    → AreTurns g Roll keep old turns new → AllByRecursion IsOk turns
    → IsJobRun g old new Roll count (Ok count) × (due Roll keep new.state ≡ Some Retire)
