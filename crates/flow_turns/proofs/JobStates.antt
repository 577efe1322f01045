-- What each event of a job makes of a state, where it is taken.
use Rattle.std.proofs.Common.{◌≡◌, ◌∙◌, ℕ, ◌+◌, ◌≤◌, min, Bool, IsTrue, List}
use Rattle.std.proofs.Common.{◌++◌, map, Some, None, Result, Ok, Err, refl, ap, subst}
use Rattle.flow_manifest.specs.declared.following.JobKind.{JobKind}
use Rattle.flow_manifest.specs.declared.following.JobKind.TheVariants.{Roll, Merge}
use Rattle.flow_manifest.specs.Following.{count_of, installed_manifest, source_of, sources_of}
use Rattle.flow_model.specs.State.{Job, StagedFile, State}
use Rattle.flow_model.specs.Jobs.{replaced, replaced_parts, staged_of}
use Rattle.flow_archive.specs.declared.event.Answer.{Answer}
use Rattle.flow_archive.specs.declared.event.Answer.TheVariants.{Began, Left, Written}
use Rattle.flow_archive.specs.declared.event.Event.TheVariants.{RollStep, RollWrite, RollInstall}
use Rattle.flow_archive.specs.declared.refusal.ArchiveError.{ArchiveError}
use Rattle.flow_archive.specs.Answers.{Answers, told_as}
use Rattle.flow_archive.specs.JobAnswers.{stepped, AnswersBegin, AnswersStep, AnswersWrite, HasJob}
use Rattle.flow_archive.specs.JobAnswers.{IsJobFile, IsStagedIn}
use Rattle.flow_turns.specs.Turns.{begun_by}
use Rattle.flow_turns.specs.Laws.{all_read}
use Rattle.flow_turns.proofs.Passing.{no_begin, no_install, no_step, no_write, IsPassed}

-- ---- the states

abbrev pub reading : JobKind → ℕ → ℕ → Job
reading kind count read = record { kind = kind; sources = count; read = read; staged = None }

-- with a job that has read so many of its sources
abbrev pub with_read : State → JobKind → ℕ → ℕ → State
with_read s kind count read = record s { job = Some (reading kind count read) }

abbrev pub file_made : State → List ℕ → StagedFile
file_made s octets = record { file = s.next; octets = octets }

abbrev pub having_made : State → JobKind → ℕ → List ℕ → Job
having_made s kind count octets = record (reading kind count count) { staged = Some (file_made s octets) }

-- with a job that has made its file
abbrev pub with_file : State → JobKind → ℕ → List ℕ → State
with_file s kind count octets = record s { job = Some (having_made s kind count octets); next = s.next + 1 }

-- after the install of a file with these octets, which reads as these
abbrev pub with_sums : State → JobKind → ℕ → List ℕ → List ℕ → State
with_sums s kind count octets read = record s {
  manifest = installed_manifest s.manifest kind count (staged_of (file_made s octets)) (s.next + 1);
  parts = replaced_parts kind count read s.manifest.entries s.parts;
  next = s.next + 1;
  job = None;
  waiting = s.waiting ++ map (λ e. e.file) (sources_of kind count s.manifest.entries);
}

-- ---- one event

with_done : {X : Type 0} (answer : X → Answer) (done : Result X ArchiveError) (a : Result Answer ArchiveError)
    → a ≡ told_as answer done → IsPassed a → IsPassed (told_as answer done)
with_done answer done a same passed = subst IsPassed same passed

pub record IsBegun (s : State) (kind : JobKind) (count : ℕ) (after : State) : Type 0 where
  pub free : s.job ≡ None
  pub few : count ≤ count_of (source_of kind) s.manifest.entries
  pub is : after ≡ with_read s kind count 0

begun_done : (closed : Bool) (s after : State) (kind : JobKind) (count : ℕ) (done : Result (Unit {0}) ArchiveError)
    → IsPassed (told_as (λ _. Began) done) → AnswersBegin closed s kind count done after → IsBegun s kind count after
begun_done closed s after kind count (Ok x) passed answers = record {
  free = answers.1;
  few = answers.2.1;
  is = answers.3;
}
begun_done closed s after kind count (Err e) passed answers =
    absurd (no_begin closed s after kind count e passed answers)

pub after_begin : (honest closed : Bool) (s after : State) (kind : JobKind) (count : ℕ)
    (a : Result Answer ArchiveError) → IsPassed a → Answers honest closed s (begun_by kind count) a after
    → IsBegun s kind count after
after_begin honest closed s after Roll count a passed answers =
    begun_done closed s after Roll count answers.0 (subst IsPassed answers.1 passed) answers.2
after_begin honest closed s after Merge count a passed answers =
    begun_done closed s after Merge count answers.0 (subst IsPassed answers.1 passed) answers.2

-- a job is the one that a state has
same_job : (s : State) (known : Job) (P : Job → Type 0) → s.job ≡ Some known → HasJob s P → P known
same_job s known P is has =
    let same : has.0 ≡ known = cc in subst P same has.2

step_done : (honest closed : Bool) (s after : State) (kind : JobKind) (count read : ℕ) (left : Result ℕ ArchiveError)
    → IsPassed (told_as Left left) → AnswersStep honest closed (with_read s kind count read) left after
    → after ≡ with_read s kind count (min (read + 1) count)
step_done honest closed s after kind count read (Ok left) passed answers =
    (same_job (with_read s kind count read) (reading kind count read)
    (λ job. after ≡ record (with_read s kind count read) { job = Some (stepped job) }) refl
    (answers.1.0, answers.1.1, answers.1.2.1))
step_done honest closed s after kind count read (Err e) passed answers =
    absurd (no_step honest closed (with_read s kind count read) after e passed answers)

pub after_step : (honest closed : Bool) (s after : State) (kind : JobKind) (count read : ℕ)
    (a : Result Answer ArchiveError) → IsPassed a
    → Answers honest closed (with_read s kind count read) RollStep a after
    → after ≡ with_read s kind count (min (read + 1) count)
after_step honest closed s after kind count read a passed answers =
    step_done honest closed s after kind count read answers.0 (subst IsPassed answers.1 passed) answers.2

pub record IsMade (honest : Bool) (s : State) (kind : JobKind) (count : ℕ) (after : State) : Type 0 where
  pub octets : List ℕ
  pub sums : IsTrue honest → IsJobFile s (all_read kind count) octets
  pub is : after ≡ with_file s kind count octets

write_done : (honest closed : Bool) (s after : State) (kind : JobKind) (count : ℕ)
    (done : Result (Unit {0}) ArchiveError) → IsPassed (told_as (λ _. Written) done)
    → AnswersWrite honest closed (with_read s kind count count) done after → IsMade honest s kind count after
write_done honest closed s after kind count (Ok x) passed answers =
    let made = same_job (with_read s kind count count) (reading kind count count)
    (λ job. IsStagedIn honest (with_read s kind count count) job job.staged after) refl
    (answers.1.0, answers.1.1, answers.1.2.1) in
    record {
      octets = made.1.0;
      sums = λ h. let m = made.1.1 h in (m.0, m.1, m.2, m.3);
      is = made.1.2;
    }
write_done honest closed s after kind count (Err e) passed answers =
    absurd (no_write honest closed (with_read s kind count count) after e passed answers)

pub after_write : (honest closed : Bool) (s after : State) (kind : JobKind) (count : ℕ)
    (a : Result Answer ArchiveError) → IsPassed a
    → Answers honest closed (with_read s kind count count) RollWrite a after → IsMade honest s kind count after
after_write honest closed s after kind count a passed answers =
    write_done honest closed s after kind count answers.0 (subst IsPassed answers.1 passed) answers.2

pub record IsPlaced (honest : Bool) (s : State) (kind : JobKind) (count : ℕ) (octets : List ℕ) (after : State)
    : Type 0 where
  pub read : List ℕ
  pub reads : IsTrue honest → read ≡ octets
  pub is : after ≡ with_sums s kind count octets read

-- what an install puts in place is the file that the job had made
abbrev Places : Bool → State → State → Job → Type 0
Places honest s after job = (staged : StagedFile) × (octets : List ℕ) × (job.staged ≡ Some staged)
    × (IsTrue honest → octets ≡ staged.octets)
    × (after ≡ record (replaced s job.kind job.sources staged) {
      parts = replaced_parts job.kind job.sources octets s.manifest.entries s.parts;
    })

placed : (honest : Bool) (s after : State) (kind : JobKind) (count : ℕ) (octets : List ℕ)
    → Places honest (with_file s kind count octets) after (having_made s kind count octets)
    → IsPlaced honest s kind count octets after
placed honest s after kind count octets (staged, read, same, reads, is) =
    let this : staged ≡ file_made s octets = cc in
    record {
      read = read;
      reads = λ h. reads h ∙ ap (λ (f : StagedFile). f.octets) this;
      is = is ∙ ap (λ (f : StagedFile). record (replaced (with_file s kind count octets) kind count f) {
        parts = replaced_parts kind count read s.manifest.entries s.parts;
      }) this;
    }

pub after_install : (honest closed : Bool) (s after : State) (kind : JobKind) (count : ℕ) (octets : List ℕ)
    (a : Result Answer ArchiveError) → IsPassed a
    → Answers honest closed (with_file s kind count octets) RollInstall a after
    → IsPlaced honest s kind count octets after
after_install honest closed s after kind count octets (Ok answer) passed answers =
    let has = answers.1 in
    placed honest s after kind count octets
    (same_job (with_file s kind count octets) (having_made s kind count octets)
    (Places honest (with_file s kind count octets) after) refl
    (has.0, has.1, (has.2.0, has.2.1, has.2.2, (λ h. (has.2.4 h).1), has.2.5)))
after_install honest closed s after kind count octets (Err e) passed answers =
    absurd (no_install honest closed (with_file s kind count octets) after e passed answers)
