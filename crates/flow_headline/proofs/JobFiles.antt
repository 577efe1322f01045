-- The file that a job has made is that of its sums, whatever other events come.
use Rattle.std.proofs.Common.{◌≡◌, ℕ, ◌+◌, ◌≤◌, Bool, true, List, [], ◌∷◌, ◌++◌, length, take, drop}
use Rattle.std.proofs.Common.{Option, Some, None, Result, Ok, Err, refl, sym, ◌∙◌, ap, subst, arith}
use Rattle.std.specs.Prelude.{◌==◌, nat_lt, cond}
use Rattle.std.specs.List.{sum_by}
use Rattle.std.proofs.lemmas.List.{drop-append-le, length-drop, take-append-le}
use Rattle.std.proofs.lemmas.List.Sums.{sum_by-append}
use Rattle.std.proofs.lemmas.Option.{none-some, same_Some}
use Rattle.flow_manifest.specs.declared.following.JobKind.{JobKind}
use Rattle.flow_manifest.specs.declared.following.JobKind.TheVariants.{Merge, Roll}
use Rattle.flow_manifest.specs.declared.manifest.Entry.{Entry}
use Rattle.flow_manifest.specs.declared.manifest.Kind.{Kind}
use Rattle.flow_manifest.specs.declared.manifest.Kind.TheVariants.{Active, Rolled, Sealed}
use Rattle.flow_manifest.specs.declared.manifest.Manifest.{Manifest}
use Rattle.flow_manifest.specs.Following.{active_entry, active_of, count_before, count_of, front_of, next_manifest}
use Rattle.flow_manifest.specs.Following.{sealed_entry, source_of}
use Rattle.flow_manifest.specs.Manifest.{rank, IsValidManifest}
use Rattle.flow_manifest.proofs.ValidEntries.{are_entries, front_long, split}
use Rattle.flow_manifest.proofs.ManifestAfterInstall.{behind_short}
use Rattle.flow_measure.specs.Sums.{Table}
use Rattle.flow_rolled.specs.Rollup.{IsRollup}
use Rattle.flow_segment.specs.Carry.{prefix_of}
use Rattle.flow_model.specs.State.{Job, Part, StagedFile, State, end_of, after_seal}
use Rattle.flow_model.specs.Jobs.{IsJobSum, source_parts, width_made}
use Rattle.flow_model.specs.Standing.{PartsStand}
use Rattle.flow_archive.specs.declared.event.Answer.{Answer}
use Rattle.flow_archive.specs.declared.event.Answer.TheVariants.{Began}
use Rattle.flow_archive.specs.declared.event.Event.{Event}
use Rattle.flow_archive.specs.declared.event.Event.TheVariants.{Append, AppendBatch, Seal, RollBegin, MergeBegin}
use Rattle.flow_archive.specs.declared.event.Event.TheVariants.{RollStep, RollWrite, RollInstall, RollDrop, Retire}
use Rattle.flow_archive.specs.declared.refusal.ArchiveError.{ArchiveError}
use Rattle.flow_archive.specs.Answers.{Answers, Takes, told_as}
use Rattle.flow_archive.specs.JobAnswers.{AnswersBegin, HasSources, IsJobFile, IsStagedIn, begun, stepped, with_staged}
use Rattle.flow_archive.specs.Sources.{IsJobTime}
use Rattle.flow_headline.proofs.Growing.{IsSound}

-- A job has its sources, and the file that it has made is the one of their sums.
pub record IsMade (s : State) (job : Job) : Type 0 where
  pub sources : HasSources s job.kind job.sources
  pub file : (staged : StagedFile) → job.staged ≡ Some staged → IsJobFile s job staged.octets

abbrev pub HasMade : State → Type 0
HasMade s = (job : Job) → s.job ≡ Some job → IsMade s job

pub no_job_made : (s : State) → s.job ≡ None → HasMade s
no_job_made s none job there = absurd (none-some job (sym none ∙ there))

-- where another job is in the place of this one, or none
now_job : (s : State) (now : Job) → s.job ≡ Some now → IsMade s now → HasMade s
now_job s now is made job there = subst (IsMade s) (same_Some now job (sym is ∙ there)) made

-- ---- a seal

parts_many : (image : ℕ → List ℕ) (entries : List Entry) (parts : List Part) → PartsStand image entries parts
    → length parts ≡ length entries
parts_many image [] [] stand = refl
parts_many image [] (p ∷ parts) stand = absurd stand
parts_many image (e ∷ entries) [] stand = absurd stand
parts_many image (e ∷ entries) (p ∷ parts) stand = omega (arith, parts_many image entries parts stand.1)

module _ (m : Manifest) (valid : IsValidManifest m) (end count file prefix : ℕ) where
  abbrev next : Manifest
  next = next_manifest m end count file prefix

  abbrev closed_entry : Entry
  closed_entry = sealed_entry (active_of m) end count

  abbrev fresh : Entry
  fresh = active_entry file prefix

  both_ends : (f : Entry → ℕ) → (sum_by f m.entries ≡ sum_by f (front_of m) + f (active_of m))
      × (sum_by f next.entries ≡ sum_by f (front_of m) + f closed_entry + f fresh)
  both_ends f = (
    omega (arith, ap (sum_by f) (split m valid), sum_by-append f (front_of m) (active_of m ∷ [])),
    omega (arith, sum_by-append f (front_of m) (closed_entry ∷ fresh ∷ [])),
  )

  active_kind : (f : Kind → ℕ) → f (active_of m).kind ≡ f Active
  active_kind f = ap f (are_entries m valid).kind

  more_sources : (kind : JobKind) → count_of (source_of kind) m.entries ≤ count_of (source_of kind) next.entries
  more_sources Roll = let ends = both_ends (λ e. cond (rank e.kind == rank Sealed) 1 0) in
      omega (arith, ends.0, ends.1, active_kind (λ k. cond (rank k == rank Sealed) 1 0))
  more_sources Merge = let ends = both_ends (λ e. cond (rank e.kind == rank Rolled) 1 0) in
      omega (arith, ends.0, ends.1, active_kind (λ k. cond (rank k == rank Rolled) 1 0))

  same_place : (kind : JobKind) → count_before (source_of kind) next.entries ≡ count_before (source_of kind) m.entries
  same_place Roll = let ends = both_ends (λ e. cond (nat_lt (rank e.kind) (rank Sealed)) 1 0) in
      omega (arith, ends.0, ends.1, active_kind (λ k. cond (nat_lt (rank k) (rank Sealed)) 1 0))
  same_place Merge = let ends = both_ends (λ e. cond (nat_lt (rank e.kind) (rank Rolled)) 1 0) in
      omega (arith, ends.0, ends.1, active_kind (λ k. cond (nat_lt (rank k) (rank Rolled)) 1 0))

  same_width : (kind : JobKind) → width_made kind next ≡ width_made kind m
  same_width Roll = refl
  same_width Merge = refl

  same_sum : (kind : JobKind) (parts : List Part) (table : Table) → IsJobSum kind m parts table
      → IsJobSum kind next parts table
  same_sum Roll parts table is = is
  same_sum Merge parts table is = is

module _ (s : State) (valid : IsValidManifest s.manifest) (prefix : List ℕ) (part : Part)
    (many : length s.parts ≡ length (front_of s.manifest)) where
  abbrev then : State
  then = record (after_seal s prefix) { parts = s.parts ++ part ∷ [] }

  abbrev count : ℕ
  count = length s.active.messages

  same_sources : (kind : JobKind) (sources : ℕ) → sources ≤ count_of (source_of kind) s.manifest.entries
      → source_parts kind sources then ≡ source_parts kind sources s
  same_sources kind sources few =
      let place = count_before (source_of kind) s.manifest.entries in
      let short = behind_short s.manifest valid kind sources few in
      let long = front_long s.manifest valid in
      ap (λ (n : ℕ). take sources (drop n (s.parts ++ part ∷ [])))
      (same_place s.manifest valid (end_of s) count s.next (length prefix) kind)
      ∙ ap (take sources) (drop-append-le place s.parts (part ∷ []) (omega (arith, short, long, many)))
      ∙ take-append-le sources (drop place s.parts) (part ∷ [])
      (omega (arith, short, long, many, length-drop place s.parts))

  file_then : (job : Job) (octets : List ℕ) → job.sources ≤ count_of (source_of job.kind) s.manifest.entries
      → IsJobFile s job octets → IsJobFile then job octets
  file_then job octets few (table, rollup, sum, time) =
      let same = same_sources job.kind job.sources few in
      let own : (r : IsRollup (width_made job.kind then.manifest) octets table)
      × IsJobTime job.kind (source_parts job.kind job.sources s) r.time =
      subst (λ (w : ℕ). (r : IsRollup w octets table) × IsJobTime job.kind (source_parts job.kind job.sources s) r.time)
      (sym (same_width s.manifest valid (end_of s) count s.next (length prefix) job.kind)) (rollup, time) in (
        table,
        own.0,
        same_sum s.manifest valid (end_of s) count s.next (length prefix) job.kind
            (source_parts job.kind job.sources then) table
            (subst (λ (l : List Part). IsJobSum job.kind s.manifest l table) (sym same) sum),
        subst (λ (l : List Part). IsJobTime job.kind l (own.0).time) (sym same) own.1,
      )

  made_then : HasMade s → HasMade then
  made_then has job there =
      let made = has job there in
      let more = more_sources s.manifest valid (end_of s) count s.next (length prefix) job.kind in
      let sources : HasSources then job.kind job.sources =
      ((made.sources).0, omega (arith, (made.sources).1, more)) in
      record { sources = sources; file = λ f is. file_then job f.octets (made.sources).1 (made.file f is) }

-- ---- the events that are taken

begin_sources : (closed : Bool) (s after : State) (kind : JobKind) (count : ℕ) (answer : Answer)
    (done : Result (Unit {0}) ArchiveError) → ◌≡◌ {A = Result Answer ArchiveError} (Ok answer) (told_as (λ _. Began) done)
    → AnswersBegin closed s kind count done after → HasSources s kind count
begin_sources closed s after kind count answer (Ok x) is told = told.2
begin_sources closed s after kind count answer (Err e) is told = absurd (cc)

begun_made : (s after : State) (kind : JobKind) (count : ℕ) → HasSources s kind count → after ≡ begun s kind count
    → HasMade after
begun_made s after kind count sources is =
    let fresh_job : Job = record { kind = kind; sources = count; read = 0; staged = None } in
    subst HasMade (sym is) (now_job (begun s kind count) fresh_job refl
    (record { sources = sources; file = λ f some. absurd (none-some f some) }))

written_made : (s after : State) (job : Job) (staged : Option StagedFile) → s.job ≡ Some job
    → IsStagedIn true s job staged after → HasMade s → HasMade after
written_made s after job (Some file) there is has = subst HasMade (sym is) has
written_made s after job None there (numbers, (octets, made, is)) has =
    let file : StagedFile = record { file = s.next; octets = octets } in
    let now : Job = record job { staged = Some file } in
    let right : IsJobFile s job octets = made refl in
    subst HasMade (sym is) (now_job (with_staged s job octets) now refl
    (record {
      sources = (has job there).sources;
      file = λ f some. subst (λ (x : StagedFile). IsJobFile (with_staged s job octets) now x.octets)
          (same_Some file f some) right;
    }))

pub made_after : (honest closed : Bool) (s after : State) (e : Event) (answer : Answer) → IsSound s
    → Answers honest closed s e (Ok answer) after → Takes true s e after → HasMade s → HasMade after
made_after honest closed s after (Append message) answer sound told is has =
    subst HasMade (sym is)
    (λ job there. record { sources = (has job there).sources; file = (has job there).file })
made_after honest closed s after (AppendBatch messages) answer sound told is has =
    subst HasMade (sym is)
    (λ job there. record { sources = (has job there).sources; file = (has job there).file })
made_after honest closed s after Seal answer sound told (c, p, g, same, is) has =
    subst HasMade (sym is) (made_then s sound.valid (prefix_of c) p
    (parts_many sound.image (front_of s.manifest) s.parts sound.stand) has)
made_after honest closed s after (RollBegin count) answer sound (done, as_is, told) is has =
    begun_made s after Roll count (begin_sources closed s after Roll count answer done as_is told) is
made_after honest closed s after (MergeBegin count) answer sound (done, as_is, told) is has =
    begun_made s after Merge count (begin_sources closed s after Merge count answer done as_is told) is
made_after honest closed s after RollStep answer sound told (job, there, is) has =
    let made = has job there in
    subst HasMade (sym is) (now_job (record s { job = Some (stepped job) }) (stepped job) refl
    (record { sources = made.sources; file = made.file }))
made_after honest closed s after RollWrite answer sound told (job, there, (none, is)) has =
    written_made s after job job.staged there is has
made_after honest closed s after RollInstall answer sound told (job, there, (file, xs, made, sources, right, is)) has =
    subst HasMade (sym is) (λ own some. absurd (none-some own some))
made_after honest closed s after RollDrop answer sound told is has =
    subst HasMade (sym is) (λ own some. absurd (none-some own some))
made_after honest closed s after Retire answer sound told (file, (others, there, is)) has =
    subst HasMade (sym is)
    (λ job some. record { sources = (has job some).sources; file = (has job some).file })
