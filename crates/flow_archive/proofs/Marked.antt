-- After an answer the archive has what its mark names.
use Rattle.std.proofs.Common.{◌≡◌, ◌≢◌, ℕ, ◌+◌, ◌-◌, ◌≤◌, Bool, List, [], ◌∷◌, ◌++◌, length, take, drop}
use Rattle.std.proofs.Common.{refl, sym, ap, ◌∙◌, subst, arith, Some, Ok}
use Rattle.std.specs.List.{AllByRecursion}
use Rattle.std.proofs.lemmas.List.{length-append}
use Rattle.flow_manifest.specs.declared.following.JobKind.{JobKind}
use Rattle.flow_manifest.specs.declared.following.JobKind.TheVariants.{Merge, Roll}
use Rattle.flow_manifest.specs.declared.manifest.Entry.{Entry}
use Rattle.flow_manifest.specs.declared.manifest.Kind.{Kind}
use Rattle.flow_manifest.specs.declared.manifest.Kind.TheVariants as kinds
use Rattle.flow_manifest.specs.declared.manifest.Manifest.{Manifest}
use Rattle.flow_manifest.specs.Following.{active_entry, active_of, count_before, count_of, front_of, made_entry}
use Rattle.flow_manifest.specs.Following.{sealed_entry, source_of, sources_of}
use Rattle.flow_manifest.specs.Manifest.{rank, IsValidManifest}
use Rattle.flow_manifest.proofs.ValidEntries.{are_entries}
use Rattle.flow_segment.specs.Carry.{prefix_of}
use Rattle.flow_snapshot.specs.declared.step.Mark.TheVariants.{Added, Sealed}
use Rattle.flow_model.specs.Jobs.{replaced, staged_of}
use Rattle.flow_model.specs.State.{end_of, Job, Part, StagedFile, State}
use Rattle.flow_model.proofs.SourcePlaces.{are_behind, behind_is}
use Rattle.flow_archive.specs.Answers.{AnswersAppend, AnswersSeal}
use Rattle.flow_archive.specs.JobAnswers.{AnswersInstall}
use Rattle.flow_archive.specs.Marks.{made_mark, HasMark, IsNewest}
use Rattle.flow_archive.specs.declared.event.Answer.{Answer}

pub appended_mark : (closed : Bool) (s after : State) (octets : List (List ℕ)) (position : ℕ) → 1 ≤ length octets
    → AnswersAppend closed s octets (Ok position) after → HasMark after (Added (position + 1 - length octets) position)
appended_mark closed s after octets position some told =
    let long = ap (λ (x : State). length x.active.messages) told.2 ∙ length-append s.active.messages octets in
    (omega (arith, told.3, long, some), omega (arith, told.3, long, some), omega (arith, told.3))

pub sealed_mark : (honest closed : Bool) (s after : State) (file : ℕ) → AnswersSeal honest closed s (Ok file) after
    → HasMark after (Sealed file)
sealed_mark honest closed s after file told =
    let moved = told.2 in
    let prefix = prefix_of moved.0 in
    subst (λ (x : State). IsNewest kinds.Sealed file x.manifest.entries) (sym moved.4) (
      front_of s.manifest,
      sealed_entry (active_of s.manifest) (end_of s) (length s.active.messages),
      active_entry s.next (length prefix) ∷ [],
      refl,
      refl,
      sym told.3,
      (λ is. cc, tt),
    )

-- ---- an install

none_behind : (kind : Kind) (low : ℕ) → rank kind ≤ low → (es : List Entry) (last : Entry) → last.kind ≢ kind
    → AllByRecursion (λ (e : Entry). low + 1 ≤ rank e.kind) es
    → AllByRecursion (λ (e : Entry). e.kind ≢ kind) (es ++ last ∷ [])
none_behind kind low at [] last not all = (not, tt)
none_behind kind low at (e ∷ es) last not all =
    (λ is. absurd (omega (arith, at, all.0, ap rank is)), none_behind kind low at es last not all.1)

module _ (s : State) (valid : IsValidManifest s.manifest) (count : ℕ) (staged : StagedFile) (parts : List Part)
    (after : State) where
  abbrev m : Manifest
  m = s.manifest

  installed_there : (kind : JobKind) → count ≤ count_of (source_of kind) m.entries
      → after ≡ record (replaced s kind count staged) { parts = parts } → HasMark after (made_mark kind staged.file count)
  installed_there Roll few is =
      subst (λ (x : State). IsNewest kinds.Rolled staged.file x.manifest.entries) (sym is) (
        take (count_before kinds.Sealed m.entries) m.entries,
        made_entry Roll (staged_of staged) (sources_of Roll count m.entries),
        drop (count_before kinds.Sealed m.entries + count) m.entries,
        refl,
        refl,
        refl,
        subst (AllByRecursion (λ (e : Entry). e.kind ≢ kinds.Rolled)) (sym (behind_is m valid Roll count few))
            (none_behind kinds.Rolled 1 (omega arith) _ (active_of m)
            (λ at. let no : kinds.Active ≡ kinds.Rolled = sym (are_entries m valid).kind ∙ at in cc)
            (are_behind m valid Roll count few)),
      )
  installed_there Merge few is =
      subst (λ (x : State). IsNewest kinds.Wide staged.file x.manifest.entries) (sym is) (
        take (count_before kinds.Rolled m.entries) m.entries,
        made_entry Merge (staged_of staged) (sources_of Merge count m.entries),
        drop (count_before kinds.Rolled m.entries + count) m.entries,
        refl,
        refl,
        refl,
        subst (AllByRecursion (λ (e : Entry). e.kind ≢ kinds.Wide)) (sym (behind_is m valid Merge count few))
            (none_behind kinds.Wide 0 (omega arith) _ (active_of m)
            (λ at. let no : kinds.Active ≡ kinds.Wide = sym (are_entries m valid).kind ∙ at in cc)
            (are_behind m valid Merge count few)),
      )

pub installed_mark : (honest closed : Bool) (s after : State) (job : Job) (staged : StagedFile) (answer : Answer)
    → IsValidManifest s.manifest → s.job ≡ Some job → job.staged ≡ Some staged
    → AnswersInstall honest closed s (Ok answer) after → HasMark after (made_mark job.kind staged.file job.sources)
installed_mark honest closed s after job staged answer valid job_is staged_is told =
    let has = told.1 in
    let other : Job = has.0 in
    let one = has.2 in
    let file : StagedFile = one.0 in
    let jobs : Some other ≡ Some job = sym has.1 ∙ job_is in
    let same : other ≡ job = cc in
    let files : Some file ≡ Some staged = sym one.2 ∙ ap (λ (j : Job). j.staged) same ∙ staged_is in
    let same_file : file ≡ staged = cc in
    subst (λ (f : StagedFile). HasMark after (made_mark job.kind f.file job.sources)) same_file
    (subst (λ (j : Job). HasMark after (made_mark j.kind file.file j.sources)) same
    (installed_there s valid other.sources file _ after other.kind one.3.1 one.5))
