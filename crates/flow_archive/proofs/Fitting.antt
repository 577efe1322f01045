-- The sums of a history within the limits fit their types, whatever part of it they are of.
use Rattle.std.proofs.Common.{◌≡◌, ◌≢◌, ℕ, ◌+◌, ◌<◌, ◌≤◌, Bool, true, List, [], ◌++◌, take, drop}
use Rattle.std.proofs.Common.{refl, sym, ap, ◌∙◌, subst, arith, ◌∷◌, Option, Some, Result, Err}
use Rattle.std.specs.List.{AllByRecursion}
use Rattle.std.proofs.lemmas.List.{length-drop, length-take, take-append-drop, take-take}
use Rattle.flow_manifest.specs.declared.following.JobKind.{JobKind}
use Rattle.flow_manifest.specs.Following.{count_before, count_of, front_of, messages_of, source_of, sources_of}
use Rattle.flow_manifest.specs.Manifest.{IsValidManifest}
use Rattle.flow_measure.specs.Flows.{FlowFits}
use Rattle.flow_measure.specs.History.{History, IsHistory, flows_in, templates_from}
use Rattle.flow_measure.specs.declared.flow.Flow.{Flow}
use Rattle.flow_measure.specs.Sums.{AllFit, table_of}
use Rattle.flow_measure.proofs.SumLaws.{merged-table_of}
use Rattle.flow_measure.proofs.ViewLaws.{flows-append}
use Rattle.flow_segment.specs.Carry.{Carry}
use Rattle.flow_segment.proofs.FewMessages.{few_fit_behind}
use Rattle.flow_segment.proofs.FlowsFit.{messages_fit}
use Rattle.flow_snapshot.specs.Totals.{IsWithinHistoryLimits}
use Rattle.flow_model.proofs.Accepting.{accepted_first, accepted_rest}
use Rattle.flow_model.specs.Chain.{HandsOn}
use Rattle.flow_model.specs.Jobs.{cut_before, source_parts, width_made, IsJobSum}
use Rattle.flow_model.specs.Shelved.{HasHistory}
use Rattle.flow_model.specs.Standing.{PartsStand}
use Rattle.flow_model.specs.State.{Job, Part, StagedFile, State}
use Rattle.flow_model.proofs.ReplacedHistory.{sources_hold}
use Rattle.flow_archive.specs.JobAnswers.{AnswersStep, IsSpent}
use Rattle.flow_archive.specs.declared.refusal.ArchiveError.{ArchiveError}
use Rattle.flow_archive.specs.declared.refusal.ArchiveError.TheVariants.{Damaged}

fit_in_two : (xs ys : List Flow) → AllByRecursion FlowFits (xs ++ ys)
    → AllByRecursion FlowFits xs × AllByRecursion FlowFits ys
fit_in_two [] ys fit = (tt, fit)
fit_in_two (x ∷ xs) ys fit = let more = fit_in_two xs ys fit.1 in ((fit.0, more.0), more.1)

fit_between : (h : History) → IsHistory h → IsWithinHistoryLimits h → (width from count : ℕ)
    → AllFit (table_of width (flows_in (take count (drop from h.all))))
fit_between h is within width from count =
    let front = take from h.all in
    let rest = drop from h.all in
    let part = take count rest in
    let two : flows_in h.all ≡ flows_in front ++ flows_in rest =
    ap flows_in (sym (take-append-drop from h.all)) ∙ flows-append front rest in
    let three : flows_in rest ≡ flows_in part ++ flows_in (drop count rest) =
    ap flows_in (sym (take-append-drop count rest)) ∙ flows-append part (drop count rest) in
    let all_fit = messages_fit [] h.all is.accepted within.octets in
    let fit_rest = (fit_in_two (flows_in front) (flows_in rest) (subst (AllByRecursion FlowFits) two all_fit)).1 in
    let fit = (fit_in_two (flows_in part) (flows_in (drop count rest))
    (subst (AllByRecursion FlowFits) three fit_rest)).0 in
    subst AllFit (merged-table_of width [] (flows_in part))
    (few_fit_behind width (templates_from [] front) [] part
    (accepted_first (templates_from [] front) count rest (accepted_rest [] from h.all is.accepted)) tt fit
    (omega (arith, within.few, length-take count rest, length-drop from h.all)))

module _ (s : State) (c : Carry) (h : History) (valid : IsValidManifest s.manifest) (hands : HandsOn s c)
    (image : ℕ → List ℕ) (stand : PartsStand image (front_of s.manifest) s.parts) (has : HasHistory s h)
    (within : IsWithinHistoryLimits h) (kind : JobKind) (sources read : ℕ) (staged : Option StagedFile)
    (few : sources ≤ count_of (source_of kind) s.manifest.entries) (lt : read < sources) where
  never_spent : IsSpent s (record { kind = kind; sources = sources; read = read; staged = staged }) → ⊥
  never_spent (table, sum, spent) =
      let parts = drop (count_before (source_of kind) s.manifest.entries) s.parts in
      let read_so_far : IsJobSum kind s.manifest (source_parts kind (read + 1) s) table =
      subst (λ (ps : List Part). IsJobSum kind s.manifest ps table)
      (take-take (read + 1) sources parts (omega (arith, lt))) sum in
      let is = sources_hold s c h valid hands image stand has kind (read + 1) (omega (arith, lt, few)) table
      read_so_far in
      spent (subst AllFit (sym is) (fit_between h has.history within (width_made kind s.manifest) (cut_before kind h)
      (messages_of (sources_of kind (read + 1) s.manifest.entries))))

  pub undamaged : (closed : Bool) (after : State) (r : Result ℕ ArchiveError) → AnswersStep true closed s r after
      → s.job ≡ Some (record { kind = kind; sources = sources; read = read; staged = staged })
      → (file at : ℕ) → r ≢ Err (Damaged file at)
  undamaged closed after r told job file at is =
      let damage : AnswersStep true closed s (Err (Damaged file at)) after =
      subst (λ (x : Result ℕ ArchiveError). AnswersStep true closed s x after) is told in
      let other : Job = damage.1.0 in
      let both : Some other ≡ Some (record { kind = kind; sources = sources; read = read; staged = staged }) =
      sym damage.1.1 ∙ job in
      let same : other ≡ record { kind = kind; sources = sources; read = read; staged = staged } = cc in
      never_spent (subst (IsSpent s) same ((damage.1.2.1.1 refl).2))
