use Rattle.std.proofs.Common.{◌≡◌, ◌+◌, ℕ, List, [], ◌∷◌, ◌++◌, take, Result, refl, sym, ◌∙◌, ap, subst, arith}
use Rattle.std.proofs.lemmas.List.{take_more}
use Rattle.flow_archive.specs.declared.event.Event.{Event}
use Rattle.flow_archive.specs.declared.refusal.ArchiveError.{ArchiveError}
use Rattle.flow_archive.specs.declared.refusal.ArchiveError.TheVariants.{Fault, SourceFault}
use Rattle.flow_archive.specs.Runs.{IsRun}
use Rattle.flow_archive.proofs.Running.{run_more}
use Rattle.flow_turns.specs.Turns.{told_behind, IsCaused}
use Rattle.flow_turns.proofs.Telling.{caused_then, job_told_then}
use Rattle.flow_turns.proofs.job.take_job.Goals as goal

pub events-preserved : goal.events-preserved
events-preserved g c =
    let D = g.D.Disk in
    let e = c.event-item.result in
    let i = c.events.event-index in
    let so_far = c.events.invariant.run in
    let answer = c.take_event-answer.result in
    let old = c.args.archive.now in
    let new = c.take_event-answer.new.archive in
    let more = run_more D old (take i c.args.events.now) so_far.0 c.events.archive new e
    answer so_far.1 c.take_event-answer.ensures.answers c.take_event-answer.ensures.step in
    let taken : take (i + 1) c.args.events.now ≡ take i c.args.events.now ++ e ∷ [] =
    take_more c.args.events.now i e (omega arith)
    ∙ ap (λ (x : Event). take i c.args.events.now ++ x ∷ []) (sym c.event-item.is) in
    let told = c.told_behind-told.ensures in
    record {
      run = (
        so_far.0 ++ answer ∷ [],
        subst (λ (l : List Event). IsRun D old l (so_far.0 ++ answer ∷ []) new) (sym taken)
            more,
        told ∙ ap (λ (r : Result ℕ ArchiveError). told_behind r answer) so_far.2
            ∙ sym (job_told_then c.args.count so_far.0 answer),
      );
      cause = subst (λ (r : Result ℕ ArchiveError). IsCaused Fault (D.faults old.disk) (D.faults new.disk) r) (sym told)
          (caused_then Fault refl (D.faults old.disk) (D.faults c.events.archive.disk) (D.faults new.disk) c.events.told
          answer c.events.invariant.cause c.take_event-answer.ensures.cause);
      unread = subst (λ (r : Result ℕ ArchiveError). IsCaused SourceFault c.args.faults.now
          c.take_event-answer.new.faults r) (sym told)
          (caused_then SourceFault refl c.args.faults.now c.events.faults c.take_event-answer.new.faults c.events.told
          answer c.events.invariant.unread c.take_event-answer.ensures.unread);
    }
