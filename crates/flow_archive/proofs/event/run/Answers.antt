use Rattle.std.proofs.Common.{◌≡◌, ℕ, ◌+◌, List, [], ◌∷◌, ◌++◌, take, Result, sym, ◌∙◌, ap, subst, arith}
use Rattle.std.proofs.lemmas.List.{take_more, take_all}
use Rattle.flow_archive.specs.declared.event.Answer.{Answer}
use Rattle.flow_archive.specs.declared.event.Event.{Event}
use Rattle.flow_archive.specs.declared.refusal.ArchiveError.{ArchiveError}
use Rattle.flow_archive.specs.declared.refusal.ArchiveError.TheVariants as refusal
use Rattle.flow_archive.specs.Runs.{AreCaused, IsRun}
use Rattle.flow_archive.proofs.Running.{caused_more, none_caused, run_more, all_moments, since}
use Rattle.flow_archive.proofs.event.run.Goals as goal

pub events-preserved : goal.events-preserved
events-preserved g c =
    let D = g.D.Disk in
    let e = c.event-item.result in
    let i = c.events.event-index in
    let more = run_more D c.args.archive.now (take i c.args.events.now)
    c.events.answers.items c.events.archive c.take_event-answer.new.archive e c.take_event-answer.result
    c.events.invariant.run c.take_event-answer.ensures.answers c.take_event-answer.ensures.step in
    let taken : take (i + 1) c.args.events.now ≡ take i c.args.events.now ++ e ∷ [] =
    take_more c.args.events.now i e (omega arith)
    ∙ ap (λ (x : Event). take i c.args.events.now ++ x ∷ []) (sym c.event-item.is) in
    record {
      run = subst (λ (l : List Event). IsRun D c.args.archive.now l
          c.push_reserved.new.self.items c.take_event-answer.new.archive) (sym taken)
          (subst (λ (l : List (Result Answer ArchiveError)). IsRun D c.args.archive.now
          (take i c.args.events.now ++ e ∷ []) l c.take_event-answer.new.archive)
          (sym c.push_reserved.ensures.items) more);
      cause = subst (λ (l : List (Result Answer ArchiveError)). AreCaused refusal.Fault
          (D.faults c.args.archive.now.disk) (D.faults c.take_event-answer.new.archive.disk) l)
          (sym c.push_reserved.ensures.items) (caused_more refusal.Fault _ _ _ c.events.answers.items
          c.take_event-answer.result c.events.invariant.cause c.take_event-answer.ensures.cause);
      unread = subst (λ (l : List (Result Answer ArchiveError)). AreCaused refusal.SourceFault
          c.args.faults.now c.take_event-answer.new.faults l)
          (sym c.push_reserved.ensures.items) (caused_more refusal.SourceFault _ _ _ c.events.answers.items
          c.take_event-answer.result c.events.invariant.unread c.take_event-answer.ensures.unread);
      room = omega (arith, c.push_reserved.ensures.capacity, c.events.invariant.room);
      count = c.push_reserved.ensures.len ∙ ap (λ (n : ℕ). n + 1) c.events.invariant.count;
    }

pub returns-clause-any_moment : goal.returns-clause-any_moment
returns-clause-any_moment g c h still =
    let D = g.D.Disk in
    let all : take c.events.event-index c.args.events.now ≡ c.args.events.now =
    take_all c.events.event-index c.args.events.now (omega arith) in
    let run = subst (λ (l : List Event). IsRun D c.args.archive.now l
    c.events.answers.items c.events.archive) all c.events.invariant.run in
    all_moments D c.args.archive.now c.args.events.now c.events.answers.items
    c.events.archive run h still
    (record {
      images = λ image left. c.is_closed-closed.ensures.stands h still image
          (g.met.D.Disk.only_now c.args.archive.now.disk image h left);
    })

pub returns-clause-since : goal.returns-clause-since
returns-clause-since g c h still i =
    let D = g.D.Disk in
    let all : take c.events.event-index c.args.events.now ≡ c.args.events.now =
    take_all c.events.event-index c.args.events.now (omega arith) in
    let run = subst (λ (l : List Event). IsRun D c.args.archive.now l
    c.events.answers.items c.events.archive) all c.events.invariant.run in
    since D i c.args.archive.now c.args.events.now c.events.answers.items c.events.archive
    run h still
    (record {
      images = λ image left. c.is_closed-closed.ensures.stands h still image
          (g.met.D.Disk.only_now c.args.archive.now.disk image h left);
    })
