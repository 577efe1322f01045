use Rattle.std.proofs.Common.{◌≡◌, ◌<◌, ◌∙◌, List, ap, sym, subst, inr}
use Rattle.std.specs.Prelude.{IfOk, IsTrue}
use mathlib.Core.List.{IsPrefix}
use Rattle.flow_gate.specs.Gate.{octet_sum}
use Rattle.flow_gate.specs.Steps.{slices}
use Rattle.flow_model.specs.Changes.{Change}
use Rattle.flow_archive.specs.declared.refusal.ArchiveError.TheVariants.{Fault}
use Rattle.flow_shared.specs.Told.{HasAdded}
use Rattle.flow_shared.specs.UnderLock.{LockState}
use Rattle.flow_shared.proofs.Behind.{cause_by, room_by}
use Rattle.flow_shared.proofs.Known.{added_later_if, says, sound_of}
use Rattle.flow_shared.proofs.shared.SharedArchive.append_batch.Goals as goal

pub returns-clause-calls : goal.returns-clause-calls
returns-clause-calls g c =
    let opening = g.J.Naming.opening in
    let old : LockState g.row.D.Denot = c.deref_mut-2.result.now in
    let new : LockState g.row.D.Denot = c.append_batch-answer.new.self in
    let limit = old.core.state.manifest.limit in
    let given = c.append_batch-answer.ensures in
    let messages = slices c.args.messages.now in
    let taken = sym c.deref_mut.ensures.value ∙ sym c.count_from.ensures ∙ sym c.deref_mut-2.ensures.value in
    let made : c.made.result.now ≡ old.made =
    c.made.ensures ∙ ap (λ (h : LockState g.row.D.Denot). h.made) (c.deref-2.ensures ∙ taken) in
    let now : c.again.result ≡ new.made =
    c.again.ensures ∙ (c.made-2.ensures ∙ ap (λ (h : LockState g.row.D.Denot). h.made) c.deref-4.ensures) in
    inr (
      new,
      record {
        old = old;
        steps = given.calls.0;
        adds = (
          given.calls.1,
          cause_by (λ r. r.position) Fault (g.D.Disk.faults old.core.disk) (g.D.Disk.faults new.core.disk)
              c.append_batch-answer.result given.cause,
          room_by (λ r. r.position) (limit < octet_sum messages) (limit < octet_sum messages) (λ less. less) c.append_batch-answer.result
              given.room,
        );
        goes_on = record {
          before = sound_of g.D.Disk opening c.deref.result.now old (c.deref.ensures ∙ taken) c.facts.ensures.under_lock;
          now = sound_of g.D.Disk opening c.deref-3.result.now new c.deref-3.ensures c.facts-2.ensures.under_lock;
          steps_are = given.calls.2;
          later = given.later;
        };
        known_before = subst (λ (l : List Change). IsPrefix c.args.known.now l) made c.if-not-begins.ensures;
        known_after = now;
      },
      says new (λ r. r.made) (λ r. r.shown) (λ r. r.told) c.append_batch-answer.result given.made given.shown
          given.told,
    )

pub returns-clause-added : goal.returns-clause-added
returns-clause-added g c =
    let opening = g.J.Naming.opening in
    let knew : List Change = c.args.known.now in
    let old : LockState g.row.D.Denot = c.deref_mut-2.result.now in
    let new : LockState g.row.D.Denot = c.append_batch-answer.new.self in
    let answer = c.append_batch-answer.result in
    let messages = slices c.args.messages.now in
    let taken = sym c.deref_mut.ensures.value ∙ sym c.count_from.ensures ∙ sym c.deref_mut-2.ensures.value in
    let made : c.made.result.now ≡ old.made =
    c.made.ensures ∙ ap (λ (h : LockState g.row.D.Denot). h.made) (c.deref-2.ensures ∙ taken) in
    let now : c.again.result ≡ new.made =
    c.again.ensures ∙ (c.made-2.ensures ∙ ap (λ (h : LockState g.row.D.Denot). h.made) c.deref-4.ensures) in
    subst (λ (l : List Change). IfOk answer (λ r. IsTrue r.made → HasAdded opening knew l messages r.position)) (sym now)
    (added_later_if opening knew old.made new.made messages (λ r. r.made) (λ r. r.position)
    (subst (λ (l : List Change). IsPrefix knew l) made c.if-not-begins.ensures) answer c.append_batch-answer.ensures.added)
