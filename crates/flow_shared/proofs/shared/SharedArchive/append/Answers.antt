use Rattle.std.proofs.Common.{◌<◌, ◌∷◌, ◌∙◌, [], length, sym}
use Rattle.flow_gate.specs.Gate.{octet_sum}
use Rattle.flow_archive.specs.declared.refusal.ArchiveError.TheVariants.{Fault}
use Rattle.flow_shared.specs.UnderLock.{LockState}
use Rattle.flow_shared.proofs.Behind.{cause_by, one_message, room_by}
use Rattle.flow_shared.proofs.Known.{says, sound_of}
use Rattle.flow_shared.proofs.shared.SharedArchive.append.Goals as goal

pub returns-clause-calls : goal.returns-clause-calls
returns-clause-calls g c =
    let opening = g.J.Naming.opening in
    let old : LockState g.row.D.Denot = c.deref_mut-2.result.now in
    let new : LockState g.row.D.Denot = c.append-answer.new.self in
    let limit = old.core.state.manifest.limit in
    let given = c.append-answer.ensures in
    let taken = sym c.deref_mut.ensures.value ∙ sym c.count_from.ensures ∙ sym c.deref_mut-2.ensures.value in record {
      old = old;
      new = new;
      steps = given.calls.0;
      goes_on = record {
        before = sound_of g.D.Disk opening c.deref.result.now old (c.deref.ensures ∙ taken) c.facts.ensures.under_lock;
        now = sound_of g.D.Disk opening c.deref-2.result.now new c.deref-2.ensures c.facts-2.ensures.under_lock;
        steps_are = given.calls.2;
        later = given.later;
      };
      call = (
        (
          given.calls.1,
          cause_by (λ r. r.position) Fault (g.D.Disk.faults old.core.disk) (g.D.Disk.faults new.core.disk)
              c.append-answer.result given.cause,
          room_by (λ r. r.position) (limit < length c.args.message.now) (limit < octet_sum (c.args.message.now ∷ []))
              (one_message limit c.args.message.now) c.append-answer.result given.room,
        ),
        says new (λ r. r.made) (λ r. r.shown) (λ r. r.told) c.append-answer.result given.made given.shown given.told,
      );
    }
