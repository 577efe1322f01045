use Rattle.flow_gate.specs.Steps.{slices}
use Rattle.flow_shared.specs.Calls.{by}
use Rattle.flow_shared.specs.UnderLock.{all_of}
use Rattle.flow_shared.specs.Calls.{added_by}
use Rattle.flow_shared.proofs.Behind.{fits_after, seal_has_room, seal_refused, sealed_then}
use Rattle.flow_shared.proofs.Known.{added_later_if}
use Rattle.flow_shared.proofs.locked.Locked.once_sealed.Goals as goal

pub returns-in-Ok-clause-calls : goal.returns-in-Ok-clause-calls
returns-in-Ok-clause-calls g c =
    let D = g.D.Disk in
    sealed_then D c.args.self.now.core c.seal.new.self.core c.once.new.self.core
    (slices c.args.messages.now) c.in-Ok.field-0 (by (λ r. r.position) c.once.result) (all_of c.args.self.now)
    (all_of c.seal.new.self) (all_of c.once.new.self) c.in-Ok.ensures.call c.in-Ok.ensures.steps c.once.ensures.calls
    c.once.ensures.steps

pub returns-in-Err-clause-calls : goal.returns-in-Err-clause-calls
returns-in-Err-clause-calls g c =
    let D = g.D.Disk in
    seal_refused D c.args.self.now.core c.seal.new.self.core (slices c.args.messages.now)
    c.in-Err.error (all_of c.args.self.now) (all_of c.seal.new.self) c.in-Err.ensures.call c.in-Err.ensures.steps

pub returns-in-Ok-clause-room : goal.returns-in-Ok-clause-room
returns-in-Ok-clause-room g c =
    let D = g.D.Disk in
    fits_after D (λ r. r.position) c.args.self.now.core c.seal.new.self.core
    c.once.new.self.core (slices c.args.messages.now) c.in-Ok.field-0 c.once.result
    (added_by (slices c.args.messages.now) (by (λ r. r.position) c.once.result)) c.in-Ok.ensures.call
    c.once.ensures.calls c.requires.fit

pub returns-in-Err-clause-room : goal.returns-in-Err-clause-room
returns-in-Err-clause-room g c =
    let D = g.D.Disk in
    seal_has_room D c.args.self.now.core c.seal.new.self.core c.in-Err.error
    c.in-Err.ensures.call

pub returns-in-Ok-clause-added : goal.returns-in-Ok-clause-added
returns-in-Ok-clause-added g c =
    added_later_if g.J.Naming.opening c.args.self.now.made c.seal.new.self.made c.once.new.self.made
    (slices c.args.messages.now) (λ r. r.made) (λ r. r.position) c.in-Ok.ensures.later c.once.result
    c.once.ensures.added
