use Rattle.std.proofs.Common.{arith, length-set, set, ap, sym, ◌∙◌, subst}
use Rattle.std.proofs.lemmas.Bool.{eqb-true}
use Rattle.flow_memory_disk.specs.declared.stored.StoredFile.{StoredFile}
use Rattle.flow_memory_disk.specs.Calls.{Call, Story, told, abandoned, removed}
use Rattle.flow_memory_disk.specs.Record.{calls_of}
use Rattle.flow_memory_disk.proofs.Noted.{IsMadeBy, Replays, replays_on, fits_on, named_on, story_told, place_stays}
use Rattle.flow_memory_disk.proofs.Rooms.{at_least, as_large, failed, done}
use Rattle.flow_memory_disk.proofs.disk.MemoryDisk.try_remove.Goals as goal
use Rattle.flow_memory_disk.proofs.disk.MemoryDisk.try_remove.Goals.{After-push-2}

first : (c : After-push-2)
    → IsMadeBy c.place_for-index.new.self.files.items c.place_for-index.result c.index_mut.result.now
    c.abandon.new.self (abandoned c.args.file)
first c = record {
  place = c.place_for-index.ensures.place;
  stood = c.index_mut.ensures.value;
  number =
      c.abandon.ensures.number;
  held = c.abandon.ensures.held;
  first = c.abandon.ensures.first;
  room =
      c.abandon.ensures.room;
  marks = c.abandon.ensures.marks;
}

second : (c : After-push-2)
    → IsMadeBy (set c.place_for-index.new.self.files.items c.place_for-index.result c.abandon.new.self)
    c.place_for-index.result c.index_mut-2.result.now c.remove.new.self (removed c.args.file)
second c =
    let place = c.place_for-index.ensures.place in
    record {
      place = place_stays c.place_for-index.new.self.files.items c.args.file c.place_for-index.result
          c.abandon.new.self place
          (c.abandon.ensures.number ∙ ap (λ (f : StoredFile). f.number) c.index_mut.ensures.value
          ∙ eqb-true _ c.args.file (place.here c.index_mut.result.now));
      stood = c.index_mut-2.ensures.value;
      number = c.remove.ensures.number;
      held = c.remove.ensures.held;
      first = c.remove.ensures.first;
      room = c.remove.ensures.room;
      marks = c.remove.ensures.marks;
    }

pub invariant_of-self-clause-replays : goal.invariant_of-self-clause-replays
invariant_of-self-clause-replays c =
    let after = (goal.at.invariant_of-self-clause-replays c).After-push-2 in
    let log = c.place_for-index.new.self.log in
    let middle = c.push.new.self in
    subst (Replays _) (sym c.push-2.ensures.calls)
    (replays_on _ _ _ _ (removed c.args.file) (second after) (calls_of middle.deeds.items middle.octets.items)
    (subst (Replays _) (sym c.push.ensures.calls)
    (replays_on _ _ _ _ (abandoned c.args.file) (first after) (calls_of log.deeds.items log.octets.items)
    c.place_for-index.new.self.replays)))

pub invariant_of-self-clause-places : goal.invariant_of-self-clause-places
invariant_of-self-clause-places c =
    let files = c.place_for-index.new.self.files.items in
    let index = c.place_for-index.result in
    omega (
      arith,
      length-set files index c.abandon.new.self,
      length-set (set files index c.abandon.new.self) index c.remove.new.self,
      c.place_for-index.new.self.places,
    )

pub invariant_of-self-clause-files_fit : goal.invariant_of-self-clause-files_fit
invariant_of-self-clause-files_fit c = let after = (goal.at.invariant_of-self-clause-files_fit c).After-push-2 in
    fits_on _ _ _ _ (removed c.args.file) (second after) _
    (fits_on _ _ _ _ (abandoned c.args.file) (first after) _ c.place_for-index.new.self.files_fit)

pub returns-clause-named : goal.returns-clause-named
returns-clause-named c = let after = (goal.at.returns-clause-named c).After-push-2 in
    named_on _ _ _ _ (removed c.args.file) (second after) _
    (named_on _ _ _ _ (abandoned c.args.file) (first after) _ c.place_for-index.ensures.named)

pub returns-clause-ok : goal.returns-clause-ok
returns-clause-ok c =
    let one : Call = abandoned c.args.file in
    let two : Call = removed c.args.file in
    let after = (goal.at.returns-clause-ok c).After-push-2 in
    story_told _ _ _ _ two (second after) c.push.new.self c.push-2.new.self c.push-2.ensures.calls
    ∙ ap (λ (s : Story). told s two)
    (story_told _ _ _ _ one (first after) c.place_for-index.new.self.log c.push.new.self c.push.ensures.calls
    ∙ ap (λ (s : Story). told s one) c.place_for-index.ensures.story)

pub returns-then-lacks_room-clause-err : goal.returns-then-lacks_room-clause-err
returns-then-lacks_room-clause-err c = c.fault.ensures.story

pub returns-then-lacks_room-clause-refused : goal.returns-then-lacks_room-clause-refused
returns-then-lacks_room-clause-refused c = c.fault.ensures.refused

pub returns-then-lacks_room-clause-room : goal.returns-then-lacks_room-clause-room
returns-then-lacks_room-clause-room c = c.fault.ensures.room

pub returns-then-lacks_room-clause-lent : goal.returns-then-lacks_room-clause-lent
returns-then-lacks_room-clause-lent c = c.fault.ensures.lent

pub returns-then-lacks_room-clause-cause : goal.returns-then-lacks_room-clause-cause
returns-then-lacks_room-clause-cause c = failed _ _ _ c.fault.ensures.is c.fault.ensures.later c.fault.ensures.risen

pub invariant_of-self-clause-limit : goal.invariant_of-self-clause-limit
invariant_of-self-clause-limit c = c.place_for-index.new.self.limit

pub invariant_of-self-clause-files_room : goal.invariant_of-self-clause-files_room
invariant_of-self-clause-files_room c = c.place_for-index.new.self.files_room

pub invariant_of-self-clause-spare_fit : goal.invariant_of-self-clause-spare_fit
invariant_of-self-clause-spare_fit c = c.place_for-index.new.self.spare_fit

pub invariant_of-self-clause-calls_room : goal.invariant_of-self-clause-calls_room
invariant_of-self-clause-calls_room c = as_large (as_large c.place_for-index.new.self.calls_room c.push.ensures.capacity) c.push-2.ensures.capacity

pub invariant_of-self-clause-written_room : goal.invariant_of-self-clause-written_room
invariant_of-self-clause-written_room c = at_least (at_least c.place_for-index.new.self.written_room c.push.ensures.octets) c.push-2.ensures.octets

pub returns-clause-room : goal.returns-clause-room
returns-clause-room c = c.place_for-index.ensures.room

pub returns-clause-lent : goal.returns-clause-lent
returns-clause-lent c = c.place_for-index.ensures.lent

pub returns-clause-cause : goal.returns-clause-cause
returns-clause-cause c = done _ _ _ c.place_for-index.ensures.faults
