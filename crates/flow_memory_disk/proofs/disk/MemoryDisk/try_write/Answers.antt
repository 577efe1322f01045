use Rattle.std.proofs.Common.{false, ◌+◌, arith, length-set, ℕ, length, ◌≡◌, List, ◌++◌, ◌∷◌, [], ap, sym, ◌∙◌, subst}
use Rattle.std.proofs.lemmas.List.{take_all}
use Rattle.flow_memory_disk.specs.Calls.{held_of, Call, Story, told, written}
use Rattle.flow_memory_disk.specs.Record.{calls_of}
use Rattle.flow_memory_disk.proofs.Noted.{IsMadeBy, Replays, replays_on, fits_on, named_on, story_told, size_there}
use Rattle.std.proofs.lemmas.List.{length-reverse}
use Rattle.flow_disk.specs.Disk.{Held}
use Rattle.flow_memory_disk.specs.declared.room.Room.{Room}
use Rattle.flow_memory_disk.specs.Room.{lacks_octets}
use Rattle.flow_memory_disk.specs.Memory.{story_of}
use Rattle.flow_memory_disk.specs.Stored.{room_in}
use Rattle.flow_memory_disk.proofs.Named.{fit_there, room_within, write_within}
use Rattle.flow_memory_disk.proofs.Read.{held_there}
use Rattle.flow_memory_disk.proofs.Rooms.{at_least, as_large, failed, done}
use Rattle.flow_memory_disk.proofs.disk.MemoryDisk.try_write.Goals as goal
use Rattle.flow_memory_disk.proofs.disk.MemoryDisk.try_write.Goals.{After-push}

is_made : (c : After-push)
    → IsMadeBy c.place_for-index.new.self.files.items c.place_for-index.result c.index_mut.result.now c.write.new.self
    (written c.args.file c.args.at c.args.octets.now)
is_made c = record {
  place = c.place_for-index.ensures.place;
  stood = c.index_mut.ensures.value;
  number =
      c.write.ensures.number;
  held = c.write.ensures.held;
  first = c.write.ensures.first;
  room =
      c.write.ensures.room;
  marks = c.write.ensures.marks;
}

calls_are : (c : After-push)
    → calls_of c.push.new.self.deeds.items c.push.new.self.octets.items ≡ calls_of
    c.place_for-index.new.self.log.deeds.items c.place_for-index.new.self.log.octets.items ++ written c.args.file
    c.args.at c.args.octets.now ∷ []
calls_are c =
    let old = calls_of c.place_for-index.new.self.log.deeds.items c.place_for-index.new.self.log.octets.items in
    c.push.ensures.calls ∙ ap (λ (l : List ℕ). old ++ written c.args.file c.args.at l ∷ [])
    (take_all (length c.args.octets.now) c.args.octets.now (omega arith))

pub invariant_of-self-clause-replays : goal.invariant_of-self-clause-replays
invariant_of-self-clause-replays c =
    let after = (goal.at.invariant_of-self-clause-replays c).After-push in
    let log = c.place_for-index.new.self.log in
    subst (Replays _) (sym (calls_are after))
    (replays_on _ _ _ _ (written c.args.file c.args.at c.args.octets.now) (is_made after)
    (calls_of log.deeds.items log.octets.items)
    c.place_for-index.new.self.replays)

pub invariant_of-self-clause-places : goal.invariant_of-self-clause-places
invariant_of-self-clause-places c =
    omega (
      arith,
      length-set c.place_for-index.new.self.files.items c.place_for-index.result c.write.new.self,
      c.place_for-index.new.self.places,
    )

pub invariant_of-self-clause-files_fit : goal.invariant_of-self-clause-files_fit
invariant_of-self-clause-files_fit c = let after = (goal.at.invariant_of-self-clause-files_fit c).After-push in
    fits_on _ _ _ _ (written c.args.file c.args.at c.args.octets.now)
    (is_made after) _ c.place_for-index.new.self.files_fit

pub returns-clause-named : goal.returns-clause-named
returns-clause-named c = let after = (goal.at.returns-clause-named c).After-push in
    named_on _ _ _ _ (written c.args.file c.args.at c.args.octets.now) (is_made after) _ c.place_for-index.ensures.named

pub returns-clause-ok : goal.returns-clause-ok
returns-clause-ok c =
    let call : Call = written c.args.file c.args.at c.args.octets.now in
    story_told _ _ _ _ call
    (is_made (goal.at.returns-clause-ok c).After-push) c.place_for-index.new.self.log c.push.new.self
    (calls_are (goal.at.returns-clause-ok c).After-push)
    ∙ ap (λ (s : Story). told s call) c.place_for-index.ensures.story

pub write-requires-clause-place : goal.write-requires-clause-place
write-requires-clause-place c =
    let size = size_there c.place_for-index.new.self.files.items c.place_for-index.new.self.log c.args.file
    c.place_for-index.result c.index_mut.result.now c.place_for-index.ensures.place c.index_mut.ensures.value in
    omega (arith, c.requires, ap (λ (s : Story). (s.marks c.args.file).size) c.place_for-index.ensures.story, size)

fits_there : (c : goal.After-index_mut) → room_in c.index_mut.result.now
    ≡ (c.place_for-index.new.self.room.octets, c.place_for-index.new.self.room.calls)
fits_there c = let disk = c.place_for-index.new.self in
    fit_there disk.files.items c.args.file c.place_for-index.result c.index_mut.result.now
    (disk.room.octets, disk.room.calls) c.place_for-index.ensures.place c.index_mut.ensures.value disk.files_fit

lacks_none : (c : goal.After-index_mut)
    → lacks_octets c.args.self.now c.args.file c.args.at (length c.args.octets.now) ≡ false
lacks_none c = sym c.lacks_octets.ensures ∙ c.if-lacks_octets.false

pub write-requires-clause-octets : goal.write-requires-clause-octets
write-requires-clause-octets c =
    let room = ap (λ (r : Room). r.octets) c.place_for-index.ensures.room in
    let self = c.args.self.now in
    let within = room_within self.room.octets self.room.calls (c.args.at + length c.args.octets.now)
    (length (held_of (story_of self) c.args.file).touched) (lacks_none c) in
    omega (arith, within, room, ap (λ (p : ℕ × ℕ). p.0) (fits_there c))

pub write-requires-clause-touched : goal.write-requires-clause-touched
write-requires-clause-touched c =
    let stored = c.index_mut.result.now in
    let calls = ap (λ (r : Room). r.calls) c.place_for-index.ensures.room in
    let held = ap (λ (h : Held). length h.touched) (ap (λ (s : Story). held_of s c.args.file)
    (sym c.place_for-index.ensures.story) ∙ held_there c.place_for-index.new.self c.args.file
    c.place_for-index.result stored c.place_for-index.ensures.place c.index_mut.ensures.value) in
    let self = c.args.self.now in
    let within = write_within self.room.octets self.room.calls (c.args.at + length c.args.octets.now)
    (length (held_of (story_of self) c.args.file).touched) (lacks_none c) in
    omega (
      arith,
      within,
      calls,
      ap (λ (p : ℕ × ℕ). p.1) (fits_there c),
      held,
      length-reverse stored.touched.items,
      stored.touched.ok.0,
    )

pub returns-then-lacks_room-clause-err : goal.returns-then-lacks_room-clause-err
returns-then-lacks_room-clause-err c = c.fault.ensures.story

pub returns-then-lacks_room-clause-refused : goal.returns-then-lacks_room-clause-refused
returns-then-lacks_room-clause-refused c = c.fault.ensures.refused

pub returns-then-lacks_room-clause-room : goal.returns-then-lacks_room-clause-room
returns-then-lacks_room-clause-room c = c.fault.ensures.room

pub returns-then-lacks_room-clause-lent : goal.returns-then-lacks_room-clause-lent
returns-then-lacks_room-clause-lent c = c.fault.ensures.lent

pub returns-then-lacks_room-clause-cause : goal.returns-then-lacks_room-clause-cause
returns-then-lacks_room-clause-cause c = failed _ _ _ c.fault.ensures.is c.fault.ensures.later c.fault.ensures.risen

pub invariant_of-self-clause-limit : goal.invariant_of-self-clause-limit
invariant_of-self-clause-limit c = c.place_for-index.new.self.limit

pub invariant_of-self-clause-files_room : goal.invariant_of-self-clause-files_room
invariant_of-self-clause-files_room c = c.place_for-index.new.self.files_room

pub invariant_of-self-clause-spare_fit : goal.invariant_of-self-clause-spare_fit
invariant_of-self-clause-spare_fit c = c.place_for-index.new.self.spare_fit

pub invariant_of-self-clause-calls_room : goal.invariant_of-self-clause-calls_room
invariant_of-self-clause-calls_room c = as_large c.place_for-index.new.self.calls_room c.push.ensures.capacity

pub invariant_of-self-clause-written_room : goal.invariant_of-self-clause-written_room
invariant_of-self-clause-written_room c = at_least c.place_for-index.new.self.written_room c.push.ensures.octets

pub returns-clause-room : goal.returns-clause-room
returns-clause-room c = c.place_for-index.ensures.room

pub returns-clause-lent : goal.returns-clause-lent
returns-clause-lent c = c.place_for-index.ensures.lent

pub returns-clause-cause : goal.returns-clause-cause
returns-clause-cause c = done _ _ _ c.place_for-index.ensures.faults
