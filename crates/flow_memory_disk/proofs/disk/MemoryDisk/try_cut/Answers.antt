use Rattle.std.proofs.Common.{arith, length-set, ap, sym, ◌∙◌, subst}
use Rattle.flow_memory_disk.specs.Calls.{Call, Story, told, shortened}
use Rattle.flow_memory_disk.specs.Record.{calls_of}
use Rattle.flow_memory_disk.proofs.Noted.{IsMadeBy, Replays, replays_on, fits_on, named_on, story_told, size_there}
use Rattle.flow_memory_disk.proofs.Rooms.{at_least, as_large, failed, done}
use Rattle.flow_memory_disk.proofs.disk.MemoryDisk.try_cut.Goals as goal
use Rattle.flow_memory_disk.proofs.disk.MemoryDisk.try_cut.Goals.{After-push}

is_made : (c : After-push)
    → IsMadeBy c.place_for-index.new.self.files.items c.place_for-index.result c.index_mut.result.now c.cut.new.self
    (shortened c.args.file c.args.count)
is_made c = record {
  place = c.place_for-index.ensures.place;
  stood = c.index_mut.ensures.value;
  number =
      c.cut.ensures.number;
  held = c.cut.ensures.held;
  first = c.cut.ensures.first;
  room = c.cut.ensures.room;
  marks =
      c.cut.ensures.marks;
}

pub invariant_of-self-clause-replays : goal.invariant_of-self-clause-replays
invariant_of-self-clause-replays c =
    let after = (goal.at.invariant_of-self-clause-replays c).After-push in
    let log = c.place_for-index.new.self.log in
    subst (Replays _) (sym (c.push.ensures.calls))
    (replays_on _ _ _ _ (shortened c.args.file c.args.count) (is_made after) (calls_of log.deeds.items log.octets.items)
    c.place_for-index.new.self.replays)

pub invariant_of-self-clause-places : goal.invariant_of-self-clause-places
invariant_of-self-clause-places c =
    omega (
      arith,
      length-set c.place_for-index.new.self.files.items c.place_for-index.result c.cut.new.self,
      c.place_for-index.new.self.places,
    )

pub invariant_of-self-clause-files_fit : goal.invariant_of-self-clause-files_fit
invariant_of-self-clause-files_fit c = let after = (goal.at.invariant_of-self-clause-files_fit c).After-push in
    fits_on _ _ _ _ (shortened c.args.file c.args.count) (is_made after) _ c.place_for-index.new.self.files_fit

pub returns-clause-named : goal.returns-clause-named
returns-clause-named c = let after = (goal.at.returns-clause-named c).After-push in
    named_on _ _ _ _ (shortened c.args.file c.args.count) (is_made after) _ c.place_for-index.ensures.named

pub returns-clause-ok : goal.returns-clause-ok
returns-clause-ok c =
    let call : Call = shortened c.args.file c.args.count in
    story_told _ _ _ _ call
    (is_made (goal.at.returns-clause-ok c).After-push) c.place_for-index.new.self.log c.push.new.self
    c.push.ensures.calls ∙ ap (λ (s : Story). told s call) c.place_for-index.ensures.story

pub cut-requires : goal.cut-requires
cut-requires c =
    let size = size_there c.place_for-index.new.self.files.items c.place_for-index.new.self.log c.args.file
    c.place_for-index.result c.index_mut.result.now c.place_for-index.ensures.place c.index_mut.ensures.value in
    omega (arith, c.requires, ap (λ (s : Story). (s.marks c.args.file).size) c.place_for-index.ensures.story, size)

pub returns-then-lacks_room-clause-err : goal.returns-then-lacks_room-clause-err
returns-then-lacks_room-clause-err c = c.fault.ensures.story

pub returns-then-lacks_room-clause-refused : goal.returns-then-lacks_room-clause-refused
returns-then-lacks_room-clause-refused c = c.fault.ensures.refused

pub returns-then-lacks_room-clause-room : goal.returns-then-lacks_room-clause-room
returns-then-lacks_room-clause-room c = c.fault.ensures.room

pub returns-then-lacks_room-clause-lent : goal.returns-then-lacks_room-clause-lent
returns-then-lacks_room-clause-lent c = c.fault.ensures.lent

pub returns-then-lacks_room-clause-cause : goal.returns-then-lacks_room-clause-cause
returns-then-lacks_room-clause-cause c = failed _ _ _ c.fault.ensures.is c.fault.ensures.later c.fault.ensures.risen

pub invariant_of-self-clause-limit : goal.invariant_of-self-clause-limit
invariant_of-self-clause-limit c = c.place_for-index.new.self.limit

pub invariant_of-self-clause-files_room : goal.invariant_of-self-clause-files_room
invariant_of-self-clause-files_room c = c.place_for-index.new.self.files_room

pub invariant_of-self-clause-spare_fit : goal.invariant_of-self-clause-spare_fit
invariant_of-self-clause-spare_fit c = c.place_for-index.new.self.spare_fit

pub invariant_of-self-clause-calls_room : goal.invariant_of-self-clause-calls_room
invariant_of-self-clause-calls_room c = as_large c.place_for-index.new.self.calls_room c.push.ensures.capacity

pub invariant_of-self-clause-written_room : goal.invariant_of-self-clause-written_room
invariant_of-self-clause-written_room c = at_least c.place_for-index.new.self.written_room c.push.ensures.octets

pub returns-clause-room : goal.returns-clause-room
returns-clause-room c = c.place_for-index.ensures.room

pub returns-clause-lent : goal.returns-clause-lent
returns-clause-lent c = c.place_for-index.ensures.lent

pub returns-clause-cause : goal.returns-clause-cause
returns-clause-cause c = done _ _ _ c.place_for-index.ensures.faults
