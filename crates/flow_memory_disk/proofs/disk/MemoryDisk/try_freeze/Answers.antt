use Rattle.std.proofs.Common.{arith, length-set, sym, ◌∙◌, ap}
use Rattle.flow_disk.specs.Disk.{Held}
use Rattle.flow_memory_disk.specs.Calls.{Story, held_of, frozen_in}
use Rattle.flow_memory_disk.specs.Record.{calls_of}
use Rattle.flow_memory_disk.proofs.Noted.{IsKept, replays_kept, fits_kept, named_kept, story_kept, story_frozen}
use Rattle.flow_memory_disk.proofs.Read.{held_there}
use Rattle.flow_memory_disk.proofs.disk.MemoryDisk.try_freeze.Goals as goal
use Rattle.flow_memory_disk.proofs.disk.MemoryDisk.try_freeze.Goals.{After-freeze}

kept : (c : After-freeze)
    → IsKept c.place_for-index.new.self.files.items c.args.file c.place_for-index.result c.index_mut.result.now
    c.freeze.new.self
kept c = record {
  place = c.place_for-index.ensures.place;
  stood = c.index_mut.ensures.value;
  number =
      c.freeze.ensures.number;
  held = c.freeze.ensures.held;
  first = c.freeze.ensures.first;
  room =
      c.freeze.ensures.room;
}

pub invariant_of-self-clause-replays : goal.invariant_of-self-clause-replays
invariant_of-self-clause-replays c =
    let log = c.place_for-index.new.self.log in
    replays_kept _ _ _ _ _ (kept (goal.at.invariant_of-self-clause-replays c).After-freeze)
    (calls_of log.deeds.items log.octets.items) c.place_for-index.new.self.replays

pub invariant_of-self-clause-places : goal.invariant_of-self-clause-places
invariant_of-self-clause-places c =
    omega (
      arith,
      length-set c.place_for-index.new.self.files.items c.place_for-index.result c.freeze.new.self,
      c.place_for-index.new.self.places,
    )

pub invariant_of-self-clause-files_fit : goal.invariant_of-self-clause-files_fit
invariant_of-self-clause-files_fit c =
    fits_kept _ _ _ _ _ (kept (goal.at.invariant_of-self-clause-files_fit c).After-freeze) _
    c.place_for-index.new.self.files_fit

pub returns-in-Some-clause-named : goal.returns-in-Some-clause-named
returns-in-Some-clause-named c =
    named_kept _ _ _ _ _ (kept (goal.at.returns-in-Some-clause-named c).After-freeze) _
    c.place_for-index.ensures.named

pub returns-in-Some-clause-ok : goal.returns-in-Some-clause-ok
returns-in-Some-clause-ok c =
    story_frozen _ _ _ _ _
    (kept (goal.at.returns-in-Some-clause-ok c).After-freeze) c.place_for-index.new.self.log c.in-Some.ensures.done
    ∙ ap (λ (s : Story). frozen_in s c.args.file) c.place_for-index.ensures.story

pub returns-in-Some-clause-octets : goal.returns-in-Some-clause-octets
returns-in-Some-clause-octets c =
    c.in-Some.ensures.copy
    ∙ sym (ap (λ (h : Held). h.reads)
    (held_there c.place_for-index.new.self c.args.file c.place_for-index.result c.index_mut.result.now
    c.place_for-index.ensures.place c.index_mut.ensures.value))
    ∙ ap (λ (s : Story). (held_of s c.args.file).reads) c.place_for-index.ensures.story

pub returns-in-None-clause-err : goal.returns-in-None-clause-err
returns-in-None-clause-err c =
    c.fault_of_lent.ensures.story
    ∙ story_kept _ _ _ _ _
    (kept (goal.at.returns-in-None-clause-err c).After-freeze) c.place_for-index.new.self.log
    c.in-None.ensures.none ∙ c.place_for-index.ensures.story
