use Rattle.std.proofs.Common.{arith, ℕ, ◌≡◌, List, ◌++◌, length, take, drop, sym, ◌∙◌, ap, subst, refl}
use Rattle.std.specs.List.{All}
use Rattle.flow_disk.specs.Disk.{IsImage}
use Rattle.flow_memory_disk.specs.declared.stored.StoredFile.{StoredFile}
use Rattle.flow_memory_disk.specs.Calls.{Story, held_of}
use Rattle.flow_memory_disk.specs.Memory.{story_in, story_of}
use Rattle.flow_memory_disk.specs.Sound.{sound}
use Rattle.flow_memory_disk.specs.Stopped.{stopped}
use Rattle.flow_memory_disk.proofs.Noted.{Replays}
use Rattle.flow_memory_disk.proofs.Stops.{stop_image}
use Rattle.flow_memory_disk.proofs.StoppedFiles.{replays_after, story_after, fits_after, named_after, all_of}
use Rattle.flow_memory_disk.proofs.Rooms.{at_least}
use Rattle.flow_memory_disk.specs.Stored.{looked, room_in, AreNamedAlike}
use Rattle.flow_memory_disk.specs.Record.{calls_of}
use Rattle.flow_memory_disk.specs.Stopping.{AllStopped, CanStop}
use Rattle.flow_memory_disk.proofs.disk.MemoryDisk.crash.Goals as goal
use Rattle.flow_memory_disk.proofs.disk.MemoryDisk.crash.Goals.{After-clear}

all_stopped : (c : After-clear) → AllStopped c.args.choice c.args.self.files.items c.stop_all.new.files
all_stopped c = subst
    (λ (l : List StoredFile). AllStopped c.args.choice l c.stop_all.new.files) c.deref_mut.ensures.value
    c.stop_all.ensures

same_files : (c : After-clear)
    → take c.args.self.files.len
    (c.stop_all.new.files ++ drop (length c.stop_all.new.files) c.args.self.files.items) ≡ c.stop_all.new.files
same_files c = all_of c.args.self.files.items c.stop_all.new.files c.args.self.files.len
    (all_stopped c).long c.args.self.files.ok.0

story_is : (c : After-clear)
    → story_in (take c.args.self.files.len
    (c.stop_all.new.files ++ drop (length c.stop_all.new.files) c.args.self.files.items)) c.clear.new.self ≡ stopped
    (story_of c.args.self) c.args.choice
story_is c = ap (λ (l : List StoredFile). story_in l c.clear.new.self) (same_files c)
    ∙ story_after c.args.choice c.args.self.files.items c.stop_all.new.files
    (all_stopped c) c.args.self.log c.clear.new.self c.args.self.replays c.clear.ensures.calls

pub invariant_of-result-clause-replays : goal.invariant_of-result-clause-replays
invariant_of-result-clause-replays c =
    let new = c.stop_all.new.files in
    let cleared = c.clear.new.self in
    let after = (goal.at.invariant_of-result-clause-replays c).After-clear in
    subst (λ (l : List StoredFile). Replays l (calls_of cleared.deeds.items cleared.octets.items))
    (sym (same_files after))
    (subst (Replays new) (sym c.clear.ensures.calls)
    (replays_after c.args.choice c.args.self.files.items new (all_stopped after)))

pub invariant_of-result-clause-places : goal.invariant_of-result-clause-places
invariant_of-result-clause-places c =
    let after = (goal.at.invariant_of-result-clause-places c).After-clear in
    omega (
      arith,
      ap (λ (l : List StoredFile). length l) (same_files after),
      (all_stopped after).long,
      c.args.self.places,
    )

pub invariant_of-result-clause-files_fit : goal.invariant_of-result-clause-files_fit
invariant_of-result-clause-files_fit c =
    let fit : ℕ × ℕ = (c.args.self.room.octets, c.args.self.room.calls) in
    let after = (goal.at.invariant_of-result-clause-files_fit c).After-clear in
    subst (λ (l : List StoredFile). (n : ℕ) → looked room_in fit l n ≡ fit) (sym (same_files after))
    (fits_after c.args.choice c.args.self.files.items c.stop_all.new.files
    (all_stopped after) fit c.args.self.files_fit)

pub returns-clause-named : goal.returns-clause-named
returns-clause-named c =
    let after = (goal.at.returns-clause-named c).After-clear in
    subst (λ (l : List StoredFile). AreNamedAlike c.args.self.files.items l) (sym (same_files after))
    (named_after c.args.choice c.args.self.files.items c.stop_all.new.files (all_stopped after))

pub returns-clause-story : goal.returns-clause-story
returns-clause-story c = story_is (goal.at.returns-clause-story c).After-clear

pub returns-clause-image : goal.returns-clause-image
returns-clause-image c n =
    let old = story_of c.args.self in
    subst (λ (s : Story). IsImage (held_of old n) (held_of s n).reads)
    (sym (story_is (goal.at.returns-clause-image c).After-clear))
    (stop_image c.args.choice (held_of old n) (sound old n))

pub returns-clause-thawed : goal.returns-clause-thawed
returns-clause-thawed c n =
    ap (λ (s : Story). (s.marks n).frozen) (story_is (goal.at.returns-clause-thawed c).After-clear)

pub invariant_of-result-clause-limit : goal.invariant_of-result-clause-limit
invariant_of-result-clause-limit c = c.args.self.limit

pub invariant_of-result-clause-spare_fit : goal.invariant_of-result-clause-spare_fit
invariant_of-result-clause-spare_fit c = c.args.self.spare_fit

pub returns-clause-faults : goal.returns-clause-faults
returns-clause-faults c = refl

pub returns-clause-spare : goal.returns-clause-spare
returns-clause-spare c = refl

pub returns-clause-room : goal.returns-clause-room
returns-clause-room c = refl

pub returns-clause-lent : goal.returns-clause-lent
returns-clause-lent c = refl

pub returns-clause-unused : goal.returns-clause-unused
returns-clause-unused c = c.clear.ensures.none

pub invariant_of-result-clause-calls_room : goal.invariant_of-result-clause-calls_room
invariant_of-result-clause-calls_room c = at_least c.args.self.calls_room c.clear.ensures.deeds

pub invariant_of-result-clause-written_room : goal.invariant_of-result-clause-written_room
invariant_of-result-clause-written_room c = at_least c.args.self.written_room c.clear.ensures.octets

pub stop_all-requires : goal.stop_all-requires
stop_all-requires c =
    subst (λ (l : List StoredFile). All (λ file. CanStop file c.args.choice) l) (sym c.deref_mut.ensures.value)
    c.requires.each

pub invariant_of-result-clause-files_room : goal.invariant_of-result-clause-files_room
invariant_of-result-clause-files_room c = c.args.self.files_room
