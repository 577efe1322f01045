use Rattle.std.proofs.Common.{rules, ℕ, List, [], ap, sym, ◌∙◌, refl, subst}
use Rattle.flow_disk.specs.Disk.{settled_at}
use Rattle.flow_memory_disk.specs.declared.stored.StoredFile.{StoredFile}
use Rattle.flow_memory_disk.specs.Calls.{replayed}
use Rattle.flow_memory_disk.specs.Record.{calls_of}
use Rattle.flow_memory_disk.specs.Stored.{looked, held_in, first_in, marks_in, room_in, unwritten, IsPlace}
use Rattle.flow_memory_disk.specs.Stored.{IsNamedAfter}
use Rattle.flow_memory_disk.specs.Memory.{story_in}
use Rattle.flow_memory_disk.proofs.Looked.{place_pushed, missing, looked_begun}
use Rattle.flow_memory_disk.proofs.Named.{named_begun, fits_begun, last_fits, rest_fits}
use Rattle.flow_memory_disk.proofs.Stories.{same_story}
use Rattle.flow_memory_disk.proofs.disk.MemoryDisk.begin.Goals as goal

pub invariant_of-self-clause-replays : goal.invariant_of-self-clause-replays
invariant_of-self-clause-replays c n =
    let files = c.args.self.now.files.items in
    let fresh = c.begin.new.self in
    let calls = calls_of c.args.self.now.log.deeds.items c.args.self.now.log.octets.items in
    ap (λ (l : List StoredFile). looked held_in (settled_at []) l n) c.push_reserved.ensures.items
    ∙ looked_begun held_in (settled_at []) files fresh c.begin.ensures.held n ∙ c.args.self.now.replays n
    ∙ sym (ap (λ (octets : List ℕ). replayed n (settled_at octets) calls)
    (ap (λ (l : List StoredFile). looked first_in [] l n) c.push_reserved.ensures.items
    ∙ looked_begun first_in [] files fresh c.begin.ensures.first n))

pub invariant_of-self-clause-files_fit : goal.invariant_of-self-clause-files_fit
invariant_of-self-clause-files_fit c n =
    let self = c.args.self.now in
    let fit : ℕ × ℕ = (self.room.octets, self.room.calls) in
    let fits = c.begin.ensures.room ∙ last_fits self.spare.items c.pop.new.self.items c.in-Some.stored fit
    c.in-Some.ensures.items self.spare_fit in
    ap (λ (l : List StoredFile). looked room_in fit l n) c.push_reserved.ensures.items
    ∙ fits_begun self.files.items c.begin.new.self fit fits self.files_fit n

pub invariant_of-self-clause-spare_fit : goal.invariant_of-self-clause-spare_fit
invariant_of-self-clause-spare_fit c =
    let self = c.args.self.now in
    rest_fits self.spare.items c.pop.new.self.items c.in-Some.stored (self.room.octets, self.room.calls)
    c.in-Some.ensures.items self.spare_fit

pub returns-clause-named : goal.returns-clause-named
returns-clause-named c =
    let files = c.args.self.now.files.items in
    let named = named_begun files c.begin.new.self c.args.file (missing files c.args.file c.requires.missing)
    c.begin.ensures.number in
    subst (λ (l : List StoredFile). IsNamedAfter files l c.args.file) (sym c.push_reserved.ensures.items) named

pub returns-clause-place : goal.returns-clause-place
returns-clause-place c =
    let files = c.args.self.now.files.items in
    let place = place_pushed files c.begin.new.self c.args.file c.len-index.result
    (missing files c.args.file c.requires.missing) c.begin.ensures.number (search rules) in
    subst (λ (l : List StoredFile). IsPlace l c.args.file c.len-index.result) (sym c.push_reserved.ensures.items) place

pub returns-clause-story : goal.returns-clause-story
unfolding story_in
returns-clause-story c =
    let files = c.args.self.now.files.items in
    let fresh = c.begin.new.self in
    same_story _ _ (λ n. ap (λ (l : List StoredFile). looked first_in [] l n) c.push_reserved.ensures.items
    ∙ looked_begun first_in [] files fresh c.begin.ensures.first n) refl
    (λ n. ap (λ (l : List StoredFile). looked marks_in unwritten l n) c.push_reserved.ensures.items
    ∙ looked_begun marks_in unwritten files fresh c.begin.ensures.marks n)
