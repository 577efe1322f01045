use Rattle.std.proofs.Common.{◌≡◌, ◌++◌, ◌∷◌, [], ◌∙◌, ℕ, List, length, subst, sym, refl, ap}
use Rattle.flow_disk.specs.Disk.{Held, loosened_at}
use Rattle.flow_directory.specs.File.{File}
use Rattle.flow_memory_directory.specs.declared.deed.Deed.{Deed}
use Rattle.flow_memory_directory.specs.declared.deed.Deed.TheVariants.{Cut}
use Rattle.flow_memory_directory.specs.Bound.{bound, made, IsSound}
use Rattle.flow_memory_directory.specs.Memory.{deeds_of, files_of}
use Rattle.flow_memory_directory.specs.Nodes.{octets_in, device_in}
use Rattle.flow_memory_directory.proofs.At.{sound_at, file_at, noted_all, changes_noted}
use Rattle.flow_memory_directory.proofs.Images.{loosened_sound}
use Rattle.flow_memory_directory.proofs.Settling.{loosening, loosens_all}
use Rattle.flow_memory_directory.proofs.memory.MemoryDirectory.loosen_node.Goals.{After-push_reserved}
use Rattle.flow_memory_directory.proofs.memory.MemoryDirectory.loosen_node.Goals as goal

log : (c : After-push_reserved) → c.push_reserved.new.self.items ≡ c.args.self.now.log.items ++ (Cut c.args.file c.len-count.result) ∷ []
log c = c.push_reserved.ensures.items ∙ ap (λ (l : List Deed). l ++ (Cut c.args.file c.len-count.result) ∷ []) c.reserve.ensures.items

sound : (c : After-push_reserved) → IsSound (made (bound (deeds_of c.args.self.now) c.args.file) (Cut c.args.file c.len-count.result)) (octets_in c.index.result.now) (device_in c.index.result.now)
sound c = loosened_sound (bound (deeds_of c.args.self.now) c.args.file) (bound (deeds_of c.args.self.now) c.args.file).reads (octets_in c.index.result.now) (device_in c.index.result.now) c.len-count.result
    (sound_at c.args.self.now c.in_ok-index.index c.args.file c.index.result.now c.in_ok-index.ensures.found.0 c.in_ok-index.ensures.found.1 c.index.ensures)

count : (c : After-push_reserved) → c.len-count.result ≡ length (files_of c.args.self.now c.args.file).held.reads
count c = c.len-count.ensures ∙ c.index.result.now.octets.ok.0
    ∙ sym (ap (λ (f : File). length f.held.reads) (file_at c.args.self.now c.in_ok-index.index c.args.file c.index.result.now c.in_ok-index.ensures.found.0 c.in_ok-index.ensures.found.1 c.index.ensures))

pub invariant_of-self-2 : goal.invariant_of-self-2
invariant_of-self-2 c = record { sound = noted_all c.args.self.now c.in_ok-index.index c.index.result.now (Cut c.args.file c.len-count.result) c.in_ok-index.ensures.found.0 c.in_ok-index.ensures.found.1 c.index.ensures (sound c) _ (log c) }

pub returns-clause-done : goal.returns-clause-done
returns-clause-done c =
    let after = (goal.at.returns-clause-done c).After-push_reserved in
    loosens_all c.args.self.now _ c.args.file c.len-count.result _ _ (files_of c.args.self.now c.args.file).held (count after)
    (changes_noted c.args.self.now c.in_ok-index.index c.index.result.now (Cut c.args.file c.len-count.result) c.in_ok-index.ensures.found.0 c.in_ok-index.ensures.found.1 c.index.ensures (sound after) _ refl (log after) _
    (loosening (bound (deeds_of c.args.self.now) c.args.file) (made (bound (deeds_of c.args.self.now) c.args.file) (Cut c.args.file c.len-count.result)) c.index.result.now c.len-count.result refl (c.len-count.ensures ∙ c.index.result.now.octets.ok.0)))
